use Rattle.std.proofs.Common.{nat_eq}
use Rattle.indexmap.specs.IndexMap.{get}
use Rattle.bv_terms.specs.Values.{KeepsTerms}
use Rattle.bv_terms.specs.Variables.{KeepsVariables}
use Rattle.bv_rewrite.specs.Walks.{AreDone, AreInside, weights}
use Rattle.bv_rewrite.proofs.simplify.simplify.Given as goal

abbrev pub invariant-loop-visit : goal.invariant-loop-visit
invariant-loop-visit g l = record {
  older : KeepsTerms l.fn.pool l.pool;
  variables : KeepsVariables l.fn.pool l.pool;
  inside : AreInside l.pool l.walk.items;
  done : AreDone l.pool (get nat_eq l.done);
}

abbrev pub decreases-loop-visit : goal.decreases-loop-visit
decreases-loop-visit g l = weights l.walk.items
