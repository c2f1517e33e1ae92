use Rattle.std.proofs.Common.{List, length, subst, sym}
use Rattle.bv_terms.specs.BitVectors.{not_value}
use Rattle.clause_store.specs.declared.lit.Lit.{Lit}
use Rattle.bit_clauses.specs.Operation.{SpellsWired}
use Rattle.bit_clauses.proofs.Wires.{inverse_wired}
use Rattle.bit_clauses.proofs.unary.inverse.Goals as goal

pub returns : goal.returns
returns c = λ sure. subst (λ (l : List Lit). SpellsWired c.args.lits.now sure (length c.args.lits.now) not_value l) (sym c.in_ok-out.ensures) (inverse_wired c.args.lits.now sure)
