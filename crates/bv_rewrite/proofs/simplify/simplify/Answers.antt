use Rattle.std.proofs.Common.{◌<◌, arith, length, nat_eq, subst, sym}
use Rattle.indexmap.specs.IndexMap.{get}
use Rattle.bv_rewrite.specs.Simpler.{StandsFor}
use Rattle.bv_rewrite.specs.Walks.{standing}
use Rattle.bv_rewrite.proofs.Walking.{stands, stands_before}
use Rattle.bv_rewrite.proofs.simplify.simplify.Goals as goal

pub returns-clause-term : goal.returns-clause-term
returns-clause-term g c =
    let old = c.args.pool.now in
    let new = c.loop-visit.pool in
    let root = c.args.root.number in
    let done = get nat_eq c.loop-visit.done in
    let kept = c.loop-visit.invariant in
    let inside : root < length new = omega (arith, c.requires, kept.older.grows) in
    subst (λ id. StandsFor old new root id) (sym c.stands_for.ensures)
    (stands_before old new kept.older kept.variables root (standing done root) c.requires (stands new done kept.done root inside))
