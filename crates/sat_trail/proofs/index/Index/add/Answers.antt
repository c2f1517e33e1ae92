use Rattle.std.proofs.Common.{subst, sym, refl, arith}
use Rattle.clause_store.specs.Formula.{IsKnown}
use Rattle.sat_trail.proofs.Adding.{added-index, with-along}
use Rattle.sat_trail.proofs.index.Index.add.Goals as goal

pub invariant_of-result : goal.invariant_of-result
invariant_of-result c =
    (added-index _ _ _ _ c.args.clause.now c.args.one c.args.two _ _ _ _ c.len-start.result _ c.len-number.result c.self.invariant
    (subst (λ w. IsKnown w.vars c.args.clause.now) (sym c.self.view_is) c.requires.known) c.requires.watched
    (omega arith) refl (omega arith) (omega arith) c.in_ok-extend_from_slice.ensures.items c.in_ok-push.ensures.items c.in_ok-push_row.ensures.ok c.in_ok-push_row-2.ensures.ok).0

pub returns : goal.returns
returns c =
    with-along _ _ _ _ _ c.self.view_is
    (added-index _ _ _ _ c.args.clause.now c.args.one c.args.two _ _ _ _ c.len-start.result _ c.len-number.result c.self.invariant
    (subst (λ w. IsKnown w.vars c.args.clause.now) (sym c.self.view_is) c.requires.known) c.requires.watched
    (omega arith) refl (omega arith) (omega arith) c.in_ok-extend_from_slice.ensures.items c.in_ok-push.ensures.items c.in_ok-push_row.ensures.ok c.in_ok-push_row-2.ensures.ok).1
