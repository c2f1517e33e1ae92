use Rattle.std.proofs.Common.{subst, sym}
use Rattle.sat_trail.specs.Watching.{CanMove}
use Rattle.sat_trail.proofs.Moving.{moved-index, moved-along}
use Rattle.sat_trail.proofs.index.Index.move_watch.Goals as goal

pub invariant_of-self-2 : goal.invariant_of-self-2
invariant_of-self-2 c =
    (moved-index _ _ _ _ _ _ _ c.args.from c.args.at c.args.clause c.args.stay c.args.to c.self.invariant
    (subst (λ w. CanMove w c.args.from c.args.at c.args.clause c.args.stay c.args.to) (sym c.self.view_is) c.requires)
    c.in_ok-push_row.ensures.ok c.drop_from_row.ensures c.set_pair.ensures).0

pub returns-clause-ok : goal.returns-clause-ok
returns-clause-ok c =
    moved-along _ _ _ _ _ _ _ _ c.self.view_is
    (moved-index _ _ _ _ _ _ _ c.args.from c.args.at c.args.clause c.args.stay c.args.to c.self.invariant
    (subst (λ w. CanMove w c.args.from c.args.at c.args.clause c.args.stay c.args.to) (sym c.self.view_is) c.requires)
    c.in_ok-push_row.ensures.ok c.drop_from_row.ensures c.set_pair.ensures).1
