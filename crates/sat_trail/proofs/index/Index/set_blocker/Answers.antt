use Rattle.std.proofs.Common.{ℕ, ◌<◌, subst, sym}
use Rattle.std.proofs.lemmas.List.{length-map}
use Rattle.sat_trail.specs.Packing.{place_of}
use Rattle.sat_trail.specs.Watching.{CanBlock}
use Rattle.sat_trail.proofs.Blocking.{blocked-index, blocked-along, blocked-place, blocked-within}
use Rattle.sat_trail.proofs.index.Index.set_blocker.Goals as goal

pub set_watcher-requires-clause-there : goal.set_watcher-requires-clause-there
set_watcher-requires-clause-there c =
    subst (λ (n : ℕ). place_of c.args.from < n) (length-map c.self.inside.rows.items (λ r. r.items))
    (blocked-place _ c.args.from c.args.at c.args.clause c.args.blocker c.self.invariant.indexed (subst (λ w. CanBlock w c.args.from c.args.at c.args.clause c.args.blocker) (sym c.self.view_is) c.requires))

pub set_watcher-requires-clause-within : goal.set_watcher-requires-clause-within
set_watcher-requires-clause-within c =
    blocked-within _ c.args.from c.args.at c.args.clause c.args.blocker (subst (λ w. CanBlock w c.args.from c.args.at c.args.clause c.args.blocker) (sym c.self.view_is) c.requires)

pub invariant_of-self : goal.invariant_of-self
invariant_of-self c =
    (blocked-index _ _ _ _ _ c.args.from c.args.at c.args.clause c.args.blocker c.self.invariant
    (subst (λ w. CanBlock w c.args.from c.args.at c.args.clause c.args.blocker) (sym c.self.view_is) c.requires) c.set_watcher.ensures).0

pub returns : goal.returns
returns c =
    blocked-along _ _ _ c.args.from c.self.view_is
    (blocked-index _ _ _ _ _ c.args.from c.args.at c.args.clause c.args.blocker c.self.invariant
    (subst (λ w. CanBlock w c.args.from c.args.at c.args.clause c.args.blocker) (sym c.self.view_is) c.requires) c.set_watcher.ensures).1
