use Rattle.std.proofs.Common.{◌<◌, sym, subst}
use Rattle.clause_store.specs.UnitRule.{LeavesOpen}
use Rattle.sat_trail.specs.Paths.{value_in}
use Rattle.sat_trail.proofs.Trailing.{trail-push}
use Rattle.sat_trail.proofs.trail.Trail.push.Goals as goal

pub invariant_of-self-2 : goal.invariant_of-self-2
invariant_of-self-2 c = rw (c.mark.ensures, c.in_ok-push.ensures.items) (trail-push _ _ _ c.args.lit c.args.reason c.self.invariant (subst (λ t. c.args.lit.var < t.vars) (sym c.self.view_is) c.requires.known) (subst (λ t. LeavesOpen (value_in t.steps) c.args.lit) (sym c.self.view_is) c.requires.still_open))
