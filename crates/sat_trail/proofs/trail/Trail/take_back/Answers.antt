use Rattle.sat_trail.proofs.Trailing.{trail-pop}
use Rattle.sat_trail.proofs.trail.Trail.take_back.Goals as goal

pub invariant_of-self : goal.invariant_of-self
invariant_of-self c = rw c.mark.ensures (trail-pop _ _ _ _ c.in-Some.step c.self.invariant c.in-Some.ensures.items)
