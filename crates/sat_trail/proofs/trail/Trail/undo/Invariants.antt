use Rattle.std.proofs.Common.{◌≡◌, ◌≤◌, length, take}
use Rattle.sat_trail.proofs.trail.Trail.undo.Given as goal

abbrev pub invariant-loop-self : goal.invariant-loop-self
invariant-loop-self l =
    record {
      vars : l.self.vars ≡ l.initial.self.vars;
      front : take l.to l.self.steps ≡ take l.to l.initial.self.steps;
      enough : l.to ≤ length l.self.steps;
    }

abbrev pub decreases-loop-self : goal.decreases-loop-self
decreases-loop-self l = length l.self.steps
