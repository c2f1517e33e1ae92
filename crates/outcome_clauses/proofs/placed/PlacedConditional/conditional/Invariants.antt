use Rattle.std.proofs.Common.{◌≡◌, take, map}
use Rattle.outcome_clauses.specs.Placed.{ender_in}
use Rattle.outcome_clauses.proofs.placed.PlacedConditional.conditional.Given as goal

abbrev pub invariant-loop-ender : goal.invariant-loop-ender
invariant-loop-ender l = l.enders ≡ map (ender_in l.table l.self) (take l.ender-index l.self.enders)
