use Rattle.sat_trail.specs.Engines.{IsLoading}
use Rattle.sat_trail.proofs.engine.Engine.start.Given as goal

abbrev pub invariant-loop-at : goal.invariant-loop-at
invariant-loop-at l = IsLoading l.trail l.fn.index l.at
