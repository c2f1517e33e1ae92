use Rattle.std.proofs.Common.{arith}
use Rattle.sat_core.proofs.cutting.Cutting.visit.Goals as goal

pub step-lit-requires : goal.step-lit-requires
step-lit-requires c = c.requires

pub reason_at-requires : goal.reason_at-requires
reason_at-requires c = c.requires

pub quiet_below-requires : goal.quiet_below-requires
quiet_below-requires c = omega (arith, c.requires)
