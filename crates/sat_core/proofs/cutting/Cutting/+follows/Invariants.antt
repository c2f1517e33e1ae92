use Rattle.std.proofs.Common.{◌+◌, ◌*◌}
use Rattle.sat_core.proofs.cutting.Cutting.+follows.Given as goal

abbrev pub decreases-follows : goal.decreases-follows
decreases-follows l = 2 * l.depth

abbrev pub decreases-is_given : goal.decreases-is_given
decreases-is_given l = 2 * l.depth + 1
