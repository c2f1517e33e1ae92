-- The most entries of a schedule.
use Rattle.std.specs.Prelude.{ℕ, ◌+◌}
use Rattle.odr_limits.specs.declared.TheConstants.{MOST_STEPS}

-- the steps of a log, and one more where it ends with a fault
abbrev pub most_entries : ℕ
most_entries = MOST_STEPS + 1
