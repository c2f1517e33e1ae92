-- The entry of a spawn.
use Rattle.std.specs.Prelude.{ℕ, Option, Some, None}
use Rattle.odr_log.specs.declared.log.Call.{Call}
use Rattle.odr_log.specs.declared.log.Call.TheVariants as call
use Rattle.odr_log.specs.declared.log.CallRec.{CallRec}

abbrev pub entry_of : Call → Option ℕ
entry_of (call.Spawn entry child) = Some entry
entry_of other = None

abbrev pub entry_in : Option CallRec → Option ℕ
entry_in (Some r) = entry_of r.call
entry_in None = None
