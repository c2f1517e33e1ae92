-- Tests of equality. Each is true exactly where its two values are equal: `SameLaws.antt` has the laws.
use Rattle.std.specs.Prelude.{ℕ, ◌==◌, ◌&&◌, Bool, true, false, not, Option, Some, None}
use Rattle.std.specs.Cmp.Lexicographic.{pointwise}
use Rattle.std.specs.Str.{bytes_eq}
use Rattle.odr_log.specs.Grammar.{cause_code}
use Rattle.odr_log.specs.declared.log.Cause.{Cause}
use Rattle.odr_log.specs.declared.log.End.{End}
use Rattle.odr_log.specs.declared.log.End.TheVariants as end
use Rattle.odr_log.specs.declared.log.PathItem.{PathItem}
use Rattle.odr_log.specs.declared.log.PathItem.TheVariants as item
use Rattle.odr_log.specs.declared.log.ThreadLog.{ThreadLog}
use Rattle.odr_log.specs.declared.log.Call.{Call}
use Rattle.odr_log.specs.declared.log.Call.TheVariants as call
use Rattle.odr_log.specs.declared.log.CallRec.{CallRec}
use Rattle.odr_log.specs.declared.log.Log.{Log}

abbrev pub same_flag : Bool → Bool → Bool
same_flag true b = b
same_flag false b = not b

abbrev pub same_child : Option ℕ → Option ℕ → Bool
same_child None None = true
same_child None (Some b) = false
same_child (Some a) None = false
same_child (Some a) (Some b) = a == b

abbrev pub same_cause : Cause → Cause → Bool
same_cause a b = cause_code a == cause_code b

abbrev pub same_end : End → End → Bool
same_end (end.Exited tid code) (end.Exited tid' code') = tid == tid' && code == code'
same_end (end.Faulted tid cause) (end.Faulted tid' cause') = tid == tid' && same_cause cause cause'
same_end end.AllDone end.AllDone = true
same_end end.Cut end.Cut = true
same_end _ _ = false

abbrev pub same_item : PathItem → PathItem → Bool
same_item (item.Branch taken) (item.Branch taken') = same_flag taken taken'
same_item (item.Jump target) (item.Jump target') = target == target'
same_item _ _ = false

abbrev pub same_thread : ThreadLog → ThreadLog → Bool
same_thread a b = a.steps == b.steps && pointwise same_item a.path b.path

abbrev pub same_call : Call → Call → Bool
same_call (call.Exit code) (call.Exit code') = code == code'
same_call call.EndThread call.EndThread = true
same_call (call.Spawn entry child) (call.Spawn entry' child') = entry == entry' && same_child child child'
same_call (call.Join target ok) (call.Join target' ok') = target == target' && same_flag ok ok'
same_call (call.Lock mutex ok) (call.Lock mutex' ok') = mutex == mutex' && same_flag ok ok'
same_call (call.Unlock mutex ok) (call.Unlock mutex' ok') = mutex == mutex' && same_flag ok ok'
same_call (call.TryLock mutex got) (call.TryLock mutex' got') = mutex == mutex' && same_flag got got'
same_call (call.Write bytes) (call.Write bytes') = bytes_eq bytes bytes'
same_call call.WriteBad call.WriteBad = true
same_call (call.Read want bytes) (call.Read want' bytes') = want == want' && bytes_eq bytes bytes'
same_call call.ReadBad call.ReadBad = true
same_call call.SelfId call.SelfId = true
same_call call.Yield call.Yield = true
same_call (call.Unknown number) (call.Unknown number') = number == number'
same_call _ _ = false

abbrev pub same_rec : CallRec → CallRec → Bool
same_rec a b = a.tid == b.tid && a.at == b.at && same_call a.call b.call

abbrev pub same_log : Log → Log → Bool
same_log a b = a.version == b.version && same_end a.end b.end
    && pointwise same_thread a.threads b.threads && pointwise same_rec a.calls b.calls
