-- Whether the calls of a log could be made in the order of their records, by the table of guest calls.
use Rattle.std.specs.Prelude.{◌≡◌, ◌<◌, ◌≤◌, ◌⊎◌, Bool, true, false, List, [], ◌∷◌, length, Option, None, is_some, AllPairs}
use Rattle.std.specs.List.{list_all, fold}
use Rattle.odr_log.specs.declared.log.Call.{Call}
use Rattle.odr_log.specs.declared.log.Call.TheVariants as call
use Rattle.odr_log.specs.declared.log.CallRec.{CallRec}
use Rattle.odr_log.specs.declared.log.End.{End}
use Rattle.odr_log.specs.declared.log.End.TheVariants as end
use Rattle.odr_log.specs.declared.log.Log.{Log}
use Rattle.odr_log.specs.Tape.{tape_of}
use Rattle.rv_model.specs.declared.state.Calls.{Calls}
use Rattle.rv_model.specs.declared.state.Halt.{Halt}
use Rattle.rv_model.specs.declared.state.Note.TheVariants as note
use Rattle.rv_model.specs.declared.hearing.Reply.{Reply}
use Rattle.rv_model.specs.Calls.{opening_calls, no_reply, says, made, end_value, waits, reply_to, asked_in, calls_after}
use Rattle.rv_model.specs.Step.{halt_then}
use Rattle.rv_model.specs.Run.{end_by}

-- the reply of the shared state that a record tells
abbrev pub reply_in : Call → Reply
reply_in (call.Spawn entry child) = record no_reply { child = child }
reply_in (call.Join target ok) = says ok
reply_in (call.Lock mutex ok) = says ok
reply_in (call.Unlock mutex ok) = says ok
reply_in (call.TryLock mutex got) = says got
reply_in (call.Read want bytes) = record no_reply { bytes = bytes }
reply_in (call.Exit code) = no_reply
reply_in call.EndThread = no_reply
reply_in (call.Write bytes) = no_reply
reply_in call.WriteBad = no_reply
reply_in call.ReadBad = no_reply
reply_in call.SelfId = no_reply
reply_in call.Yield = no_reply
reply_in (call.Unknown number) = no_reply

-- A buffer has at most 256 bytes, and the numbers 1 to 11 are known.
abbrev pub IsPossible : Call → Type 0
IsPossible (call.Write bytes) = length bytes ≤ 256
IsPossible (call.Read want bytes) = want ≤ 256
IsPossible (call.Unknown number) = (number ≡ 0) ⊎ (11 < number)
IsPossible other = Unit {0}

-- The caller was made and has not ended, it does not wait, and it is answered as the record says.
pub record FitsRecord (calls : Calls) (r : CallRec) : Type 0 where
  pub exists : r.tid < made calls
  pub live : end_value calls r.tid ≡ None
  pub ready : waits calls r.tid (asked_in r.call) ≡ false
  pub answered : reply_to calls r.tid (asked_in r.call) ≡ reply_in r.call
  pub possible : IsPossible r.call

-- The shared state after a record. The values with which threads end are not in a log; here each is 0.
abbrev pub after_record : Calls → CallRec → Calls
after_record calls r = calls_after calls r.tid 0 r.call

-- each record fits the shared state that the records before it leave
abbrev pub Pass : Calls → List CallRec → Type 0
Pass calls [] = Unit {0}
Pass calls (r ∷ later) = FitsRecord calls r × Pass (after_record calls r) later

-- the shared state after all records: thread 0 was alone, all mutexes free and the tape whole
abbrev pub final_calls : Log → Calls
final_calls log = fold after_record (opening_calls (tape_of log)) log.calls

abbrev pub is_exit : Call → Bool
is_exit (call.Exit code) = true
is_exit other = false

-- the halt that the last record makes
abbrev pub final_halt : List CallRec → Option Halt
final_halt [] = None
final_halt (r ∷ []) = halt_then r.tid (note.Called r.call)
final_halt (r ∷ next ∷ later) = final_halt (next ∷ later)

-- A log that no call halted and with a thread that has not ended may end in a fault; every other end is that of the run.
abbrev pub EndFits : Option Halt → Bool → End → Type 0
EndFits None false (end.Faulted thread fault) = Unit {0}
EndFits halt all_ended ended = ended ≡ end_by halt all_ended

pub record CallsFit (log : Log) : Type 0 where
  pub pass : Pass (opening_calls (tape_of log)) log.calls
  pub rising : AllPairs (λ earlier later. earlier.tid ≡ later.tid → earlier.at < later.at) log.calls
  pub exit_last : AllPairs (λ earlier later. is_exit earlier.call ≡ false) log.calls
  pub threads : made (final_calls log) ≡ length log.threads
  pub end : EndFits (final_halt log.calls) (list_all is_some (final_calls log).ended) log.end
