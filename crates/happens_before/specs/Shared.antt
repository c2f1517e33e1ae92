-- The shared state of the guest calls without the tape, as a walk through records keeps it.
use Rattle.std.specs.Prelude.{◌≡◌, ℕ, ◌<◌, Bool, true, false, List, [], length, nat_lt, is_some, AllPairs}
use Rattle.std.specs.List.{flat_map, fold, list_all}
use Rattle.odr_log.specs.declared.log.Call.{Call}
use Rattle.odr_log.specs.declared.log.Call.TheVariants as call
use Rattle.odr_log.specs.declared.log.CallRec.{CallRec}
use Rattle.odr_log.specs.declared.log.Log.{Log}
use Rattle.odr_log.specs.Tape.{read_by}
use Rattle.rv_model.specs.declared.state.Calls.{Calls}
use Rattle.rv_model.specs.Calls.{opening_calls, waits, reply_to, asked_in}
use Rattle.rv_model.specs.CallsFit.{reply_in, IsPossible, after_record, FitsRecord, is_exit, final_halt, EndFits}
use Rattle.happens_before.specs.declared.shared.Shared.{Shared}

-- the shared state with this tape left
abbrev pub with_tape : Shared → List ℕ → Calls
with_tape shared tape = record { ended = shared.ended; owners = shared.owners; tape = tape }

-- a thread does not wait, and is answered as the call says
abbrev pub IsAnswered : Calls → ℕ → Call → Type 0
IsAnswered calls thread made = (waits calls thread (asked_in made) ≡ false) × (reply_to calls thread (asked_in made) ≡ reply_in made)

-- a read that got less than it wanted
abbrev pub falls_short : Call → Bool
falls_short (call.Read want bytes) = nat_lt (length bytes) want
falls_short other = false

-- A call of a thread that has not ended fits where what it read is all that is left of the tape; it read nothing where the
-- tape is at its end.
pub record FitsCall (shared : Shared) (thread : ℕ) (made : Call) : Type 0 where
  pub answered : IsAnswered (with_tape shared (read_by made)) thread made
  pub possible : IsPossible made
  pub dry : shared.dry ≡ true → read_by made ≡ []

-- A record fits where what it read is all that is left of the tape; it read nothing where the tape is at its end.
abbrev pub FitsNow : Shared → CallRec → Type 0
FitsNow shared r = FitsRecord (with_tape shared (read_by r.call)) r × (shared.dry ≡ true → read_by r.call ≡ [])

-- the bytes that records read
abbrev pub tape_in : List CallRec → List ℕ
tape_in records = flat_map (λ r. read_by r.call) records

-- the shared state after records
abbrev pub calls_in : List CallRec → Calls
calls_in records = fold after_record (opening_calls (tape_in records)) records

-- the calls of each thread rise, and none stands after an exit
pub record KeepsOrder (records : List CallRec) : Type 0 where
  pub rising : AllPairs (λ earlier later. earlier.tid ≡ later.tid → earlier.at < later.at) records
  pub exit_last : AllPairs (λ earlier later. is_exit earlier.call ≡ false) records

-- the log has as many threads as were made, and ends as it may after its last call
pub record EndsSo (log : Log) (shared : Shared) : Type 0 where
  pub threads : length shared.ended ≡ length log.threads
  pub end : EndFits (final_halt log.calls) (list_all is_some shared.ended) log.end
