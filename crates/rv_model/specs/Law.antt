-- Laws of the definitions, each the contract of a public function.
use Rattle.std.specs.Prelude.{◌≡◌, ◌↔◌, ℕ, ◌+◌, ◌<◌, ◌≤◌, true, List, length, slice_get, Option, Some, None, is_some, Result, Ok}
use Rattle.elf_image.specs.Layout.{Layout}
use Rattle.rv32_decode.specs.declared.instr.Instr.{Instr}
use Rattle.rv32_decode.specs.declared.instr.Instr.TheVariants as instr
use Rattle.odr_log.specs.declared.log.Cause.{Cause}
use Rattle.odr_log.specs.declared.log.Call.TheVariants as call
use Rattle.odr_log.specs.declared.log.CallRec.{CallRec}
use Rattle.odr_log.specs.declared.log.Log.{Log}
use Rattle.rv_model.specs.declared.state.Calls.{Calls}
use Rattle.rv_model.specs.declared.state.Local.{Local}
use Rattle.rv_model.specs.declared.state.State.{State}
use Rattle.rv_model.specs.declared.hearing.Heard.{Heard}
use Rattle.rv_model.specs.Calls.{reply_to}
use Rattle.rv_model.specs.CallsFit.{Pass}
use Rattle.rv_model.specs.Instruction.{act_at, asked_at, reads_at}
use Rattle.rv_model.specs.Step.{opening, instr_at, next_instr, thread_at, step}
use Rattle.rv_model.specs.Run.{Runs, final, events, log_of, HasLog, first_diff}
use Rattle.rv_model.specs.FirstDifference.{IsFirstDifference}
use Rattle.rv_model.specs.CallTable.{FollowsRow}
use Rattle.rv_model.specs.Noted.{note_in, CallsBy, asked_noted, reply_noted, LeadsOn, over_bytes, hears_bytes}

-- A schedule has a log exactly where it differs from it nowhere.
abbrev pub NoDifferenceIsLog : Type 0
NoDifferenceIsLog = (image : Layout) (log : Log) (schedule : List ℕ) → (first_diff image log schedule ≡ None) ↔ HasLog image log schedule

-- The first difference is the least place that doesn't fit, else the schedule's length where the run's log is another.
abbrev pub FirstDifferenceIsLeast : Type 0
FirstDifferenceIsLeast = (image : Layout) (log : Log) (schedule : List ℕ) (place : ℕ) → (first_diff image log schedule ≡ Some place) ↔ IsFirstDifference image log schedule place

-- The log of a run over any input is also the log of the same schedule over what the log says was read.
abbrev pub RecordedLogIsGenuine : Type 0
RecordedLogIsGenuine = (image : Layout) (tape : List ℕ) (schedule : List ℕ) → Runs image (opening image tape) schedule
    → HasLog image (log_of (final image (opening image tape) schedule) (events image (opening image tape) schedule)) schedule

-- Where no thread has retired more than n instructions, none has retired more than n + 1 after a step of a thread.
abbrev pub StepRetiresAtMostOne : Type 0
StepRetiresAtMostOne = (image : Layout) (state : State) (thread other n : ℕ) → thread < length state.core.threads
    → ((u : ℕ) → (thread_at state.core u).retired ≤ n) → (thread_at (step image state thread).state.core other).retired ≤ n + 1

-- A step that makes a guest call does what the row of that call says.
abbrev pub CallsFollowTable : Type 0
CallsFollowTable = (image : Layout) (state : State) (thread : ℕ) → next_instr image state.core thread ≡ Ok instr.Ecall → FollowsRow image state thread

-- What a step asks of the calls' shared state is what its note asked; where the state replied, its note has that reply.
pub record NotesTell (local : Local) (fetched : Result Instr Cause) (heard : Heard) : Type 0 where
  pub calls : CallsBy (asked_at local fetched heard.reach) heard.reply (note_in (act_at local fetched heard))
  pub asked : asked_noted (note_in (act_at local fetched heard)) ≡ asked_at local fetched heard.reach
  pub replied : (calls : Calls) (thread : ℕ) → reply_to calls thread (asked_at local fetched heard.reach) ≡ heard.reply
      → reply_noted (note_in (act_at local fetched heard)) ≡ heard.reply

abbrev pub NotesTellCalls : Type 0
NotesTellCalls = (local : Local) (fetched : Result Instr Cause) (heard : Heard) → NotesTell local fetched heard

-- A step goes on where its note leads, and faults where that fault may be.
abbrev pub NotesLead : Type 0
NotesLead = (image : Layout) (local : Local) (heard : Heard) → LeadsOn local.pc (instr_at image local.pc) (act_at local (instr_at image local.pc) heard)

-- Of other bytes at its access a step asks the same, and it does the same where it doesn't read them and they may be
-- read as before.
pub record UsesReadBytes (local : Local) (fetched : Result Instr Cause) (heard : Heard) (bytes : Option (List ℕ)) : Type 0 where
  pub asks : asked_at local fetched (over_bytes heard.reach bytes) ≡ asked_at local fetched heard.reach
  pub acts : is_some bytes ≡ is_some heard.reach.bytes → (reads_at local fetched ≡ true → bytes ≡ heard.reach.bytes) → act_at local fetched (hears_bytes heard bytes) ≡ act_at local fetched heard

abbrev pub OnlyReadsUseBytes : Type 0
OnlyReadsUseBytes = (local : Local) (fetched : Result Instr Cause) (heard : Heard) (bytes : Option (List ℕ)) → UsesReadBytes local fetched heard bytes

-- Where calls pass, the spawn that made a thread stands before each call of the thread.
abbrev pub SpawnsStandFirst : Type 0
SpawnsStandFirst = (calls : Calls) (records : List CallRec) (m n : ℕ) (spawn r : CallRec) (entry : ℕ) → Pass calls records
    → slice_get records m ≡ Some spawn → spawn.call ≡ call.Spawn entry (Some r.tid) → slice_get records n ≡ Some r → m < n
