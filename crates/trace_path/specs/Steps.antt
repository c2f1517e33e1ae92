-- One step of a thread along its log: what the log tells of it, and where the thread then stands.
use Rattle.std.specs.Prelude.{◌≡◌, ℕ, ◌+◌, Bool, List, [], ◌∷◌, drop, nat_eq, Option, Some, None, Result, Ok, Err, if◌then◌else◌}
use Rattle.elf_image.specs.Layout.{Layout}
use Rattle.rv32_decode.specs.declared.instr.Instr.{Instr}
use Rattle.odr_log.specs.declared.log.Cause.{Cause}
use Rattle.odr_log.specs.declared.log.CallRec.{CallRec}
use Rattle.odr_log.specs.declared.log.PathItem.{PathItem}
use Rattle.odr_log.specs.declared.log.PathItem.TheVariants as item
use Rattle.odr_log.specs.declared.log.Log.{Log}
use Rattle.rv_model.specs.declared.state.Note.{Note}
use Rattle.rv_model.specs.declared.state.Note.TheVariants as note
use Rattle.rv_model.specs.declared.walk.Place.{Place}
use Rattle.rv_model.specs.declared.walk.Transfer.{Transfer}
use Rattle.rv_model.specs.declared.walk.Transfer.TheVariants as transfer
use Rattle.rv_model.specs.Step.{instr_at}
use Rattle.rv_model.specs.Run.{logged}
use Rattle.rv_model.specs.Walk.{transfer_of, goes_to, is_last, records_by}
use Rattle.trace_path.specs.declared.cursor.Cursor.{Cursor}
use Rattle.trace_path.specs.declared.cursor.Told.{Told}
use Rattle.trace_path.specs.declared.step.Advanced.{Advanced}
use Rattle.trace_path.specs.Shown.{note_of}

-- where a thread stands: the address of its next instruction, the number of its steps, whether the last of them was an
-- exit or its end, and what the log has of its path and of its calls from there on
pub record Stand : Type 0 where
  pub pc : ℕ
  pub step : ℕ
  pub over : Bool
  pub path : List PathItem
  pub records : List CallRec

-- what the log tells of a step: its note, and what the log has after it
pub record Telling : Type 0 where
  pub shown : Note
  pub path : List PathItem
  pub records : List CallRec

abbrev pub called_at : ℕ → List PathItem → CallRec → List CallRec → Option Telling
called_at step path r records = if nat_eq r.at step then Some (record { shown = note.Called r.call; path = path; records = records }) else None

-- what the log tells of a step that so transfers control, none where it has something else there
abbrev pub told : ℕ → Transfer → List PathItem → List CallRec → Option Telling
told step transfer.Next path records = Some (record { shown = note.Nothing; path = path; records = records })
told step (transfer.Direct target) path records = Some (record { shown = note.Nothing; path = path; records = records })
told step transfer.Indirect (item.Jump target ∷ path) records = Some (record { shown = note.Jump target; path = path; records = records })
told step transfer.Indirect other records = None
told step (transfer.Branch target) (item.Branch taken ∷ path) records = Some (record { shown = note.Branch taken; path = path; records = records })
told step (transfer.Branch target) other records = None
told step transfer.Call path (r ∷ records) = called_at step path r records
told step transfer.Call path [] = None
told step transfer.Breakpoint path records = None

-- a step: its place, its note, and where the thread then stands
pub record Next : Type 0 where
  pub place : Place
  pub shown : Note
  pub stand : Stand

abbrev pub gone : Stand → Instr → Telling → Option ℕ → Option Next
gone stand instruction tells None = None
gone stand instruction tells (Some pc) = Some (record {
  place = record { pc = stand.pc; instr = instruction };
  shown = tells.shown;
  stand = record { pc = pc; step = stand.step + 1; over = is_last tells.shown; path = tells.path; records = tells.records };
})

abbrev pub goes_as_told : Stand → Instr → Option Telling → Option Next
goes_as_told stand instruction None = None
goes_as_told stand instruction (Some tells) = gone stand instruction tells (goes_to stand.pc (transfer_of stand.pc instruction) tells.shown)

abbrev pub goes_by : Stand → Result Instr Cause → Option Next
goes_by stand (Err fault) = None
goes_by stand (Ok instruction) = goes_as_told stand instruction (told stand.step (transfer_of stand.pc instruction) stand.path stand.records)

-- the next step of a thread that has neither exited nor ended, none where the log fits no step there
unfoldable pub next : Layout → Stand → Option Next
next image stand = if stand.over then None else goes_by stand (instr_at image stand.pc)

-- steps in a row
abbrev pub Walked : Layout → Stand → List Place → List Note → Stand → Type 0
Walked image from [] [] to = from ≡ to
Walked image from (place ∷ places) (shown ∷ notes) to =
    (stand : Stand) × (next image from ≡ Some (record { place = place; shown = shown; stand = stand })) × Walked image stand places notes to
Walked image from [] (shown ∷ notes) to = ⊥
Walked image from (place ∷ places) [] to = ⊥

-- where a cursor stands after so many steps
abbrev pub stand_at : Log → ℕ → ℕ → Cursor → Stand
stand_at log thread step cursor = record {
  pc = cursor.pc;
  step = step;
  over = cursor.over;
  path = drop cursor.items (logged log thread).path;
  records = records_by thread (drop cursor.calls log.calls);
}

abbrev pub told_by : Log → ℕ → Told → Telling
told_by log thread tells = record {
  shown = note_of tells.shown;
  path = drop tells.items (logged log thread).path;
  records = records_by thread (drop tells.calls log.calls);
}

-- what the log tells of a thread that stands at a cursor
abbrev pub told_at : Log → ℕ → ℕ → Cursor → Transfer → Option Telling
told_at log thread step cursor how = told step how (drop cursor.items (logged log thread).path) (records_by thread (drop cursor.calls log.calls))

abbrev pub next_by : Log → ℕ → ℕ → Advanced → Next
next_by log thread step advanced = record {
  place = advanced.place;
  shown = note_of advanced.shown;
  stand = stand_at log thread step advanced.cursor;
}
