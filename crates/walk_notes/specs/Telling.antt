-- The note of a step, by how control goes on after its instruction and what the log has of it.
use Rattle.std.specs.Prelude.{◌≡◌, ℕ, ◌≤◌, Bool, ◌&&◌, List, [], nat_eq, slice_get, slice_index_or, Option, Some, None}
use Rattle.std.specs.List.{find}
use Rattle.odr_log.specs.declared.log.CallRec.{CallRec}
use Rattle.odr_log.specs.declared.log.PathItem.{PathItem}
use Rattle.odr_log.specs.declared.log.PathItem.TheVariants as item
use Rattle.rv_model.specs.declared.state.Note.{Note}
use Rattle.rv_model.specs.declared.state.Note.TheVariants as note
use Rattle.rv_model.specs.declared.walk.Transfer.{Transfer}
use Rattle.rv_model.specs.declared.walk.Transfer.TheVariants as transfer
use Rattle.rv_model.specs.declared.walk.Place.{Place}
use Rattle.rv_model.specs.Walk.{transfer_of}
use Rattle.trace_path.specs.Traced.{Traced}

abbrev pub branch_note : Option PathItem → Note
branch_note (Some (item.Branch taken)) = note.Branch taken
branch_note (Some (item.Jump target)) = note.Nothing
branch_note None = note.Nothing

abbrev pub jump_note : Option PathItem → Note
jump_note (Some (item.Jump target)) = note.Jump target
jump_note (Some (item.Branch taken)) = note.Nothing
jump_note None = note.Nothing

abbrev pub call_note : Option CallRec → Note
call_note (Some r) = note.Called r.call
call_note None = note.Nothing

-- a record is that of the call of a step
abbrev pub is_record : ℕ → ℕ → CallRec → Bool
is_record thread step r = nat_eq r.tid thread && nat_eq r.at step

-- of the path's next item, the record of the step's call, and how control goes on
abbrev pub note_by : Option PathItem → Option CallRec → Transfer → Note
note_by next made (transfer.Branch target) = branch_note next
note_by next made transfer.Indirect = jump_note next
note_by next made transfer.Call = call_note made
note_by next made transfer.Next = note.Nothing
note_by next made (transfer.Direct target) = note.Nothing
note_by next made transfer.Breakpoint = note.Nothing

-- of the steps of a thread from this one on these calls have the records that all calls have
abbrev pub AreAhead : List CallRec → ℕ → ℕ → List CallRec → Type 0
AreAhead all thread step calls = (later : ℕ) → step ≤ later → find (is_record thread later) calls ≡ find (is_record thread later) all

-- how control goes on after the instruction at a place of traces
abbrev pub IsTransfer : Traced → ℕ → ℕ → Transfer → Type 0
IsTransfer traced thread step how =
    (place : Place) × (slice_get (slice_index_or traced.places thread []) step ≡ Some place) × (how ≡ transfer_of place.pc place.instr)
