-- A note of the machine as the model's note.
use Rattle.guest_calls.specs.Notes.{call_of}
use Rattle.rv_model.specs.declared.state.Note as model
use Rattle.rv_model.specs.declared.state.Note.TheVariants as shown
use Rattle.guest_machine.specs.declared.note.Note.{Note}
use Rattle.guest_machine.specs.declared.note.Note.TheVariants as note

abbrev pub note_of : Note → model.Note
note_of note.Nothing = shown.Nothing
note_of (note.Branch taken) = shown.Branch taken
note_of (note.Jump target) = shown.Jump target
note_of (note.Call made) = shown.Called (call_of made)
note_of (note.Fault fault) = shown.Faulted fault

-- a note that is no guest call
abbrev pub IsPlain : Note → Type 0
IsPlain (note.Call made) = ⊥
IsPlain note.Nothing = Unit {0}
IsPlain (note.Branch taken) = Unit {0}
IsPlain (note.Jump target) = Unit {0}
IsPlain (note.Fault fault) = Unit {0}
