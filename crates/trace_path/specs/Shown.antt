-- What a step shows, with its call where the log has it.
use Rattle.rv_model.specs.declared.state.Note.{Note}
use Rattle.rv_model.specs.declared.state.Note.TheVariants as note
use Rattle.trace_path.specs.declared.cursor.Shown.{Shown}
use Rattle.trace_path.specs.declared.cursor.Shown.TheVariants as shown

abbrev pub note_of : Shown → Note
note_of shown.Nothing = note.Nothing
note_of (shown.Branch taken) = note.Branch taken
note_of (shown.Jump target) = note.Jump target
note_of (shown.Call call) = note.Called call.now
