-- What a log tells, as lists: the notes of each thread's steps, and the calls.
use Rattle.std.specs.Prelude.{ℕ, List, [], length, slice_index_or, option_map}
use Rattle.std.specs.List.{find}
use Rattle.odr_log.specs.declared.log.CallRec.{CallRec}
use Rattle.rv_model.specs.declared.state.Note.{Note}
use Rattle.rv_model.specs.declared.state.Note.TheVariants as note
use Rattle.rv_model.specs.Walk.{makes}
use Rattle.guided_walk.specs.Told.{Told, place_of, ends}

-- the note of a step of a thread with these notes
abbrev pub noted_in : List Note → ℕ → Note
noted_in notes step = slice_index_or notes step note.Nothing

-- what is told of a log by the notes of each thread's steps, with its fault last, and by the calls
abbrev pub told_of : List (List Note) → List CallRec → Told
told_of notes calls = record {
  steps = λ thread. length (slice_index_or notes thread []);
  note = λ thread step. noted_in (slice_index_or notes thread []) step;
  maker = λ thread. option_map place_of (find (λ r. makes thread r.call) calls);
  ender = λ thread. option_map place_of (find (ends thread) calls);
}
