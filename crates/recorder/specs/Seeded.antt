-- The seeded schedule, and the log of a run.
use Rattle.std.specs.Prelude.{ℕ, zero, suc, ◌+◌, ◌%◌, List, [], ◌∷◌, length, slice_get, Option, Some, None}
use Rattle.elf_image.specs.Layout.{Layout}
use Rattle.odr_log.specs.declared.log.Log.{Log}
use Rattle.rv_model.specs.declared.state.State.{State}
use Rattle.rv_model.specs.Step.{opening, step, enabled_in}
use Rattle.rv_model.specs.Run.{final, events, log_of}
use Rattle.guest_sched.specs.Words.{word_of_seed}

-- The thread at a place of the schedule: of the c threads that may step, in rising order, the one whose number is the
-- place's word modulo c. None where no thread may step, as in a machine that has halted.
abbrev pub chosen : Layout → ℕ → State → ℕ → Option ℕ
chosen image seed state place = slice_get (enabled_in image state) (word_of_seed seed place % length (enabled_in image state))

-- a thread first, if there is one
abbrev pub first_of : Option ℕ → (ℕ → List ℕ) → List ℕ
first_of None later = []
first_of (Some thread) later = thread ∷ later thread

-- the seeded schedule from a state at a place on, with so many entries at most
abbrev pub seeded_from : Layout → ℕ → State → ℕ → ℕ → List ℕ
seeded_from image seed state place zero = []
seeded_from image seed state place (suc left) =
    first_of (chosen image seed state place) (λ thread. seeded_from image seed (step image state thread).state (place + 1) left)

-- The seeded schedule over an input: it ends where no thread may step, or at the limit.
unfoldable pub seeded : Layout → List ℕ → ℕ → ℕ → List ℕ
seeded image tape seed limit = seeded_from image seed (opening image tape) 0 limit

-- the log of the run of a schedule over an input
abbrev pub log_of_run : Layout → List ℕ → List ℕ → Log
log_of_run image tape schedule = log_of (final image (opening image tape) schedule) (events image (opening image tape) schedule)
