-- The text of a schedule, which is a list of thread numbers: one for each step.
use Rattle.std.specs.Prelude.{◌≡◌, ◌<◌, ◌≤◌, ℕ, All, length, ◌+◌, ◌==◌, if◌then◌else◌, List, [], ◌∷◌, ◌++◌, decimal}
use Rattle.std.specs.List.{flat_map}
use Rattle.sched_text.specs.declared.run.Run.{Run}

-- one more step before the runs: it lengthens a first run of its own thread
abbrev pub step_before : ℕ → List Run → List Run
step_before thread [] = record { thread = thread; count = 1 } ∷ []
step_before thread (run ∷ runs) =
    if run.thread == thread
    then record run { count = run.count + 1 } ∷ runs
    else record { thread = thread; count = 1 } ∷ run ∷ runs

-- the maximal runs of equal neighbours, in order
abbrev pub runs_of : List ℕ → List Run
runs_of [] = []
runs_of (thread ∷ steps) = step_before thread (runs_of steps)

-- a line: the thread, a space, the count and a line feed, both numbers decimal
abbrev pub line_of : Run → List ℕ
line_of run = decimal run.thread ++ 32 ∷ (decimal run.count ++ 10 ∷ [])

-- the one text of a schedule: a line for each run; the empty schedule has the empty text
abbrev pub schedule_text : List ℕ → List ℕ
schedule_text steps = flat_map line_of (runs_of steps)

-- the bytes are the text of a schedule of at most 1,000,000 steps of threads 0 to 255
pub record IsTextOf (steps bytes : List ℕ) : Type 0 where
  pub threads : All (λ thread. thread < 256) steps
  pub few : length steps ≤ 1000000
  pub text : bytes ≡ schedule_text steps
