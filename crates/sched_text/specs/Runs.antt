-- What makes the runs of a schedule its runs.
use Rattle.std.specs.Prelude.{◌≢◌, ℕ, ◌<◌, List, [], ◌∷◌, replicate}
use Rattle.std.specs.List.{flat_map}
use Rattle.sched_text.specs.declared.run.Run.{Run}

-- the steps of a run, and of runs in order
abbrev pub steps_of_run : Run → List ℕ
steps_of_run run = replicate run.count run.thread

abbrev pub steps_of : List Run → List ℕ
steps_of runs = flat_map steps_of_run runs

-- the first run, if there is one, is of another thread
abbrev pub BeginsOther : ℕ → List Run → Type 0
BeginsOther thread [] = Unit {0}
BeginsOther thread (run ∷ runs) = run.thread ≢ thread

-- no run is empty, and neighbouring runs have different threads
abbrev pub AreMaximal : List Run → Type 0
AreMaximal [] = Unit {0}
AreMaximal (run ∷ runs) = (0 < run.count) × BeginsOther run.thread runs × AreMaximal runs
