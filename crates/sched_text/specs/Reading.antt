-- What the reader of schedule texts looks for next.
use Rattle.std.specs.Prelude.{◌≢◌, ℕ, ◌<◌, ◌≤◌, Option, Some}
use Rattle.sched_text.specs.declared.run.Run.{Run}

-- the run may follow steps of which the last has this thread, where so many more steps have room
pub record MayFollow (last : Option ℕ) (room : ℕ) (run : Run) : Type 0 where
  pub thread : run.thread < 256
  pub other : last ≢ Some run.thread
  pub some : 0 < run.count
  pub fits : run.count ≤ room
