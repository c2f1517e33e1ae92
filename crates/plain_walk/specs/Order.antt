-- All steps of a log, counted.
use Rattle.std.specs.Prelude.{ℕ, ◌<◌, ◌≤◌, ◌^◌, List, [], length, slice_index_or}
use Rattle.odr_log.specs.declared.log.Pos.{Pos}
use Rattle.rv_model.specs.declared.state.Note.{Note}
use Rattle.guided_walk.specs.Orders.{In}

-- the first steps of a thread
abbrev pub HasRow : List Pos → ℕ → ℕ → Type 0
HasRow steps thread count =
    (step : ℕ) → step < count → In (let p : Pos = record { thread = thread; step = step } in p) steps

-- a log's notes that the numbers of threads and of steps can count
pub record IsCounted (notes : List (List Note)) : Type 0 where
  pub threads : length notes ≤ 256
  pub steps : (thread : ℕ) → length (slice_index_or notes thread []) < 2 ^ 32
