-- Lists of steps in which each stands behind all that must stand before it.
use Rattle.std.specs.Prelude.{ℕ, ◌+◌, ◌<◌, ◌≤◌, List, length, slice_index_or, Contains}
use Rattle.odr_log.specs.declared.log.Log.{Log}
use Rattle.odr_log.specs.declared.log.Pos.{Pos}
use Rattle.rv_model.specs.RecordedOrder.{Counted}
use Rattle.rv_model.specs.Run.{logged}
use Rattle.schedule_extract.specs.Going.{Precedes}

-- so many steps of a thread
abbrev pub HasSteps : List Pos → ℕ → ℕ → Type 0
HasSteps steps thread count = (step : ℕ) → step < count → Contains steps (let p : Pos = record { thread = thread; step = step } in p)

-- a step must stand before none that stands up to it
abbrev pub IsLast : Log → List (Pos × Pos) → List Pos → ℕ → Type 0
IsLast log pairs steps at = (i : ℕ) (d : Pos) → i ≤ at → Precedes log pairs (slice_index_or steps at d) (slice_index_or steps i d) → ⊥

abbrev pub AreInOrder : Log → List (Pos × Pos) → List Pos → Type 0
AreInOrder log pairs steps = (at : ℕ) → at < length steps → IsLast log pairs steps at

-- a pair of counted steps, the first not the last of its thread
abbrev pub GoesOn : Log → Pos × Pos → Type 0
GoesOn log pair = (pair.0.step + 1 < (logged log pair.0.thread).steps) × Counted log pair.1
