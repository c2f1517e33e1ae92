-- How many of the pairs, in front, keep a thread back no more.
use Rattle.std.specs.Prelude.{◌≡◌, ℕ, ◌<◌, ◌≤◌, List, slice_index_or}
use Rattle.odr_log.specs.declared.log.Pos.{Pos}
use Rattle.schedule_extract.specs.Going.{IsTaken, head}

-- A pair that keeps back no step of a thread from this one on: its second is no later, and if it is this one, its first
-- was taken.
abbrev pub IsPassed : List ℕ → Pos → Pos × Pos → Type 0
IsPassed next at pair = (pair.1.step ≤ at.step) × (pair.1 ≡ at → IsTaken next pair.0)

-- so many pairs, in front, are passed
abbrev pub ArePassed : List (Pos × Pos) → List ℕ → Pos → ℕ → Type 0
ArePassed pairs next at mark = (k : ℕ) (d : Pos × Pos) → k < mark → IsPassed next at (slice_index_or pairs k d)

-- the same of each thread and its next step
abbrev pub AllPassed : List (Pos × Pos) → List ℕ → List ℕ → Type 0
AllPassed pairs next marks = (thread : ℕ) → thread < 256 → ArePassed pairs next (head next thread) (slice_index_or marks thread 0)
