-- What must stand before a step in a schedule, and how far a schedule has come.
use Rattle.std.specs.Prelude.{◌≡◌, ℕ, ◌+◌, ◌<◌, ◌≤◌, ◌⊎◌, Bool, List, Contains, Option, Some, None, slice_index_or}
use Rattle.odr_log.specs.declared.log.Log.{Log}
use Rattle.odr_log.specs.declared.log.Pos.{Pos}
use Rattle.rv_model.specs.Run.{logged}
use Rattle.rv_model.specs.RecordedOrder.{Counted, RecordedOrder}
use Rattle.guided_walk.specs.Law.{holds}
use Rattle.guided_walk.specs.Ordered.{IsExit}
use Rattle.guided_walk.specs.Orders.{In, Stands}
use Rattle.guided_walk.specs.Schedules.{places}

-- recorded or decided to stand before a step
abbrev pub Precedes : Log → List (Pos × Pos) → Pos → Pos → Type 0
Precedes log pairs p q = RecordedOrder log p q ⊎ Contains pairs (p, q)

-- A strict order of the counted steps that has the recorded order and the pairs in it.
pub record NoRing (log : Log) (pairs : List (Pos × Pos)) : Type 0 where
  pub before : Pos → Pos → Bool
  pub strict : (p : Pos) → Counted log p → holds before p p → ⊥
  pub transitive : (p q r : Pos) → Counted log p → Counted log q → Counted log r → holds before p q → holds before q r → holds before p r
  pub has : (p q : Pos) → Precedes log pairs p q → holds before p q

-- an exit is the last step of its thread
abbrev pub ExitsEnd : Log → Type 0
ExitsEnd log = (p : Pos) → IsExit log p → p.step + 1 ≡ (logged log p.thread).steps

-- the pairs are of counted steps
abbrev pub PairsCounted : Log → List (Pos × Pos) → Type 0
PairsCounted log pairs = (p q : Pos) → Contains pairs (p, q) → Counted log p × Counted log q

-- no pair has an exit first
abbrev pub PairsGoOn : Log → List (Pos × Pos) → Type 0
PairsGoOn log pairs = (p q : Pos) → Contains pairs (p, q) → IsExit log p → ⊥

-- the step that exits, if there is one
abbrev pub IsExitOf : Log → Option Pos → Type 0
IsExitOf log (Some p) = IsExit log p
IsExitOf log None = (p : Pos) → IsExit log p → ⊥

-- a counted step other than the exit
abbrev pub Goes : Log → Option Pos → Pos → Type 0
Goes log exit p = Counted log p × (exit ≡ Some p → ⊥)

-- the next step of a thread, by how many each has taken
abbrev pub head : List ℕ → ℕ → Pos
head next thread = record { thread = thread; step = slice_index_or next thread 0 }

-- a step that its thread has taken
abbrev pub IsTaken : List ℕ → Pos → Type 0
IsTaken next p = p.step < slice_index_or next p.thread 0

-- a step that must stand before another and was not taken
abbrev pub Lacks : Log → List (Pos × Pos) → List ℕ → Pos → Pos → Type 0
Lacks log pairs next at p = Precedes log pairs p at × (slice_index_or next p.thread 0 ≤ p.step)

-- all that must stand before a step was taken
abbrev pub HasAll : Log → List (Pos × Pos) → List ℕ → Pos → Type 0
HasAll log pairs next at = (p : Pos) → Precedes log pairs p at → IsTaken next p

abbrev pub IsReady : Log → List (Pos × Pos) → Option Pos → List ℕ → ℕ → Type 0
IsReady log pairs exit next thread = Goes log exit (head next thread) × HasAll log pairs next (head next thread)

-- where a thread has a next step, something lacks
abbrev pub IsStuck : Log → List (Pos × Pos) → Option Pos → List ℕ → ℕ → Type 0
IsStuck log pairs exit next thread = Goes log exit (head next thread) → (p : Pos) × Lacks log pairs next (head next thread) p

-- each step stands behind all that must stand before it
abbrev pub Follows : Log → List (Pos × Pos) → List Pos → Type 0
Follows log pairs steps = (p q : Pos) → Precedes log pairs p q → In q steps → Stands steps p q

-- A schedule of all steps but for the exit.
pub record IsGoing (log : Log) (pairs : List (Pos × Pos)) (exit : Option Pos) (schedule : List ℕ) : Type 0 where
  pub all : (p : Pos) → Goes log exit p → In p (places schedule)
  pub only : (p : Pos) → In p (places schedule) → Goes log exit p
  pub follows : Follows log pairs (places schedule)
