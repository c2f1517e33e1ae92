-- Store-conditionals whose outcome the recorded order leaves open, of accesses by their numbers.
use Rattle.std.specs.Prelude.{◌≡◌, ℕ, ◌<◌, Bool, true, not, ◌&&◌, ◌||◌, nat_eq, List, length, Some, Contains}
use Rattle.race_set.specs.declared.outcome.Outcome.{Outcome}
use Rattle.race_set.specs.declared.shape.AccessShape.{AccessShape}
use Rattle.race_set.specs.Bytes.{may_write_word}
use Rattle.race_set.specs.Accesses.{AreDifferent, shape_at}

-- an access is one of the two, or may write a byte of the reserved word
abbrev pub has_part : Outcome → ℕ → AccessShape → Bool
has_part o number access = nat_eq o.conditional number || (nat_eq o.reserved number || may_write_word o.place access)

-- two accesses are of different threads, and neither is recorded to stand before the other
abbrev pub is_open_at : List AccessShape → (ℕ → ℕ → Bool) → ℕ → ℕ → Bool
is_open_at shapes recorded i j =
    not (nat_eq (shape_at shapes i).pos.thread (shape_at shapes j).pos.thread) && (not (recorded i j) && not (recorded j i))

-- an access may write a byte of the reserved word, and is open with the store-conditional or with the load-reserved
abbrev pub disturbs : List AccessShape → (ℕ → ℕ → Bool) → Outcome → ℕ → Bool
disturbs shapes recorded o other =
    may_write_word o.place (shape_at shapes other)
    && (is_open_at shapes recorded other o.conditional || is_open_at shapes recorded other o.reserved)

abbrev pub IsDisturbed : List AccessShape → (ℕ → ℕ → Bool) → Outcome → Type 0
IsDisturbed shapes recorded o = (other : ℕ) × (other < length shapes) × (disturbs shapes recorded o other ≡ true)

-- a store-conditional with the load-reserved that it looks back to, and its outcome is open
pub record IsOpenOutcome (shapes : List AccessShape) (recorded : ℕ → ℕ → Bool) (o : Outcome) : Type 0 where
  pub conditional : o.conditional < length shapes
  pub reserved : o.reserved < length shapes
  pub place : o.place ≡ (shape_at shapes o.reserved).place
  pub link : (shape_at shapes o.conditional).link ≡ Some (shape_at shapes o.reserved).pos
  pub disturbed : IsDisturbed shapes recorded o

-- all such outcomes of the first so many accesses, and nothing else
pub record AreOutcomes (shapes : List AccessShape) (recorded : ℕ → ℕ → Bool) (upto : ℕ) (outcomes : List Outcome) : Type 0 where
  pub only : (o : Outcome) → Contains outcomes o → IsOpenOutcome shapes recorded o
  pub each : AreDifferent shapes → (o : Outcome) → o.conditional < upto → IsOpenOutcome shapes recorded o → Contains outcomes o
