-- The accesses that need an order, by what was found of readings and outcomes.
use Rattle.std.specs.Prelude.{◌≡◌, ◌≢◌, ℕ, ◌<◌, Bool, true, ◌&&◌, ◌||◌, List, AllPairs, Contains}
use Rattle.std.specs.List.{list_any}
use Rattle.odr_log.specs.declared.log.Pos.{Pos}
use Rattle.race_set.specs.declared.outcome.Outcome.{Outcome}
use Rattle.race_set.specs.declared.reading.Reading.{Reading}
use Rattle.race_set.specs.declared.shape.AccessShape.{AccessShape}
use Rattle.race_set.specs.Bytes.{is_unplaced_reader}
use Rattle.race_set.specs.Accesses.{AreDifferent, IsListedBefore, shape_at}
use Rattle.race_set.specs.Readings.{is_raced_by}
use Rattle.race_set.specs.Outcomes.{has_part}

-- the access is the reader of a byte whose source isn't told, or may write it
abbrev pub is_raced : List Reading → ℕ → AccessShape → Bool
is_raced readings number access = list_any (λ r. is_raced_by r number access) readings

-- the access reads at an unknown address, or writes while some access reads so
abbrev pub is_searched : List AccessShape → AccessShape → Bool
is_searched shapes access = is_unplaced_reader access || (access.writes && list_any is_unplaced_reader shapes)

-- the access has part in an open outcome
abbrev pub has_outcome : List Outcome → ℕ → AccessShape → Bool
has_outcome outcomes number access = list_any (λ o. has_part o number access) outcomes

abbrev pub is_needed : List AccessShape → List Reading → List Outcome → ℕ → Bool
is_needed shapes readings outcomes number =
    is_raced readings number (shape_at shapes number)
    || (is_searched shapes (shape_at shapes number) || has_outcome outcomes number (shape_at shapes number))

-- the positions of those of the first so many accesses that a test finds
pub record AreNeeded (shapes : List AccessShape) (test : ℕ → Bool) (upto : ℕ) (positions : List Pos) : Type 0 where
  pub only : (p : Pos) → Contains positions p → (i : ℕ) × (i < upto) × (test i ≡ true) × ((shape_at shapes i).pos ≡ p)
  pub each : (i : ℕ) → i < upto → test i ≡ true → Contains positions (shape_at shapes i).pos
  pub once : AreDifferent shapes → AllPairs (λ p q. p ≢ q) positions
  pub order : AllPairs (IsListedBefore shapes) positions
