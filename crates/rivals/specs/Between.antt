-- Which accesses of other threads may end a reservation, and what says that these stand between the load-reserved and the
-- store-conditional.
use Rattle.std.specs.Prelude.{◌≡◌, ◌≢◌, ◌⊎◌, ℕ, ◌<◌, Bool, true, List, length, Option, Some}
use Rattle.odr_log.specs.declared.log.Log.{Log}
use Rattle.rv_model.specs.RecordedOrder.{RecordedOrder}
use Rattle.bv_terms.specs.Values.{Assignment as TermAssignment}
use Rattle.happens_before.specs.declared.table.ThreadCalls.{ThreadCalls}
use Rattle.happens_before.specs.Table.{IsOrderOf}
use Rattle.order_clauses.specs.declared.order_lit.OrderLit.{OrderLit}
use Rattle.order_clauses.specs.declared.order_lit.OrderLit.TheVariants as order_lit
use Rattle.order_clauses.specs.declared.table.Table.{Table}
use Rattle.order_clauses.specs.Grid.{lit_in}
use Rattle.order_vars.specs.Chosen.{ChosenOrder}
use Rattle.race_set.specs.declared.shape.AccessShape.{AccessShape}
use Rattle.race_set.specs.Accesses.{AreCounted, shape_at}
use Rattle.race_set.specs.Bytes.{may_write_word}
use Rattle.race_set.specs.Races.{NeedsOrderAt}
use Rattle.term_sources.specs.Sees.{access_at}
use Rattle.fixed_reads.specs.Shapes.{AreShapes}
use Rattle.formula_parts.specs.Order.{IsOrder, Setting}
use Rattle.outcome_parts.specs.declared.rival.Rival.{Rival}
use Rattle.outcome_parts.specs.Outcomes.{IsRival}
use Rattle.outcome_parts.specs.Rivals.{rival_at, touches}
use Rattle.read_spots.specs.Spots.{HasPlaces, place_in}

-- Accesses of a log, by what is known of them, and their places in a table.
pub record Placed : Type 0 where
  pub log : Log
  pub shapes : List AccessShape
  pub places : List (Option ℕ)
  pub table : Table

abbrev pub placed : Log → List AccessShape → List (Option ℕ) → Table → Placed
placed log shapes places table = record { log = log; shapes = shapes; places = places; table = table }

-- each place is one of so many
abbrev pub AreBelow : ℕ → List (Option ℕ) → Type 0
AreBelow count places = (y i : ℕ) → y < length places → place_in places y ≡ Some i → i < count

-- one access is recorded to stand before another
abbrev pub IsRecorded : Log → List AccessShape → (first second : ℕ) → Type 0
IsRecorded log shapes first second = RecordedOrder log (shape_at shapes first).pos (shape_at shapes second).pos

-- An access may end a reservation: it is of another thread than the store-conditional, may write to the reserved word, and is
-- recorded neither before the load-reserved nor after the store-conditional.
pub record MayEnd (log : Log) (shapes : List AccessShape) (lr x y : ℕ) : Type 0 where
  pub other : (shape_at shapes y).pos.thread ≢ (shape_at shapes x).pos.thread
  pub writes : may_write_word (shape_at shapes lr).place (shape_at shapes y) ≡ true
  pub late : IsRecorded log shapes y lr → ⊥
  pub early : IsRecorded log shapes x y → ⊥

-- a condition is the literal of the places of two accesses, where these have places
abbrev pub IsLiteralOf : Placed → (first second : ℕ) → OrderLit → Type 0
IsLiteralOf s first second condition =
    (i j : ℕ) → place_in s.places first ≡ Some i → place_in s.places second ≡ Some j → condition ≡ lit_in s.table i j

-- What says that one access stands before another: always where it is recorded so, else the literal of their places.
abbrev pub IsConditionOf : Placed → (first second : ℕ) → OrderLit → Type 0
IsConditionOf s first second condition =
    (IsRecorded s.log s.shapes first second × (condition ≡ order_lit.Always))
    ⊎ ((IsRecorded s.log s.shapes first second → ⊥) × IsLiteralOf s first second condition)

-- a rival may end the reservation, and its conditions say that it stands after the load-reserved and before the store-conditional
pub record IsRivalOf (s : Placed) (lr x : ℕ) (rival : Rival) : Type 0 where
  pub may : MayEnd s.log s.shapes lr x rival.access
  pub after : IsConditionOf s lr rival.access rival.after
  pub before : IsConditionOf s rival.access x rival.before

-- a rival of a list is this access
abbrev pub HasRival : List Rival → ℕ → Type 0
HasRival rivals y = (k : ℕ) × (k < length rivals) × ((rival_at rivals k).access ≡ y)

-- The rivals among the first so many accesses, in their order, and nothing else.
pub record AreRivalsBelow (s : Placed) (lr x upto : ℕ) (rivals : List Rival) : Type 0 where
  pub only : (k : ℕ) → k < length rivals → IsRivalOf s lr x (rival_at rivals k)
  pub below : (k : ℕ) → k < length rivals → (rival_at rivals k).access < upto
  pub rising : (j k : ℕ) → j < k → k < length rivals → (rival_at rivals j).access < (rival_at rivals k).access
  pub each : (y : ℕ) → y < upto → MayEnd s.log s.shapes lr x y → HasRival rivals y

-- ---- in a setting

-- one access is an earlier step of another one's thread, and the other looks back to it
pub record LooksBack (shapes : List AccessShape) (lr x : ℕ) : Type 0 where
  pub link : (shape_at shapes x).link ≡ Some (shape_at shapes lr).pos
  pub thread : (shape_at shapes lr).pos.thread ≡ (shape_at shapes x).pos.thread
  pub step : (shape_at shapes lr).pos.step < (shape_at shapes x).pos.step

-- A store-conditional that looks back to a load-reserved, of known shapes in the order of a log, where the accesses that need an
-- order have one in a table.
pub record IsConditionalIn (setting : Setting) (order : List ThreadCalls) (shapes : List AccessShape) (places : List (Option ℕ)) (vars : ChosenOrder) (lr x : ℕ) : Type 0 where
  pub are : AreShapes setting.nodes setting.accesses shapes
  pub order_of : IsOrderOf order setting.log
  pub counted : AreCounted setting.log shapes
  pub has : HasPlaces setting places
  pub table : setting.places.table ≡ vars.ordered.table
  pub ordered : (y : ℕ) → y < length setting.accesses → NeedsOrderAt setting.log shapes (access_at setting.accesses y).pos → setting.places.chosen y ≡ true
  pub back : LooksBack shapes lr x

-- The rivals of a store-conditional that stands after its load-reserved in each order: each says when it stands between the two, and
-- each access of another thread that writes to the word between them is one.
pub record AreRivals (setting : Setting) (vars lr x : ℕ) (rivals : List Rival) : Type 0 where
  pub earlier : (lt : ℕ → ℕ → Bool) → IsOrder setting.log setting.accesses lt → lt lr x ≡ true
  pub each : (k : ℕ) → k < length rivals → IsRival setting vars lr x (rival_at rivals k)
  pub enough : (t : TermAssignment) (lt : ℕ → ℕ → Bool) → IsOrder setting.log setting.accesses lt
      → (y : ℕ) → y < length setting.accesses → (access_at setting.accesses y).pos.thread ≢ (access_at setting.accesses x).pos.thread
      → lt lr y ≡ true → lt y x ≡ true → touches t setting.nodes (access_at setting.accesses y) (access_at setting.accesses lr) ≡ true
      → HasRival rivals y
