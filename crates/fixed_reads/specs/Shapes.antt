-- What is known of accesses before their addresses and outcomes are decided, by their terms.
use Rattle.std.specs.Prelude.{◌≡◌, ◌≢◌, ◌⊎◌, ℕ, ◌<◌, ◌≤◌, ◌^◌, Bool, true, false, List, length, map, Some, None}
use Rattle.odr_log.specs.declared.log.Log.{Log}
use Rattle.rv_model.specs.RecordedOrder.{RecordedOrder}
use Rattle.bv_terms.specs.Shapes.{Shape}
use Rattle.bv_terms.specs.Values.{Assignment}
use Rattle.guided_walk.specs.Orders.{Distinct}
use Rattle.thread_terms.specs.declared.access.Access.{Access}
use Rattle.race_set.specs.declared.shape.AccessShape.{AccessShape}
use Rattle.race_set.specs.declared.shape.Span.{Span}
use Rattle.race_set.specs.Accesses.{shape_at}
use Rattle.path_exec.specs.Paths.{position}
use Rattle.term_sources.specs.Sees.{access_at, address_value, guard_value}

-- The shape of an access: whether it may write, whether it surely does, and its place where its address has one value.
pub record IsShapeOf (nodes : List Shape) (access : Access) (shape : AccessShape) : Type 0 where
  pub pos : shape.pos ≡ access.pos
  pub silent : shape.writes ≡ false → (t : Assignment) (m : ℕ) → m < length access.writes → guard_value t nodes access ≡ 1 → ⊥
  pub certain : shape.writes ≡ true → shape.link ≡ None → (t : Assignment) → guard_value t nodes access ≡ 1
  pub first : (span : Span) → shape.place ≡ Some span → span.first < 2 ^ 32
  pub address : (span : Span) → shape.place ≡ Some span → (t : Assignment) → address_value t nodes access ≡ span.first
  pub many : (span : Span) → shape.place ≡ Some span → shape.writes ≡ true → length access.writes ≡ span.len

pub record AreShapes (nodes : List Shape) (accesses : List Access) (shapes : List AccessShape) : Type 0 where
  pub count : length shapes ≡ length accesses
  pub each : (x : ℕ) → x < length accesses → IsShapeOf nodes (access_at accesses x) (shape_at shapes x)
  pub differ : Distinct (map position accesses)
  pub few : (x : ℕ) → x < length accesses → length (access_at accesses x).writes ≤ 2 ^ 32

-- A strict total order of accesses, by their numbers, that agrees with the recorded order.
pub record IsTotalOf (log : Log) (accesses : List Access) (lt : ℕ → ℕ → Bool) : Type 0 where
  pub irreflexive : (x : ℕ) → x < length accesses → lt x x ≡ false
  pub transitive : (x y z : ℕ) → x < length accesses → y < length accesses → z < length accesses → lt x y ≡ true → lt y z ≡ true → lt x z ≡ true
  pub total : (x y : ℕ) → x < length accesses → y < length accesses → x ≢ y → (lt x y ≡ true) ⊎ (lt y x ≡ true)
  pub agrees : (x y : ℕ) → x < length accesses → y < length accesses → RecordedOrder log (access_at accesses x).pos (access_at accesses y).pos → lt x y ≡ true
