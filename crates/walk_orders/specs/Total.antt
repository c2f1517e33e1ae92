-- Total orders of chosen steps, and the lists of all counted steps from which they come.
use Rattle.std.specs.Prelude.{◌≡◌, ◌≢◌, ◌↔◌, ℕ, ◌⊎◌, List, ◌++◌, Contains}
use Rattle.odr_log.specs.declared.log.Log.{Log}
use Rattle.odr_log.specs.declared.log.Pos.{Pos}
use Rattle.rv_model.specs.RecordedOrder.{Counted, RecordedOrder}
use Rattle.guided_walk.specs.Orders.{In, Keeps, Lists, Stands}
use Rattle.guided_walk.specs.Schedules.{places}
use Rattle.guided_walk.specs.Ordered.{ExitLast}
use Rattle.guided_walk.specs.Along.{fault_places}
use Rattle.guided_walk.specs.Woven.{Woven}

abbrev pub AreCounted : Log → List Pos → Type 0
AreCounted log steps = (p : Pos) → In p steps → Counted log p

-- A strict total order of chosen steps that agrees with the recorded order.
pub record IsTotal (log : Log) (chosen : List Pos) (before : Pos → Pos → Type 0) : Type 0 where
  pub transitive : (p q r : Pos) → In p chosen → In q chosen → In r chosen → before p q → before q r → before p r
  pub no_ring : (p : Pos) → In p chosen → before p p → ⊥
  pub total : (p q : Pos) → In p chosen → In q chosen → p ≢ q → before p q ⊎ before q p
  pub agrees : (p q : Pos) → In p chosen → In q chosen → RecordedOrder log p q → before p q

-- what a schedule decides: which of two steps stands first
abbrev pub Decides : List ℕ → Pos → Pos → Type 0
Decides schedule = Stands (places schedule)

-- pairs of chosen steps, each in its order
abbrev pub ArePairs : List Pos → (Pos → Pos → Type 0) → List (Pos × Pos) → Type 0
ArePairs chosen before pairs = (p q : Pos) → Contains pairs (p, q) → In p chosen × In q chosen × before p q

-- One list of all counted steps keeps the recorded order and has an exit last, and the chosen steps stand in it in
-- their order. As a schedule, with the fault behind, it decides this order, and it is woven for each list of pairs of
-- chosen steps that are in their order.
pub record ComesFrom (log : Log) (chosen : List Pos) (before : Pos → Pos → Type 0) : Type 0 where
  pub steps : List Pos
  pub lists : Lists (Counted log) steps
  pub recorded : Keeps (RecordedOrder log) steps
  pub exit_last : ExitLast log steps
  pub decided : (p q : Pos) → In p chosen → In q chosen → Stands steps p q ↔ before p q
  pub schedule : List ℕ
  pub is : places schedule ≡ steps ++ fault_places log
  pub decides : (p q : Pos) → In p chosen → In q chosen → Decides schedule p q ↔ before p q
  pub woven : (pairs : List (Pos × Pos)) → ArePairs chosen before pairs → Woven log pairs schedule
