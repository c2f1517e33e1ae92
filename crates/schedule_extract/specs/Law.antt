-- Which pairs can be woven, and what their schedules decide.
use Rattle.std.specs.Prelude.{◌↔◌, ℕ, Bool, List}
use Rattle.elf_image.specs.Layout.{Layout}
use Rattle.odr_log.specs.declared.log.Log.{Log}
use Rattle.odr_log.specs.declared.log.Pos.{Pos}
use Rattle.rv_model.specs.CallsFit.{CallsFit}
use Rattle.rv_model.specs.Walk.{IsWalk, Walk}
use Rattle.guided_walk.specs.Law.{holds}
use Rattle.guided_walk.specs.Orders.{In}
use Rattle.guided_walk.specs.Ordered.{IsExit}
use Rattle.guided_walk.specs.Woven.{Woven}
use Rattle.walk_orders.specs.Total.{AreCounted, ArePairs, Decides, IsTotal}
use Rattle.schedule_extract.specs.Going.{ExitsEnd, NoRing, PairsCounted, PairsGoOn, Precedes}

-- What weaving asks of a log and of pairs.
pub record CanBeWoven (log : Log) (pairs : List (Pos × Pos)) : Type 0 where
  pub exits_end : ExitsEnd log
  pub counted : PairsCounted log pairs
  pub go_on : PairsGoOn log pairs
  pub no_ring : NoRing log pairs

-- Where the walk is defined and the calls fit, all pairs that are in a total order of chosen counted steps without an exit,
-- such as accesses, that agrees with the recorded order can be woven.
abbrev pub TotalOrdersAreWoven : Type 0
TotalOrdersAreWoven = (image : Layout) (log : Log) (walk : Walk) (chosen : List Pos) (before : Pos → Pos → Bool) (pairs : List (Pos × Pos))
    → IsWalk image log walk → CallsFit log → AreCounted log chosen → ((p : Pos) → In p chosen → IsExit log p → ⊥)
    → IsTotal log chosen (holds before) → ArePairs chosen (holds before) pairs → CanBeWoven log pairs

-- A schedule that is woven for pairs which, with the recorded order, make up such a total order decides just that order.
abbrev pub WovenKeepsOrder : Type 0
WovenKeepsOrder = (log : Log) (chosen : List Pos) (before : Pos → Pos → Bool) (pairs : List (Pos × Pos)) (schedule : List ℕ)
    → CallsFit log → AreCounted log chosen → IsTotal log chosen (holds before)
    → ((p q : Pos) → In p chosen → In q chosen → holds before p q → Precedes log pairs p q) → Woven log pairs schedule
    → (p q : Pos) → In p chosen → In q chosen → Decides schedule p q ↔ holds before p q

-- Where some schedule is woven for pairs, they can be woven.
abbrev pub WovenCanBeWoven : Type 0
WovenCanBeWoven = (image : Layout) (log : Log) (walk : Walk) (pairs : List (Pos × Pos)) (schedule : List ℕ)
    → IsWalk image log walk → CallsFit log → Woven log pairs schedule → CanBeWoven log pairs
