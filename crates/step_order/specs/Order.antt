-- Orders of a log's counted steps in which each step stands after what it is made of.
use Rattle.std.specs.Prelude.{List, [], ◌++◌}
use Rattle.odr_log.specs.declared.log.Log.{Log}
use Rattle.odr_log.specs.declared.log.Pos.{Pos}
use Rattle.rv_model.specs.RecordedOrder.{Counted}
use Rattle.rv_model.specs.Walk.{Walk}
use Rattle.guided_walk.specs.Along.{fault_places}
use Rattle.guided_walk.specs.Orders.{In}
use Rattle.guided_walk.specs.Told.{told}
use Rattle.walk_lists.specs.Order.{HasEach, IsOrder}

-- The counted steps, each after what it is made of; with the fault behind them, these are all steps.
pub record IsStepOrder (log : Log) (walk : Walk) (steps : List Pos) : Type 0 where
  pub counted : (p : Pos) → In p steps → Counted log p
  pub order : IsOrder (told log walk) [] (steps ++ fault_places log)
  pub each : HasEach (told log walk) (steps ++ fault_places log)
