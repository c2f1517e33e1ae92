-- Schedules that keep the recorded order of a log and the order of further pairs of steps.
use Rattle.std.specs.Prelude.{◌≡◌, ℕ, List, [], ◌∷◌, ◌++◌, Contains}
use Rattle.odr_log.specs.declared.log.End.{End}
use Rattle.odr_log.specs.declared.log.End.TheVariants as end
use Rattle.odr_log.specs.declared.log.Log.{Log}
use Rattle.odr_log.specs.declared.log.Pos.{Pos}
use Rattle.rv_model.specs.Run.{logged}
use Rattle.rv_model.specs.RecordedOrder.{RecordedOrder}
use Rattle.guided_walk.specs.Orders.{Keeps, Stands}
use Rattle.guided_walk.specs.Schedules.{places, times}
use Rattle.guided_walk.specs.Ordered.{ExitLast}

-- the thread whose fault ends the log, or nothing
abbrev pub faulting : End → List ℕ
faulting (end.Faulted thread fault) = thread ∷ []
faulting (end.Exited thread code) = []
faulting end.AllDone = []
faulting end.Cut = []

-- A schedule of each thread's counted steps, and of the fault, last. It keeps the recorded order and the pairs, and an exit
-- is its last step.
pub record Woven (log : Log) (pairs : List (Pos × Pos)) (schedule : List ℕ) : Type 0 where
  pub counted : List ℕ
  pub whole : schedule ≡ counted ++ faulting log.end
  pub steps : (thread : ℕ) → times thread counted ≡ (logged log thread).steps
  pub recorded : Keeps (RecordedOrder log) (places counted)
  pub paired : (p q : Pos) → Contains pairs (p, q) → Stands (places counted) p q
  pub exit_last : ExitLast log (places schedule)
