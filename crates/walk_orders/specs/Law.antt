-- Laws of orders of a log's steps, each the contract of a public function.
use Rattle.std.specs.Prelude.{◌≡◌, ◌↔◌, ℕ, Bool, List, ◌++◌}
use Rattle.elf_image.specs.Layout.{Layout}
use Rattle.odr_log.specs.declared.log.Log.{Log}
use Rattle.odr_log.specs.declared.log.Pos.{Pos}
use Rattle.rv_model.specs.Run.{HasLog}
use Rattle.rv_model.specs.Walk.{Walk, IsWalk}
use Rattle.rv_model.specs.Accesses.{accesses_of}
use Rattle.rv_model.specs.CallsFit.{CallsFit}
use Rattle.rv_model.specs.RecordedOrder.{Counted, RecordedOrder}
use Rattle.guided_walk.specs.Told.{told, IsPlace}
use Rattle.guided_walk.specs.Guided.{Given, Visits, at}
use Rattle.guided_walk.specs.Along.{walk_along, HoldsAlong, fault_places}
use Rattle.guided_walk.specs.Orders.{In, Keeps, Lists}
use Rattle.guided_walk.specs.Ordered.{ExitLast, IsExit, Ordered}
use Rattle.guided_walk.specs.Law.{holds}
use Rattle.guided_walk.specs.Woven.{Woven}
use Rattle.walk_orders.specs.RecordedTest.{recorded_before}
use Rattle.walk_orders.specs.Total.{AreCounted, IsTotal, Decides, ArePairs, ComesFrom}

-- Along two lists of all counted steps that keep an ordered relation and have an exit last, with the fault behind them, the
-- walk holds along both or neither, with the same visits.
abbrev pub ListsAgree : Type 0
ListsAgree = (image : Layout) (log : Log) (walk : Walk) (given : Given) (before : Pos → Pos → Bool) (steps others : List Pos)
    (start other : Visits) → IsWalk image log walk → Ordered image log (holds before)
    → Lists (Counted log) steps → Keeps (holds before) steps → ExitLast log steps
    → Lists (Counted log) others → Keeps (holds before) others → ExitLast log others
    → HoldsAlong image (told log walk) given (steps ++ fault_places log) start
    → HoldsAlong image (told log walk) given (others ++ fault_places log) other
    × ((p : Pos) → IsPlace (told log walk) p
    → at (walk_along image (told log walk) given (steps ++ fault_places log) start) p
    ≡ at (walk_along image (told log walk) given (others ++ fault_places log) other) p)

-- Where the walk is defined and the calls fit, the recorded order is ordered.
abbrev pub RecordedIsOrdered : Type 0
RecordedIsOrdered = (image : Layout) (log : Log) (walk : Walk) → IsWalk image log walk → CallsFit log
    → Ordered image log (RecordedOrder log)

-- There a test that only looks at the calls and the counts of steps is the recorded order.
abbrev pub RecordedTest : Type 0
RecordedTest = (image : Layout) (log : Log) (walk : Walk) (p q : Pos) → IsWalk image log walk → CallsFit log
    → holds (recorded_before log) p q ↔ RecordedOrder log p q

-- So the test is ordered too.
abbrev pub TestIsOrdered : Type 0
TestIsOrdered = (image : Layout) (log : Log) (walk : Walk) → IsWalk image log walk → CallsFit log
    → Ordered image log (holds (recorded_before log))

-- Where the walk is defined and the calls fit, every total order of chosen counted steps without an exit, such as
-- accesses, that agrees with the recorded order comes from one list of all counted steps.
abbrev pub WeavingLaw : Type 0
WeavingLaw = (image : Layout) (log : Log) (walk : Walk) (chosen : List Pos) (before : Pos → Pos → Bool)
    → IsWalk image log walk → CallsFit log → AreCounted log chosen → ((p : Pos) → In p chosen → IsExit log p → ⊥)
    → IsTotal log chosen (holds before) → ComesFrom log chosen (holds before)

-- An access is a counted step and no exit.
abbrev pub AccessesGoOn : Type 0
AccessesGoOn = (image : Layout) (log : Log) (walk : Walk) (p : Pos) → IsWalk image log walk → In p (accesses_of walk)
    → Counted log p × (IsExit log p → ⊥)

-- What a woven schedule decides of counted steps is a total order that agrees with the recorded order.
abbrev pub WovenDecides : Type 0
WovenDecides = (log : Log) (pairs : List (Pos × Pos)) (schedule : List ℕ) (chosen : List Pos) → CallsFit log
    → Woven log pairs schedule → AreCounted log chosen → IsTotal log chosen (Decides schedule)

-- A schedule that has the log is woven for each list of pairs of counted steps that it decides so.
abbrev pub LoggedIsWoven : Type 0
LoggedIsWoven = (image : Layout) (log : Log) (walk : Walk) (schedule : List ℕ) (chosen : List Pos)
    (pairs : List (Pos × Pos)) → IsWalk image log walk → CallsFit log → HasLog image log schedule
    → AreCounted log chosen → ArePairs chosen (Decides schedule) pairs → Woven log pairs schedule
