-- Laws of guided walks, each the contract of a public function.
use Rattle.std.specs.Prelude.{◌≡◌, ◌↔◌, ℕ, Bool, true, List, ◌++◌}
use Rattle.elf_image.specs.Layout.{Layout}
use Rattle.odr_log.specs.declared.log.Pos.{Pos}
use Rattle.odr_log.specs.declared.log.Log.{Log}
use Rattle.rv_model.specs.Run.{HasLog}
use Rattle.rv_model.specs.Walk.{Walk, IsWalk}
use Rattle.rv_model.specs.CallsFit.{CallsFit}
use Rattle.rv_model.specs.RecordedOrder.{Counted}
use Rattle.guided_walk.specs.Told.{Told, told, IsPlace}
use Rattle.guided_walk.specs.Guided.{Given, Visits, at, IsGuided, Guided}
use Rattle.guided_walk.specs.Orders.{Keeps, Lists}
use Rattle.guided_walk.specs.Fits.{Explained}
use Rattle.guided_walk.specs.Woven.{Woven}
use Rattle.guided_walk.specs.Ordered.{Ordered}
use Rattle.guided_walk.specs.Along.{walk_along, HoldsAlong, HasNeeds, fault_places}

abbrev pub holds : (Pos → Pos → Bool) → Pos → Pos → Type 0
holds before p q = before p q ≡ true

-- Along two lists of all places that keep an order, the walk holds along both or neither, with the same visits.
abbrev pub OrderLaw : Type 0
OrderLaw = (image : Layout) (told : Told) (given : Given) (before : Pos → Pos → Bool) (steps others : List Pos) (start other : Visits)
    → HasNeeds told (holds before) → Lists (IsPlace told) steps → Lists (IsPlace told) others
    → Keeps (holds before) steps → Keeps (holds before) others → HoldsAlong image told given steps start
    → HoldsAlong image told given others other
    × ((p : Pos) → IsPlace told p → at (walk_along image told given steps start) p ≡ at (walk_along image told given others other) p)

-- Along a list of all places that keeps an order, the walk holds exactly where the guided walk does, and finds its visits.
abbrev pub TableLaw : Type 0
TableLaw = (image : Layout) (told : Told) (given : Given) (before : Pos → Pos → Bool) (steps : List Pos) (start : Visits)
    → HasNeeds told (holds before) → Lists (IsPlace told) steps → Keeps (holds before) steps
    → (HoldsAlong image told given steps start ↔ Guided image told given)
    × ((visits : Visits) → IsGuided image told given visits → (p : Pos) → IsPlace told p → at visits p ≡ at (walk_along image told given steps start) p)

-- A schedule that is woven has the log exactly where one guided walk fits it.
abbrev pub ScheduleLaw : Type 0
ScheduleLaw = (image : Layout) (log : Log) (walk : Walk) (pairs : List (Pos × Pos)) (schedule : List ℕ) → log.version ≡ 1 → IsWalk image log walk → CallsFit log
    → Woven log pairs schedule → HasLog image log schedule ↔ Explained image (told log walk) schedule

-- Along two lists of all counted steps that keep an ordered relation, with the fault behind them, the walk holds along both
-- or neither, with the same visits.
abbrev pub OrderedLaw : Type 0
OrderedLaw = (image : Layout) (log : Log) (walk : Walk) (given : Given) (before : Pos → Pos → Bool) (steps others : List Pos) (start other : Visits)
    → IsWalk image log walk → CallsFit log → Ordered image log (holds before) → Lists (Counted log) steps → Lists (Counted log) others
    → Keeps (holds before) steps → Keeps (holds before) others → HoldsAlong image (told log walk) given (steps ++ fault_places log) start
    → HoldsAlong image (told log walk) given (others ++ fault_places log) other
    × ((p : Pos) → IsPlace (told log walk) p
    → at (walk_along image (told log walk) given (steps ++ fault_places log) start) p ≡ at (walk_along image (told log walk) given (others ++ fault_places log) other) p)
