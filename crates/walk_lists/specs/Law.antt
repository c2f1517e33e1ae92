-- What the walk along such a list decides.
use Rattle.std.specs.Prelude.{◌≡◌, ◌↔◌, List, []}
use Rattle.elf_image.specs.Layout.{Layout}
use Rattle.odr_log.specs.declared.log.Pos.{Pos}
use Rattle.guided_walk.specs.Told.{Told, IsPlace}
use Rattle.guided_walk.specs.Guided.{Given, Visits, at, IsGuided, Guided}
use Rattle.guided_walk.specs.Along.{walk_along, HoldsAlong}
use Rattle.walk_lists.specs.Order.{IsOrder, HasEach}

-- the walk along a list, from any visits, is the guided walk
pub record IsWalkedOut (image : Layout) (told : Told) (given : Given) (steps : List Pos) (start : Visits) : Type 0 where
  pub holds : HoldsAlong image told given steps start ↔ Guided image told given
  pub visits : (visits : Visits) → IsGuided image told given visits → (p : Pos) → IsPlace told p → at visits p ≡ at (walk_along image told given steps start) p

abbrev pub ListLaw : Type 0
ListLaw = (image : Layout) (told : Told) (given : Given) (steps : List Pos) (start : Visits) → IsOrder told [] steps → HasEach told steps → IsWalkedOut image told given steps start
