-- Lists of steps in which each step stands after what it is made of.
use Rattle.std.specs.Prelude.{List, [], ◌∷◌, ◌++◌}
use Rattle.odr_log.specs.declared.log.Pos.{Pos}
use Rattle.guided_walk.specs.Told.{Told, IsPlace}
use Rattle.guided_walk.specs.Orders.{In}
use Rattle.guided_walk.specs.Flow.{Needs}

-- a step of the log that is not done, and what it is made of is
pub record Follows (told : Told) (done : List Pos) (p : Pos) : Type 0 where
  pub place : IsPlace told p
  pub new : In p done → ⊥
  pub needs : (q : Pos) → Needs told q p → In q done

-- each step of a list can stand after those done and those before it
abbrev pub IsOrder : Told → List Pos → List Pos → Type 0
IsOrder told done [] = Unit {0}
IsOrder told done (p ∷ later) = Follows told done p × IsOrder told (done ++ p ∷ []) later

-- each step of a log is in a list
abbrev pub HasEach : Told → List Pos → Type 0
HasEach told steps = (p : Pos) → IsPlace told p → In p steps
