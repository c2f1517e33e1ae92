-- A list of clauses stands for an image and a log.
use Rattle.std.specs.Prelude.{◌≡◌, ◌↔◌, ℕ, Bool, true, false, List, [], ◌∷◌, ◌++◌, Option, Some, None, Contains}
use Rattle.elf_image.specs.Layout.{Layout}
use Rattle.odr_log.specs.declared.log.Log.{Log}
use Rattle.odr_log.specs.declared.log.Pos.{Pos}
use Rattle.rv_model.specs.Run.{HasLog}
use Rattle.clause_store.specs.declared.lit.Lit.{Lit}
use Rattle.clause_store.specs.Literals.{Assignment, Satisfies}
use Rattle.guided_walk.specs.Orders.{Stands}
use Rattle.guided_walk.specs.Schedules.{places}
use Rattle.guided_walk.specs.Woven.{Woven}
use Rattle.schedule_extract.specs.Going.{NoRing}

-- The variables of the order, and the two steps of which each says that the first stands before the second.
pub record OrderVariables : Type 0 where
  pub first : List ℕ
  pub pair : ℕ → Option (Pos × Pos)

-- two steps as a value of their variable has them
abbrev pub turned : Bool → Option (Pos × Pos) → List (Pos × Pos)
turned up None = []
turned true (Some pair) = pair ∷ []
turned false (Some pair) = (pair.1, pair.0) ∷ []

-- the pairs that an assignment decides, the earlier step first
abbrev pub pairs_of : Assignment → (pair : ℕ → Option (Pos × Pos)) → List ℕ → List (Pos × Pos)
pairs_of w pair [] = []
pairs_of w pair (x ∷ more) = turned (w x) (pair x) ++ pairs_of w pair more

abbrev pub decided : Assignment → OrderVariables → List (Pos × Pos)
decided w order = pairs_of w order.pair order.first

-- an assignment has the order of a schedule
abbrev pub AgreesWith : Assignment → OrderVariables → List ℕ → Type 0
AgreesWith w order schedule =
    (x : ℕ) (p q : Pos) → Contains order.first x → order.pair x ≡ Some (p, q) → (w x ≡ true) ↔ Stands (places schedule) p q

-- a satisfying assignment with the order of a schedule
pub record IsShownBy (clauses : List (List Lit)) (order : OrderVariables) (schedule : List ℕ) : Type 0 where
  pub assignment : Assignment
  pub satisfies : Satisfies assignment clauses
  pub agrees : AgreesWith assignment order schedule

-- What satisfying assignments decide has no ring with the recorded order, and each schedule that is woven for it has the log.
-- Each schedule that has the log is shown by one.
pub record StandsFor (image : Layout) (log : Log) (clauses : List (List Lit)) (order : OrderVariables) : Type 0 where
  pub no_ring : (w : Assignment) → Satisfies w clauses → NoRing log (decided w order)
  pub sound : (w : Assignment) (schedule : List ℕ) → Satisfies w clauses → Woven log (decided w order) schedule → HasLog image log schedule
  pub complete : (schedule : List ℕ) → HasLog image log schedule → IsShownBy clauses order schedule
