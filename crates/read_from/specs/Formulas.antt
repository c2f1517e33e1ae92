-- What the formula of an image and a log is.
use Rattle.std.specs.Prelude.{◌≡◌, ℕ, ◌<◌, ◌≤◌, List, [], ◌∷◌, Contains, length, Option, Some, None}
use Rattle.odr_limits.specs.declared.TheConstants.{MOST_ACCESSES}
use Rattle.elf_image.specs.Layout.{Layout}
use Rattle.odr_log.specs.declared.log.Log.{Log}
use Rattle.odr_log.specs.declared.log.Pos.{Pos}
use Rattle.rv_model.specs.Accesses.{accesses_of}
use Rattle.rv_model.specs.CallsFit.{CallsFit}
use Rattle.rv_model.specs.RecordedOrder.{IsOpen}
use Rattle.rv_model.specs.Walk.{IsWalk, PathsFit, Walk}
use Rattle.happens_before.specs.Table.{IsOrderOf}
use Rattle.clause_store.specs.declared.lit.Lit.{Lit}
use Rattle.clause_store.specs.Formula.{Formula as Clauses}
use Rattle.clause_store.specs.Rooted.{IsRooted}
use Rattle.walk_facts.specs.Steps.{IsAccess}
use Rattle.stands_for.specs.Law.{order_of}
use Rattle.stands_for.specs.Stands.{OrderVariables, StandsFor}
use Rattle.read_from.specs.declared.formula.Formula.{Formula}
use Rattle.read_from.specs.declared.formula.FormulaFault.{FormulaFault}
use Rattle.read_from.specs.declared.formula.FormulaFault.TheVariants as fault
use Rattle.read_from.specs.declared.formula.Ordering.{Ordering}

-- the order variables of a formula, none where there is no ordering
abbrev pub order_in : Option Ordering → OrderVariables
order_in None = record { first = []; pair = λ (x : ℕ). None }
order_in (Some ordering) = order_of ordering.vars.chosen ordering.vars.ordered

-- two accesses of different threads that the recorded order leaves open
pub record IsOpenPair (log : Log) (walk : Walk) (pair : Pos × Pos) : Type 0 where
  pub first : IsAccess log walk pair.0
  pub second : IsAccess log walk pair.1
  pub unordered : IsOpen log pair.0 pair.1

-- Each order variable is that of an open pair of accesses, and no other number names a pair.
pub record NameOpenPairs (log : Log) (walk : Walk) (order : OrderVariables) : Type 0 where
  pub each : (x : ℕ) → Contains order.first x → (pair : Pos × Pos) × (order.pair x ≡ Some pair) × IsOpenPair log walk pair
  pub only : (x : ℕ) (pair : Pos × Pos) → order.pair x ≡ Some pair → Contains order.first x

-- each access at one of some steps is ordered
abbrev pub AreOrdered : Log → Walk → (also chosen : List Pos) → Type 0
AreOrdered log walk also chosen = (p : Pos) → Contains also p → IsAccess log walk p → Contains chosen p

-- The log's walk is defined and its calls fit, and the variables name open pairs of accesses.
pub record IsOrderingOf (image : Layout) (log : Log) (also : List Pos) (ordering : Ordering) : Type 0 where
  pub walk : Walk
  pub is_walk : IsWalk image log walk
  pub order_of_log : IsOrderOf ordering.order log
  pub names : NameOpenPairs log walk (order_of ordering.vars.chosen ordering.vars.ordered)
  pub asked : AreOrdered log walk also ordering.vars.chosen

-- Or it isn't so, and the clauses are the empty one.
pub record IsRefuted (image : Layout) (log : Log) (clauses : Clauses) : Type 0 where
  pub unfit : PathsFit image log → CallsFit log → ⊥
  pub empty : clauses.clauses ≡ [] ∷ []

abbrev pub HasOrdering : Layout → Log → List Pos → Clauses → Option Ordering → Type 0
HasOrdering image log also clauses None = IsRefuted image log clauses
HasOrdering image log also clauses (Some ordering) = IsOrderingOf image log also ordering

-- From any values of some variables the unit rule makes a clause false, or gives every other variable its value.
abbrev pub Decide : List ℕ → Clauses → Type 0
Decide first clauses = (l : Lit) → l.var < clauses.vars → IsRooted clauses.clauses first l

-- The clauses stand for the image and the log, and the order of accesses decides all.
pub record IsFormulaOf (image : Layout) (log : Log) (also : List Pos) (formula : Formula) : Type 0 where
  pub stands : StandsFor image log formula.clauses.clauses (order_in formula.ordering)
  pub decide : Decide (order_in formula.ordering).first formula.clauses
  pub ordering_is : HasOrdering image log also formula.clauses formula.ordering

-- a walk, if there is one, has few enough accesses
abbrev pub HasFewAccesses : Layout → Log → Type 0
HasFewAccesses image log = (walk : Walk) → IsWalk image log walk → length (accesses_of walk) ≤ MOST_ACCESSES

-- The walk has more than the greatest number of accesses, and this is their number; or memory was wanted.
abbrev pub IsRefusal : Layout → Log → FormulaFault → Type 0
IsRefusal image log (fault.TooManyAccesses count) = (walk : Walk) × IsWalk image log walk × (count ≡ length (accesses_of walk)) × (MOST_ACCESSES < count)
IsRefusal image log fault.Memory = Unit {0}
