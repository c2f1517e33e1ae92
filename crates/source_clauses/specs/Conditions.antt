-- Conditions that hold always, never, or where a literal is true.
use Rattle.std.specs.Prelude.{◌≡◌, ℕ, ◌<◌, ◌≤◌, ◌&&◌, Bool, true, false, IsSome}
use Rattle.clause_store.specs.Literals.{Assignment, Satisfies}
use Rattle.clause_store.specs.UnitRule.{Partial, IsGiven, AllAtRest}
use Rattle.clause_store.specs.Formula.{Formula, Grows, Extension}
use Rattle.order_clauses.specs.declared.order_lit.OrderLit.{OrderLit}
use Rattle.order_clauses.specs.declared.order_lit.OrderLit.TheVariants as order_lit
use Rattle.order_clauses.specs.Literals.{spelled}
use Rattle.order_clauses.specs.Grid.{IsKnownOrder}

-- the values of some variables make the condition true, or false
abbrev pub IsDecided : Partial → OrderLit → Bool → Type 0
IsDecided v order_lit.Always b = b ≡ true
IsDecided v order_lit.Never b = b ≡ false
IsDecided v (order_lit.Is l) b = IsGiven v l b

-- A condition that is true exactly where two others are. The unit rule gives it its value as soon as the first one has
-- one and, where that is true, the second one has one too; and then each new variable has a value.
pub record IsBoth (old new : Formula) (first second out : OrderLit) : Type 0 where
  pub grows : Grows old new
  pub known : IsKnownOrder new.vars out
  pub has_value : (w : Assignment) → Satisfies w new.clauses → spelled w out ≡ spelled w first && spelled w second
  pub extends : (w : Assignment) → Satisfies w old.clauses → Extension old.vars w new.clauses
  pub given : (v : Partial) (a b : Bool) → AllAtRest v new.clauses → IsDecided v first a → (a ≡ true → IsDecided v second b) → IsDecided v out (a && b)
  pub decides : (v : Partial) (b : Bool) → IsDecided v out b → (x : ℕ) → old.vars ≤ x → x < new.vars → IsSome (v x)
