-- The conditions under which a store-conditional fails.
use Rattle.std.specs.Prelude.{◌≡◌, ◌↔◌, ℕ, ◌<◌, ◌≤◌, true, IsSome, List, All}
use Rattle.clause_store.specs.Literals.{Assignment, opposite, Satisfies}
use Rattle.clause_store.specs.UnitRule.{Partial, AllAtRest}
use Rattle.clause_store.specs.Formula.{Formula, Grows, Extension}
use Rattle.order_clauses.specs.declared.order_lit.OrderLit.{OrderLit}
use Rattle.order_clauses.specs.declared.order_lit.OrderLit.TheVariants as order_lit
use Rattle.order_clauses.specs.Literals.{spelled}
use Rattle.order_clauses.specs.Grid.{IsKnownOrder}
use Rattle.outcome_clauses.specs.declared.store_conditional.Ender.{Ender}
use Rattle.outcome_clauses.specs.Succeeds.{Ends}
use Rattle.outcome_clauses.specs.Contract.{HasValue, IsPlaced}
use Rattle.outcome_clauses.specs.NoneOf.{NoneHolds}

abbrev pub negated : OrderLit → OrderLit
negated order_lit.Always = order_lit.Never
negated order_lit.Never = order_lit.Always
negated (order_lit.Is l) = order_lit.Is (opposite l)

-- a condition that holds exactly where the write ends the reservation
pub record IsEnding (old new : Formula) (ender : Ender) (ending : OrderLit) : Type 0 where
  pub grows : Grows old new
  pub known : IsKnownOrder new.vars ending
  pub has_value : (w : Assignment) → Satisfies w new.clauses → (spelled w ending ≡ true) ↔ Ends w ender
  pub extends : (w : Assignment) → Satisfies w old.clauses → Extension old.vars w new.clauses
  pub decided : (v : Partial) → AllAtRest v new.clauses → IsPlaced v ender → HasValue v ending
  pub decides : (v : Partial) → AllAtRest v new.clauses → IsPlaced v ender → (x : ℕ) → old.vars ≤ x → x < new.vars → IsSome (v x)

-- conditions of which none holds exactly where the addresses are the same and none of the writes ends the reservation
pub record AreFailures (old new : Formula) (same : OrderLit) (enders : List Ender) (failures : List OrderLit) : Type 0 where
  pub grows : Grows old new
  pub known : All (IsKnownOrder new.vars) failures
  pub none : (w : Assignment) → Satisfies w new.clauses → NoneHolds w failures ↔ ((spelled w same ≡ true) × All (λ ender. Ends w ender → ⊥) enders)
  pub extends : (w : Assignment) → Satisfies w old.clauses → Extension old.vars w new.clauses
  pub decided : (v : Partial) → AllAtRest v new.clauses → HasValue v same → All (IsPlaced v) enders → All (HasValue v) failures
  pub decides : (v : Partial) → AllAtRest v new.clauses → All (IsPlaced v) enders → (x : ℕ) → old.vars ≤ x → x < new.vars → IsSome (v x)
