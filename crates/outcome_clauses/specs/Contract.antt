-- What the clauses of a store-conditional promise.
use Rattle.std.specs.Prelude.{ℕ, ◌<◌, ◌≤◌, Bool, true, IsSome, All}
use Rattle.clause_store.specs.Literals.{Assignment, Satisfies}
use Rattle.clause_store.specs.UnitRule.{Partial, AllAtRest}
use Rattle.clause_store.specs.Formula.{Formula, Grows, Extension}
use Rattle.order_clauses.specs.declared.order_lit.OrderLit.{OrderLit}
use Rattle.order_clauses.specs.Grid.{IsKnownOrder}
use Rattle.source_clauses.specs.Conditions.{IsDecided}
use Rattle.outcome_clauses.specs.declared.store_conditional.Ender.{Ender}
use Rattle.outcome_clauses.specs.declared.store_conditional.StoreConditional.{StoreConditional}
use Rattle.outcome_clauses.specs.Succeeds.{HasOutcome}

pub record KnowsEnder (vars : ℕ) (ender : Ender) : Type 0 where
  pub after : IsKnownOrder vars ender.after
  pub before : IsKnownOrder vars ender.before
  pub hit : IsKnownOrder vars ender.hit

pub record KnowsConditional (vars : ℕ) (sc : StoreConditional) : Type 0 where
  pub same : IsKnownOrder vars sc.same
  pub enders : All (KnowsEnder vars) sc.enders
  pub outcome : sc.outcome.var < vars

-- the values of some variables make the condition true or false
abbrev pub HasValue : Partial → OrderLit → Type 0
HasValue v condition = (b : Bool) × IsDecided v condition b

-- The values of some variables say whether the write stands after the load-reserved; if so, whether it stands before the
-- store-conditional; and if it stands between the two, whether it hits.
pub record IsPlaced (v : Partial) (ender : Ender) : Type 0 where
  pub after : HasValue v ender.after
  pub before : IsDecided v ender.after true → HasValue v ender.before
  pub hit : IsDecided v ender.after true → IsDecided v ender.before true → HasValue v ender.hit

pub record AddsOutcome (old new : Formula) (sc : StoreConditional) : Type 0 where
  pub grows : Grows old new
  -- in each assignment that satisfies them the outcome is true exactly where the store-conditional succeeds
  pub sound : (w : Assignment) → Satisfies w new.clauses → HasOutcome w sc
  -- where it is, some values of the new variables satisfy them
  pub extends : (w : Assignment) → Satisfies w old.clauses → HasOutcome w sc → Extension old.vars w new.clauses
  -- an order, with the hits of the writes between, gives each new variable a value by the unit rule
  pub decides : (v : Partial) → AllAtRest v new.clauses → All (IsPlaced v) sc.enders → (x : ℕ) → old.vars ≤ x → x < new.vars → IsSome (v x)
  -- and, with whether the addresses are the same, the outcome
  pub settles : (v : Partial) → AllAtRest v new.clauses → All (IsPlaced v) sc.enders → HasValue v sc.same → IsSome (v sc.outcome.var)
