-- A literal that is true exactly where none of some conditions holds.
use Rattle.std.specs.Prelude.{◌≡◌, ◌⊎◌, ◌↔◌, true, false, IsSome, List, [], ◌∷◌, All, Contains}
use Rattle.clause_store.specs.declared.lit.Lit.{Lit}
use Rattle.clause_store.specs.Literals.{Assignment, opposite, literal_value, Satisfies}
use Rattle.clause_store.specs.UnitRule.{Partial, MakesTrue, MakesFalse, AllAtRest}
use Rattle.clause_store.specs.Formula.{Formula, Grows}
use Rattle.order_clauses.specs.declared.order_lit.OrderLit.{OrderLit}
use Rattle.order_clauses.specs.declared.order_lit.OrderLit.TheVariants as order_lit
use Rattle.order_clauses.specs.Literals.{spelled}
use Rattle.source_clauses.specs.Conditions.{IsDecided}
use Rattle.outcome_clauses.specs.Contract.{HasValue}

abbrev pub NoneHolds : Assignment → List OrderLit → Type 0
NoneHolds w conditions = All (λ condition. spelled w condition ≡ false) conditions

-- the clause that makes the literal false where the condition holds
abbrev pub refutation : Lit → OrderLit → List (List Lit)
refutation literal order_lit.Never = []
refutation literal order_lit.Always = (opposite literal ∷ []) ∷ []
refutation literal (order_lit.Is l) = (opposite l ∷ opposite literal ∷ []) ∷ []

-- where one of the conditions holds, the literal is false
pub record Refutes (old new : Formula) (literal : Lit) (conditions : List OrderLit) : Type 0 where
  pub grows : Grows old new
  pub vars : new.vars ≡ old.vars
  pub sound : (w : Assignment) → Satisfies w new.clauses → literal_value w literal ≡ true → NoneHolds w conditions
  pub complete : (w : Assignment) → Satisfies w old.clauses → (literal_value w literal ≡ true → NoneHolds w conditions) → Satisfies w new.clauses
  pub gives : (v : Partial) → AllAtRest v new.clauses → (condition : OrderLit) → Contains conditions condition → IsDecided v condition true
      → MakesFalse v literal

-- a clause of the literal and of those among the conditions
pub record IsEither (literal : Lit) (conditions : List OrderLit) (clause : List Lit) : Type 0 where
  pub own : Contains clause literal
  pub each : (l : Lit) → Contains conditions (order_lit.Is l) → Contains clause l
  pub only : (l : Lit) → Contains clause l → (l ≡ literal) ⊎ Contains conditions (order_lit.Is l)

-- where none of the conditions holds, the literal is true
pub record Affirms (old new : Formula) (literal : Lit) (conditions : List OrderLit) : Type 0 where
  pub grows : Grows old new
  pub vars : new.vars ≡ old.vars
  pub sound : (w : Assignment) → Satisfies w new.clauses → NoneHolds w conditions → literal_value w literal ≡ true
  pub complete : (w : Assignment) → Satisfies w old.clauses → (NoneHolds w conditions → literal_value w literal ≡ true) → Satisfies w new.clauses
  pub gives : (v : Partial) → AllAtRest v new.clauses → All (λ condition. IsDecided v condition false) conditions → MakesTrue v literal

pub record IsNoneOf (old new : Formula) (literal : Lit) (conditions : List OrderLit) : Type 0 where
  pub grows : Grows old new
  pub vars : new.vars ≡ old.vars
  pub sound : (w : Assignment) → Satisfies w new.clauses → (literal_value w literal ≡ true) ↔ NoneHolds w conditions
  pub complete : (w : Assignment) → Satisfies w old.clauses → (literal_value w literal ≡ true) ↔ NoneHolds w conditions → Satisfies w new.clauses
  pub settles : (v : Partial) → AllAtRest v new.clauses → All (HasValue v) conditions → IsSome (v literal.var)
