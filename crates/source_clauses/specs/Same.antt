-- Bits that are the same.
use Rattle.std.specs.Prelude.{◌≡◌, ℕ, ◌<◌, IsSome, List, [], ◌∷◌, length, Contains}
use Rattle.clause_store.specs.declared.lit.Lit.{Lit}
use Rattle.clause_store.specs.Literals.{Assignment, opposite, literal_value, Satisfies}
use Rattle.clause_store.specs.UnitRule.{Partial, AllAtRest}
use Rattle.clause_store.specs.Formula.{Formula, Grows}
use Rattle.order_clauses.specs.Clauses.{Below}
use Rattle.source_clauses.specs.Sees.{bit_at}

abbrev pub same_bit : Lit → Lit → List (List Lit)
same_bit bit read = (opposite bit ∷ read ∷ []) ∷ (bit ∷ opposite read ∷ []) ∷ []

abbrev pub SameClause : List Lit → List Lit → List Lit → Type 0
SameClause bits read = Below (length read) (λ b. Contains (same_bit (bit_at bits b) (bit_at read b)))

-- each bit that is read has the value of its source
abbrev pub AreSame : Assignment → List Lit → List Lit → Type 0
AreSame w bits read = (b : ℕ) → b < length read → literal_value w (bit_at read b) ≡ literal_value w (bit_at bits b)

-- Clauses that are true exactly where the bits are the same; a bit that has a value gives it to the one that is read.
pub record AddsSame (old new : Formula) (bits read : List Lit) : Type 0 where
  pub grows : Grows old new
  pub vars : new.vars ≡ old.vars
  pub sound : (w : Assignment) → Satisfies w new.clauses → AreSame w bits read
  pub complete : (w : Assignment) → Satisfies w old.clauses → AreSame w bits read → Satisfies w new.clauses
  pub reads : (v : Partial) → AllAtRest v new.clauses → (b : ℕ) → b < length read → IsSome (v (bit_at bits b).var) → IsSome (v (bit_at read b).var)
