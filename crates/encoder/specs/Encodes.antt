-- What is added for terms: literals that spell their values, by clauses that every assignment extends to.
use Rattle.std.specs.Prelude.{◌≡◌, ℕ, ◌<◌, ◌≤◌, nat_eq, false, Option, Some, None, IsSome, List, [], ◌∷◌, ◌++◌, slice_index_or, Contains, if◌then◌else◌}
use Rattle.bv_terms.specs.Constants.{constant_at}
use Rattle.bv_terms.specs.Values.{KeepsTerms, value_at}
use Rattle.bv_terms.specs.Values.{Assignment as TermAssignment}
use Rattle.bv_terms.specs.Variables.{KeepsVariables}
use Rattle.clause_store.specs.declared.lit.Lit.{Lit}
use Rattle.clause_store.specs.Literals.{Assignment, Satisfies}
use Rattle.clause_store.specs.Formula.{Grows}
use Rattle.clause_store.specs.UnitRule.{Partial, AllAtRest}
use Rattle.order_clauses.specs.declared.order_lit.OrderLit.{OrderLit}
use Rattle.order_clauses.specs.declared.order_lit.OrderLit.TheVariants as order_lit
use Rattle.bit_clauses.specs.Bits.{Agrees, IsBuilt, IsOf, KeepsBits, TermExtension, VariablesDecided}
use Rattle.bit_clauses.specs.Nodes.{lits_at}
use Rattle.encoder.specs.declared.encoder.Encoder.{Encoder}

-- what is known are literals of the terms, by the clauses
abbrev pub IsKnown : Encoder → Type 0
IsKnown encoder = IsOf encoder.blaster encoder.pool encoder.clauses

-- the assignment satisfies the clauses, and the literals of variables spell the values of these
pub record Spells (encoder : Encoder) (t : TermAssignment) (w : Assignment) : Type 0 where
  pub satisfies : Satisfies w encoder.clauses.clauses
  pub agrees : Agrees encoder.blaster t w

-- the variables of each of some terms have values
abbrev pub AllVariablesDecided : Encoder → Partial → List ℕ → Type 0
AllVariablesDecided encoder v terms = (id : ℕ) → Contains terms id → VariablesDecided encoder.blaster v encoder.pool id

-- What was there stays.
pub record Keeps (old new : Encoder) : Type 0 where
  pub known : IsKnown new
  pub terms : KeepsTerms old.pool new.pool
  pub variables : KeepsVariables old.pool new.pool
  pub bits : KeepsBits old.blaster new.blaster
  pub grows : Grows old.clauses new.clauses

-- With the variables of some terms, the unit rule gives all that was added.
abbrev pub DecidesBy : (old new : Encoder) → List ℕ → Type 0
DecidesBy old new terms = (v : Partial) → AllAtRest v new.clauses.clauses → AllVariablesDecided new v terms
    → (x : ℕ) → old.clauses.vars ≤ x → x < new.clauses.vars → IsSome (v x)

-- Literals and clauses were added for some terms. Every assignment that satisfies the older clauses extends, whatever values
-- the variables that are new to them have.
pub record Encodes (old new : Encoder) (terms : List ℕ) : Type 0 where
  pub keeps : Keeps old new
  pub extends : (w : Assignment) (t : TermAssignment) → Spells old t w → TermExtension new.blaster t old.clauses.vars w new.clauses.clauses
  pub decides : DecidesBy old new terms

-- Beside that, a term of one bit is 1.
pub record Requires (old new : Encoder) (term : ℕ) : Type 0 where
  pub keeps : Keeps old new
  pub sound : (w : Assignment) (t : TermAssignment) → Spells new t w → value_at t new.pool term ≡ 1
  pub extends : (w : Assignment) (t : TermAssignment) → Spells old t w → value_at t old.pool term ≡ 1
      → TermExtension new.blaster t old.clauses.vars w new.clauses.clauses
  pub decides : DecidesBy old new (term ∷ [])

-- the literals of some terms, one term after the other
abbrev pub joined : List (List Lit) → List ℕ → List Lit
joined lits [] = []
joined lits (id ∷ more) = lits_at lits id ++ joined lits more

-- terms that have literals
abbrev pub AreBuilt : Encoder → List ℕ → Type 0
AreBuilt encoder terms = (id : ℕ) → Contains terms id → IsBuilt encoder.blaster id

-- what says that a term of one bit is 1, by its value if it is a constant, else by its literal
abbrev pub test_of : Option ℕ → List Lit → OrderLit
test_of (Some value) lits = if nat_eq value 1 then order_lit.Always else order_lit.Never
test_of None lits = order_lit.Is (slice_index_or lits 0 (record { var = 0; positive = false }))

pub record IsTest (encoder : Encoder) (id : ℕ) (test : OrderLit) : Type 0 where
  pub built : constant_at encoder.pool id ≡ None → IsBuilt encoder.blaster id
  pub is : test ≡ test_of (constant_at encoder.pool id) (lits_at encoder.blaster.terms id)
