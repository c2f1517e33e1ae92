-- Parts of a formula: what is added for some facts.
use Rattle.std.specs.Prelude.{ℕ, ◌<◌, ◌≤◌, Bool, IsSome, List, length, All}
use Rattle.bv_terms.specs.Values.{KeepsTerms}
use Rattle.bv_terms.specs.Values.{Assignment as TermAssignment}
use Rattle.bv_terms.specs.Variables.{KeepsVariables}
use Rattle.clause_store.specs.Literals.{Assignment}
use Rattle.clause_store.specs.UnitRule.{Partial, AllAtRest}
use Rattle.bit_clauses.specs.Bits.{TermExtension}
use Rattle.encoder.specs.declared.encoder.Encoder.{Encoder}
use Rattle.encoder.specs.Encodes.{IsKnown, Keeps, Spells}
use Rattle.formula_parts.specs.Order.{ArePlaces, DecidesOrder, IsOrder, Setting, SpellsOrder}
use Rattle.formula_parts.specs.Facts.{AreGiven, Fact, Gives, Holds, IsGivenFact}

-- an encoder has the terms of accesses, and the variables of their order
pub record StandsOn (setting : Setting) (encoder : Encoder) : Type 0 where
  pub known : IsKnown encoder
  pub terms : KeepsTerms setting.nodes encoder.pool
  pub variables : KeepsVariables setting.nodes encoder.pool
  pub places : ArePlaces (length setting.accesses) encoder.clauses.vars setting.places

-- assignments of terms and of literals that spell these and an order
pub record SpellsAll (setting : Setting) (encoder : Encoder) (t : TermAssignment) (w : Assignment) (lt : ℕ → ℕ → Bool) : Type 0 where
  pub spells : Spells encoder t w
  pub is_order : IsOrder setting.log setting.accesses lt
  pub order : SpellsOrder w setting.places lt

-- values of variables at which the unit rule has nothing to do, and which decide an order
pub record AtRest (setting : Setting) (encoder : Encoder) (v : Partial) (lt : ℕ → ℕ → Bool) : Type 0 where
  pub rest : AllAtRest v encoder.clauses.clauses
  pub is_order : IsOrder setting.log setting.accesses lt
  pub order : DecidesOrder v setting.places lt

-- What was added says that the facts hold.
pub record Adds (setting : Setting) (old new : Encoder) (facts : List Fact) : Type 0 where
  pub keeps : Keeps old new
  -- they do in each assignment that satisfies it
  pub sound : (w : Assignment) (t : TermAssignment) (lt : ℕ → ℕ → Bool) → SpellsAll setting new t w lt → All (Holds setting t lt) facts
  -- where they do, some values of the new variables satisfy it
  pub extends : (w : Assignment) (t : TermAssignment) (lt : ℕ → ℕ → Bool) → SpellsAll setting old t w lt → All (Holds setting t lt) facts
      → TermExtension new.blaster t old.clauses.vars w new.clauses.clauses
  -- the unit rule gives what is read, and outcomes, by what stands before them in an order
  pub gives : (v : Partial) (lt : ℕ → ℕ → Bool) → AtRest setting new v lt → All (Gives setting new v lt) facts
  -- and with the variables of accesses all that was added
  pub decides : (v : Partial) (lt : ℕ → ℕ → Bool) → AtRest setting new v lt → AreGiven setting new v → All (IsGivenFact new v) facts
      → (x : ℕ) → old.clauses.vars ≤ x → x < new.clauses.vars → IsSome (v x)
