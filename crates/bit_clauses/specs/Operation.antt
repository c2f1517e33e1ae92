-- Literals that spell the value of an operation.
use Rattle.std.specs.Prelude.{◌≡◌, ◌<◌, ℕ, true, List, length}
use Rattle.bv_terms.specs.declared.node.BinOp.{BinOp}
use Rattle.bv_terms.specs.BitVectors.{BitVector, bits, bin_value, bin_width}
use Rattle.clause_store.specs.declared.lit.Lit.{Lit}
use Rattle.clause_store.specs.Literals.{Assignment, literal_value}
use Rattle.clause_store.specs.Formula.{Formula, IsKnown}
use Rattle.clause_store.specs.UnitRule.{Partial}
use Rattle.bit_clauses.specs.Circuit.{IsCircuit, Decides, DecidesAll}
use Rattle.bit_clauses.specs.Spelled.{spelled}

-- the bit vector that literals spell
abbrev pub vector : Assignment → List Lit → BitVector
vector w lits = bits (length lits) (spelled w lits)

-- So many literals spell the value, wherever the clauses hold and `sure` is true. With what is `Given`, and with
-- `sure`, the unit rule gives them and the new variables.
pub record Spells (old new : Formula) (Given : Partial → Type 0) (sure : Lit) (width : ℕ) (value : Assignment → ℕ) (out : List Lit) : Type 0 where
  pub count : length out ≡ width
  pub known : IsKnown new.vars out
  pub circuit : IsCircuit old new (λ v. Given v × Decides v sure) (λ v. DecidesAll v out) (λ w. literal_value w sure ≡ true → spelled w out ≡ value w)

-- the literals of an operation on two terms
abbrev pub SpellsOperation : Formula → Formula → BinOp → List Lit → List Lit → Lit → List Lit → Type 0
SpellsOperation old new op left right sure out =
    Spells old new (λ v. DecidesAll v left × DecidesAll v right) sure (bin_width op (length left) (length right)) (λ w. bin_value op (vector w left) (vector w right)) out

-- the literals of an operation on one term
abbrev pub SpellsOf : Formula → Formula → List Lit → Lit → ℕ → (BitVector → ℕ) → List Lit → Type 0
SpellsOf old new lits sure width value out = Spells old new (λ v. DecidesAll v lits) sure width (λ w. value (vector w lits)) out

-- the literals of an operation on one term that needs no gate, over whatever formula
abbrev pub SpellsWired : List Lit → Lit → ℕ → (BitVector → ℕ) → List Lit → Type 0
SpellsWired lits sure width value out = (f : Formula) → IsKnown f.vars lits → sure.var < f.vars → SpellsOf f f lits sure width value out
