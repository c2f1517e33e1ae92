-- The literals of a node, from those of the terms that it stands on.
use Rattle.std.specs.Prelude.{◌<◌, ◌≤◌, ℕ, List, [], All, length, slice_index_or}
use Rattle.bv_terms.specs.BitVectors.{BitVector}
use Rattle.bv_terms.specs.Shapes.{Shape, Var, children}
use Rattle.bv_terms.specs.Values.{node_value, node_width}
use Rattle.bv_terms.specs.Values.{Assignment as TermAssignment}
use Rattle.clause_store.specs.declared.lit.Lit.{Lit}
use Rattle.clause_store.specs.Literals.{Assignment}
use Rattle.clause_store.specs.Formula.{Formula, IsKnown}
use Rattle.clause_store.specs.UnitRule.{Partial}
use Rattle.bit_clauses.specs.Circuit.{DecidesAll}
use Rattle.bit_clauses.specs.Operation.{Spells, vector}

-- the literals of a term of a table, none where it has none
abbrev pub lits_at : List (List Lit) → ℕ → List Lit
lits_at terms id = slice_index_or terms id []

-- the term has 1 to 64 literals, of known variables
pub record HasLiterals (terms : List (List Lit)) (vars id : ℕ) : Type 0 where
  pub some_bit : 0 < length (lits_at terms id)
  pub narrow : length (lits_at terms id) ≤ 64
  pub known : IsKnown vars (lits_at terms id)

-- the terms that a node stands on have literals
abbrev pub HaveLiterals : List (List Lit) → ℕ → Shape → Type 0
HaveLiterals terms vars node = All (HasLiterals terms vars) (children node)

abbrev pub width_in : List (List Lit) → ℕ → ℕ
width_in terms id = length (lits_at terms id)

abbrev pub vector_in : List (List Lit) → Assignment → ℕ → BitVector
vector_in terms w id = vector w (lits_at terms id)

-- the literals of the terms that a node stands on have values
abbrev pub AreDecided : List (List Lit) → Partial → Shape → Type 0
AreDecided terms v node = All (λ id. DecidesAll v (lits_at terms id)) (children node)

-- the node is no variable
abbrev pub IsOperation : Shape → Type 0
IsOperation (Var width number) = ⊥
IsOperation other = Unit {0}

-- the literals of a node that is no variable
abbrev pub SpellsNode : Formula → Formula → List (List Lit) → Lit → Shape → List Lit → Type 0
SpellsNode old new terms sure node out =
    (t : TermAssignment) → Spells old new (λ v. AreDecided terms v node) sure (node_width (width_in terms) node) (λ w. node_value t (vector_in terms w) node) out
