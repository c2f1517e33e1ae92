-- Laws of what a Blaster knows.
use Rattle.std.specs.Prelude.{ℕ, IsSome, None, List, []}
use Rattle.bv_terms.specs.Shapes.{Shape}
use Rattle.bv_terms.specs.Values.{KeepsTerms}
use Rattle.bv_terms.specs.Variables.{Occurs}
use Rattle.clause_store.specs.Formula.{Formula, Grows}
use Rattle.bit_clauses.specs.Bits.{Bits, IsBuilt, IsOf, first_of}

-- What is known of terms and clauses holds of more terms and more clauses.
abbrev pub KnownStays : Type 0
KnownStays = (b : Bits) (nodes more : List Shape) (before after : Formula) → KeepsTerms nodes more → Grows before after → IsOf b nodes before → IsOf b more after

-- A Blaster without literals serves any pool and any clauses.
abbrev pub NothingIsKnown : Type 0
NothingIsKnown = (nodes : List Shape) (f : Formula) → IsOf (record { sure = None; variables = []; terms = [] }) nodes f

-- Each variable that occurs in a term with literals has literals.
abbrev pub VariablesHaveLiterals : Type 0
VariablesHaveLiterals =
    (b : Bits) (nodes : List Shape) (f : Formula) (width number id : ℕ) → IsOf b nodes f → IsBuilt b id → Occurs nodes width number id
    → IsSome (first_of b.variables width number)
