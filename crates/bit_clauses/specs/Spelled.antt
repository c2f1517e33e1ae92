-- The number that literals spell, the one of the lowest bit first.
use Rattle.std.specs.Prelude.{ℕ, ◌+◌, ◌*◌, Bool, List, [], ◌∷◌, map}
use Rattle.bv_terms.specs.BitVectors.{bit_of}
use Rattle.clause_store.specs.declared.lit.Lit.{Lit}
use Rattle.clause_store.specs.Literals.{Assignment, literal_value}

-- the number whose binary digits are these truth values
abbrev pub number : List Bool → ℕ
number [] = 0
number (bit ∷ higher) = bit_of bit + 2 * number higher

-- a literal as a digit
abbrev pub bit : Assignment → Lit → ℕ
bit w l = bit_of (literal_value w l)

abbrev pub values : Assignment → List Lit → List Bool
values w lits = map (literal_value w) lits

abbrev pub spelled : Assignment → List Lit → ℕ
spelled w lits = number (values w lits)
