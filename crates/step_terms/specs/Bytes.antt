-- Bytes as terms.
use Rattle.std.specs.Prelude.{ℕ, List, map, All}
use Rattle.bv_terms.specs.declared.node.TermId.{TermId}
use Rattle.bv_terms.specs.Shapes.{Shape}
use Rattle.bv_terms.specs.Values.{Assignment, value_at}
use Rattle.step_terms.specs.Made.{IsTerm}

-- terms of 8 bits
abbrev pub AreBytes : List Shape → List TermId → Type 0
AreBytes nodes ids = All (λ id. IsTerm nodes 8 id.number) ids

abbrev pub numbers : List TermId → List ℕ
numbers ids = map (λ id. id.number) ids

-- the values of terms
abbrev pub values : Assignment → List Shape → List TermId → List ℕ
values w nodes ids = map (λ id. value_at w nodes id.number) ids
