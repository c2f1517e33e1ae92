-- Which variables stand for what is given: one of 8 bits for each byte that a step may read, and one of one bit for the outcome
-- of its store-conditional.
use Rattle.std.specs.Prelude.{◌≡◌, ℕ, ◌+◌, ◌*◌, ◌^◌, ◌<◌, List, Some, length, slice_get, slice_index_or}
use Rattle.odr_log.specs.declared.log.Pos.{Pos}
use Rattle.bv_terms.specs.declared.node.TermId.{TermId}
use Rattle.bv_terms.specs.Shapes.{Shape, Var}
use Rattle.bv_terms.specs.Values.{Assignment, value_at}
use Rattle.step_terms.specs.Made.{IsTerm}

-- the number of a step: a log has fewer than 2 ^ 18 steps
abbrev pub step_number : ℕ → ℕ → ℕ
step_number thread step = thread * 2 ^ 18 + step

-- the number of a byte of a step: an access has at most 2 ^ 8 bytes
abbrev pub byte_number : ℕ → ℕ → ℕ → ℕ
byte_number thread step index = step_number thread step * 2 ^ 8 + index

-- the term is the variable of this width and number
pub record IsVariable (nodes : List Shape) (bits number id : ℕ) : Type 0 where
  pub term : IsTerm nodes bits id
  pub node : slice_get nodes id ≡ Some (Var bits number)
  pub value : (w : Assignment) → value_at w nodes id ≡ w.value_of bits number

-- the terms are the variables of the bytes of a step, in their order
abbrev pub AreVariables : List Shape → Pos → List TermId → Type 0
AreVariables nodes p ids = (index : ℕ) → index < length ids
    → IsVariable nodes 8 (byte_number p.thread p.step index) (slice_index_or ids index (record { number = 0 })).number

-- the variable of one of the first so many bytes that a step reads
abbrev pub IsByteOf : Pos → (count : ℕ) → (width number : ℕ) → Type 0
IsByteOf p count width number = (width ≡ 8) × ((index : ℕ) × (index < count) × (number ≡ byte_number p.thread p.step index))

-- the variable of the outcome of a step
abbrev pub IsOutcomeOf : Pos → (width number : ℕ) → Type 0
IsOutcomeOf p width number = (width ≡ 1) × (number ≡ step_number p.thread p.step)
