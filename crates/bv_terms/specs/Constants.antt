-- Terms that are constants.
use Rattle.std.specs.Prelude.{ℕ, Bool, Option, None, Some, List, slice_get, option_and_then, is_some}
use Rattle.bv_terms.specs.Shapes.{Shape, Const}

-- the value of a node that is a constant
abbrev pub constant_of : Shape → Option ℕ
constant_of (Const width value) = Some value
constant_of other = None

-- the value of a term that is a constant
abbrev pub constant_at : List Shape → ℕ → Option ℕ
constant_at nodes id = option_and_then constant_of (slice_get nodes id)

-- the term is a constant
abbrev pub is_constant_at : List Shape → ℕ → Bool
is_constant_at nodes id = is_some (constant_at nodes id)
