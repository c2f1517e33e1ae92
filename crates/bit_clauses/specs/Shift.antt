-- Shifts.
use Rattle.std.specs.Prelude.{ℕ, ◌-◌, ◌*◌, ◌/◌, ◌%◌, ◌^◌, List, ◌++◌, length, take, drop, replicate, if◌then◌else◌}
use Rattle.bv_terms.specs.BitVectors.{BitVector, is_negative, not_value}
use Rattle.clause_store.specs.declared.lit.Lit.{Lit}
use Rattle.bit_clauses.specs.declared.way.Way.{Way}
use Rattle.bit_clauses.specs.declared.way.Way.TheVariants as way

-- a number of a width, shifted by so many places
abbrev pub shifted_value : Way → (width a by : ℕ) → ℕ
shifted_value way.Down width a by = a / 2 ^ by
shifted_value way.Up width a by = a * 2 ^ by % 2 ^ width

-- literals moved by so many places, with `fill` where none comes in
abbrev pub moved_list : Way → ℕ → List Lit → Lit → List Lit
moved_list way.Down by lits fill = drop by lits ++ replicate by fill
moved_list way.Up by lits fill = replicate by fill ++ take (length lits - by) lits

-- a number in two's complement, shifted down by so many places
abbrev pub signed_value : BitVector → ℕ → ℕ
signed_value a by = if is_negative a then 2 ^ a.width - 1 - not_value a / 2 ^ by else a.value / 2 ^ by
