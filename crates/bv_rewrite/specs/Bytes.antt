-- Terms of 8 bits.
use Rattle.std.specs.Prelude.{◌≡◌, ◌<◌, ℕ, List, length}
use Rattle.bv_terms.specs.Shapes.{Shape}
use Rattle.bv_terms.specs.Values.{width_at}

abbrev pub IsByte : List Shape → ℕ → Type 0
IsByte nodes id = (id < length nodes) × (width_at nodes id ≡ 8)

abbrev pub AreBytes : List Shape → (first second third : ℕ) → Type 0
AreBytes nodes first second third = IsByte nodes first × IsByte nodes second × IsByte nodes third
