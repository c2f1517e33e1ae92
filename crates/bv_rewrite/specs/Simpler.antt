-- What a term that is made simpler keeps.
use Rattle.std.specs.Prelude.{◌≡◌, ◌<◌, ℕ, List, length}
use Rattle.bv_terms.specs.Shapes.{Shape}
use Rattle.bv_terms.specs.Values.{Assignment, value_at, width_at}
use Rattle.bv_terms.specs.Variables.{Occurs}

-- the term `id` of the terms `new` can stand for the term `root` of the terms `old`
pub record StandsFor (old new : List Shape) (root id : ℕ) : Type 0 where
  pub inside : id < length new
  pub width : width_at new id ≡ width_at old root
  pub value : (w : Assignment) → value_at w new id ≡ value_at w old root
  pub occurs : (width number : ℕ) → Occurs new width number id → Occurs old width number root
