-- The low bytes of a word, as terms.
use Rattle.std.specs.Prelude.{◌≡◌, ℕ, List, All, length}
use Rattle.elf_image.specs.Memory.{bytes_of}
use Rattle.bv_terms.specs.declared.node.TermId.{TermId}
use Rattle.bv_terms.specs.Shapes.{Shape}
use Rattle.bv_terms.specs.Values.{Assignment, value_at}
use Rattle.bv_terms.specs.Variables.{Occurs}
use Rattle.step_terms.specs.Bytes.{AreBytes, values}

-- the terms are so many low bytes of a word, the lowest first, and have no variable but those of the word
pub record AreLowBytes (old new : List Shape) (word count : ℕ) (ids : List TermId) : Type 0 where
  pub many : length ids ≡ count
  pub bytes : AreBytes new ids
  pub values : (w : Assignment) → values w new ids ≡ bytes_of count (value_at w old word)
  pub variables : All (λ (id : TermId). (width number : ℕ) → Occurs new width number id.number → Occurs old width number word) ids
