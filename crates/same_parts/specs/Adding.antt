-- What is added for a byte with one source in every run.
use Rattle.std.specs.Prelude.{◌≡◌, ℕ, List, [], ◌∷◌, Some, None}
use Rattle.elf_image.specs.Layout.{Layout}
use Rattle.bv_terms.specs.Shapes.{Shape}
use Rattle.encoder.specs.declared.encoder.Encoder.{Encoder}
use Rattle.thread_terms.specs.declared.access.Access.{Access}
use Rattle.race_set.specs.declared.shape.AccessShape.{AccessShape}
use Rattle.term_sources.specs.Sees.{access_at}
use Rattle.formula_parts.specs.Order.{Setting}
use Rattle.formula_parts.specs.Facts.{Reads}
use Rattle.formula_parts.specs.Parts.{Adds, StandsOn}
use Rattle.same_parts.specs.Same.{HasOneSource, IsFixedByte, IsWrittenThere, read_id}

-- one term is the source of a byte, whichever literals terms have
abbrev pub HasSource : Setting → List Shape → (x i source : ℕ) → Type 0
HasSource setting pool x i source = (encoder : Encoder) → encoder.pool ≡ pool → HasOneSource setting encoder x i source

-- a byte is that of its source
abbrev pub SaysSame : (old new : Encoder) → (read source : ℕ) → Type 0
SaysSame old new read source =
    (setting : Setting) (x i : ℕ) → StandsOn setting old → read_id setting x i ≡ read → HasSource setting old.pool x i source
    → Adds setting old new (Reads x i ∷ [])

-- a byte whose one source is a write is the byte that this writes there
abbrev pub SaysWritten : (old new : Encoder) → List Access → (x i y m : ℕ) → Type 0
SaysWritten old new accesses x i y m =
    (setting : Setting) (shapes : List AccessShape) → setting.accesses ≡ accesses → StandsOn setting old
    → IsFixedByte setting shapes x i (Some (access_at accesses y).pos) → IsWrittenThere setting x i y m → Adds setting old new (Reads x i ∷ [])

-- a byte that no write is seen at is the initial one
abbrev pub SaysInitial : (old new : Encoder) → Layout → List Access → (x i : ℕ) → Type 0
SaysInitial old new image accesses x i =
    (setting : Setting) (shapes : List AccessShape) → setting.image ≡ image → setting.accesses ≡ accesses → StandsOn setting old
    → IsFixedByte setting shapes x i None → Adds setting old new (Reads x i ∷ [])
