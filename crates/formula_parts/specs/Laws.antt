-- Laws of parts.
use Rattle.std.specs.Prelude.{ℕ, ◌<◌, List, [], ◌∷◌, ◌++◌, length}
use Rattle.encoder.specs.declared.encoder.Encoder.{Encoder}
use Rattle.encoder.specs.Encodes.{Requires}
use Rattle.formula_parts.specs.Order.{Setting}
use Rattle.formula_parts.specs.Facts.{Fact, Is}
use Rattle.formula_parts.specs.Parts.{Adds, StandsOn}

abbrev pub NoPart : Type 0
NoPart = (setting : Setting) (encoder : Encoder) → StandsOn setting encoder → Adds setting encoder encoder []

-- One part after another.
abbrev pub PartsCompose : Type 0
PartsCompose = (setting : Setting) (old between new : Encoder) (facts more : List Fact) → StandsOn setting old
    → Adds setting old between facts → Adds setting between new more → Adds setting old new (facts ++ more)

-- A term that is required to be 1.
abbrev pub RequiredTermsAreParts : Type 0
RequiredTermsAreParts = (setting : Setting) (old new : Encoder) (term : ℕ) → StandsOn setting old → term < length setting.nodes
    → Requires old new term → Adds setting old new (Is term ∷ [])

-- What an encoder stands on it stands on later.
abbrev pub StandsOnLater : Type 0
StandsOnLater = (setting : Setting) (old new : Encoder) (facts : List Fact) → StandsOn setting old → Adds setting old new facts → StandsOn setting new
