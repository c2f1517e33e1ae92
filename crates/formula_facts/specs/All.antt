-- All facts that a formula says beside the order of accesses.
use Rattle.std.specs.Prelude.{◌≡◌, ◌<◌, List, ◌++◌, All, length}
use Rattle.elf_image.specs.Layout.{Layout}
use Rattle.bv_terms.specs.declared.node.TermId.{TermId}
use Rattle.encoder.specs.declared.encoder.Encoder.{Encoder}
use Rattle.step_terms.specs.Made.{IsTerm}
use Rattle.thread_terms.specs.declared.access.Access.{Access}
use Rattle.formula_parts.specs.Order.{Setting}
use Rattle.formula_parts.specs.Facts.{Fact}
use Rattle.formula_parts.specs.Parts.{Adds, StandsOn}
use Rattle.formula_facts.specs.declared.known.Known.{Known}
use Rattle.formula_facts.specs.Constraints.{facts_of}
use Rattle.formula_facts.specs.Known.{IsKnownIn, all_outcomes, all_reads}

-- those of all bytes, of all outcomes and of constraints
abbrev pub all_facts : List Access → List TermId → List Fact
all_facts accesses constraints = all_reads accesses (length accesses) ++ (all_outcomes accesses (length accesses) ++ facts_of constraints)

-- There is a setting of what is known, on whose terms and order the encoder stands; the constraints are terms of one bit there.
pub record CanAddAll (image : Layout) (known : Known) (encoder : Encoder) (constraints : List TermId) : Type 0 where
  pub setting : Setting
  pub image_is : setting.image ≡ image
  pub is : IsKnownIn setting known
  pub stands : StandsOn setting encoder
  pub bits : All (λ (id : TermId). IsTerm setting.nodes 1 id.number) constraints

-- What was added says all facts in each such setting.
abbrev pub AddsAll : Layout → Known → (old new : Encoder) → List TermId → Type 0
AddsAll image known old new constraints =
    (setting : Setting) → setting.image ≡ image → IsKnownIn setting known → StandsOn setting old
    → All (λ (id : TermId). id.number < length setting.nodes) constraints → Adds setting old new (all_facts known.accesses constraints)
