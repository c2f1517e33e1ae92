-- Constraints as terms of one bit, and their variables.
use Rattle.std.specs.Prelude.{◌≡◌, ◌↔◌, ◌⊎◌, ℕ, List}
use Rattle.bv_terms.specs.declared.node.TermId.{TermId}
use Rattle.bv_terms.specs.Shapes.{Shape}
use Rattle.bv_terms.specs.Values.{Assignment, value_at}
use Rattle.rv_model.specs.declared.state.Local.{Local}
use Rattle.step_terms.specs.Made.{IsTerm, OccursAmong}
use Rattle.thread_terms.specs.Standing.{OccursInRegisters, StandFor}
use Rattle.thread_terms.specs.Steps.{HasVariables}

-- A term of one bit that is 1 exactly where a property holds of what is given. It has no variable but those of its parts.
pub record HoldsWhere (old new : List Shape) (parts : List ℕ) (id : ℕ) (P : Assignment → Type 0) : Type 0 where
  pub bit : IsTerm new 1 id
  pub holds : (w : Assignment) → (value_at w new id ≡ 1) ↔ P w
  pub occurs : HasVariables (λ width number. OccursAmong old width number parts) new id

-- A term of one bit that is 1 exactly where a property holds of what is given and of the thread before a step. It has no
-- variable but those of the registers and of a further kind.
pub record Tests (further : ℕ → ℕ → Type 0) (old new : List Shape) (registers : List TermId) (id : ℕ)
    (P : Assignment → Local → Type 0) : Type 0 where
  pub bit : IsTerm new 1 id
  pub holds : (w : Assignment) (local : Local) → StandFor w old registers local → (value_at w new id ≡ 1) ↔ P w local
  pub variables : HasVariables (λ width number. OccursInRegisters old registers width number ⊎ further width number) new id
