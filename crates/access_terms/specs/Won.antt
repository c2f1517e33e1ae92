-- The outcome of a store-conditional, as a term.
use Rattle.std.specs.Prelude.{◌≡◌, ℕ, List, Option, Some, is_some, slice_get, if◌then◌else◌}
use Rattle.odr_log.specs.declared.log.Pos.{Pos}
use Rattle.bv_terms.specs.Shapes.{Shape}
use Rattle.bv_terms.specs.Values.{Assignment, value_at}
use Rattle.step_terms.specs.Made.{IsTerm}
use Rattle.thread_terms.specs.Steps.{outcome_shape}
use Rattle.thread_terms.specs.Variables.{step_number}

-- the term of one bit is the step's own variable where it has a link, and else the constant 0
pub record IsOutcome (nodes : List Shape) (p : Pos) (link : Option ℕ) (id : ℕ) : Type 0 where
  pub node : slice_get nodes id ≡ Some (outcome_shape p link)
  pub term : IsTerm nodes 1 id
  pub value : (w : Assignment) → value_at w nodes id ≡ (if is_some link then w.value_of 1 (step_number p.thread p.step) else 0)
