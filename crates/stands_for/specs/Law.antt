-- A formula that is whole stands for its image and log.
use Rattle.std.specs.Prelude.{◌≡◌, ℕ, zero, suc, ◌+◌, ◌-◌, ◌&&◌, List, [], ◌∷◌, ◌++◌, Option, Some, None, length, nat_le, nat_lt, if◌then◌else◌}
use Rattle.elf_image.specs.Layout.{IsSound}
use Rattle.odr_log.specs.declared.log.Pos.{Pos}
use Rattle.rv_model.specs.Walk.{Walk}
use Rattle.order_clauses.specs.declared.ordered.OrderedTable.{OrderedTable}
use Rattle.order_clauses.specs.Tables.{pair_at}
use Rattle.order_vars.specs.Chosen.{position}
use Rattle.encoder.specs.declared.encoder.Encoder.{Encoder}
use Rattle.walk_facts.specs.Givens.{ReadsBytes}
use Rattle.path_exec.specs.declared.paths.Paths.{Paths}
use Rattle.term_sources.specs.Explains.{AreTerms, HasFewSteps}
use Rattle.formula_parts.specs.Order.{Setting}
use Rattle.formula_parts.specs.Facts.{Fact}
use Rattle.order_places.specs.Placed.{IsPlaced, places_in}
use Rattle.stands_for.specs.Stands.{OrderVariables, StandsFor}
use Rattle.stands_for.specs.Whole.{IsWhole}

-- so many variables one after another
abbrev pub variables_from : ℕ → ℕ → List ℕ
variables_from first zero = []
variables_from first (suc count) = variables_from first count ++ (first + count) ∷ []

-- the steps of a pair of places
abbrev pub steps_of : List Pos → OrderedTable → ℕ → Pos × Pos
steps_of chosen ordered k = (position chosen (pair_at ordered.table.pairs k).first, position chosen (pair_at ordered.table.pairs k).second)

-- the variables of the open pairs of chosen steps
abbrev pub order_of : List Pos → OrderedTable → OrderVariables
order_of chosen ordered = record {
  first = variables_from ordered.first (length ordered.table.pairs);
  pair = λ (x : ℕ). if nat_le ordered.first x && nat_lt (x - ordered.first) (length ordered.table.pairs) then Some (steps_of chosen ordered (x - ordered.first)) else None;
}

-- An encoder whose clauses order the chosen steps, and nothing else.
pub record HasOrder (setting : Setting) (chosen : List Pos) (at : List (Option ℕ)) (ordered : OrderedTable) (access : ℕ → ℕ) (base : Encoder) : Type 0 where
  pub placed : IsPlaced setting.log setting.accesses chosen at ordered (record { vars = 0; clauses = [] }) base.clauses
  pub places : setting.places ≡ places_in ordered at access
  pub no_variables : base.blaster.variables ≡ []

abbrev pub WholeFormulasStand : Type 0
WholeFormulasStand =
    (setting : Setting) (walk : Walk) (paths : Paths) (base last : Encoder) (facts : List Fact) (chosen : List Pos) (at : List (Option ℕ))
    (ordered : OrderedTable) (access : ℕ → ℕ) → IsWhole setting walk paths base last facts → HasOrder setting chosen at ordered access base
    → setting.log.version ≡ 1 → IsSound setting.image → ReadsBytes setting.log → HasFewSteps setting.log → AreTerms setting.nodes setting.accesses
    → StandsFor setting.image setting.log last.clauses.clauses (order_of chosen ordered)
