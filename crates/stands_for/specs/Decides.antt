-- The order of accesses decides all.
use Rattle.std.specs.Prelude.{ℕ, ◌<◌, ◌≤◌, Bool, IsSome, List}
use Rattle.rv_model.specs.Walk.{Walk}
use Rattle.clause_store.specs.UnitRule.{Partial}
use Rattle.encoder.specs.declared.encoder.Encoder.{Encoder}
use Rattle.path_exec.specs.declared.paths.Paths.{Paths}
use Rattle.formula_parts.specs.Order.{Setting}
use Rattle.formula_parts.specs.Facts.{AreGiven, Fact}
use Rattle.formula_parts.specs.Parts.{AtRest}
use Rattle.stands_for.specs.Whole.{IsWhole}

-- Where the unit rule has nothing to do and an order of the accesses is decided, it has given each variable of an access a value.
abbrev pub OrderGivesAccesses : Type 0
OrderGivesAccesses =
    (setting : Setting) (walk : Walk) (paths : Paths) (base last : Encoder) (facts : List Fact) → IsWhole setting walk paths base last facts
    → (v : Partial) (lt : ℕ → ℕ → Bool) → AtRest setting last v lt → AreGiven setting last v

-- And then each variable that was added for the parts.
abbrev pub OrderDecidesAll : Type 0
OrderDecidesAll =
    (setting : Setting) (walk : Walk) (paths : Paths) (base last : Encoder) (facts : List Fact) → IsWhole setting walk paths base last facts
    → (v : Partial) (lt : ℕ → ℕ → Bool) → AtRest setting last v lt → (x : ℕ) → base.clauses.vars ≤ x → x < last.clauses.vars → IsSome (v x)
