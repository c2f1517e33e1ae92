-- A formula whose parts say all that accesses see in an order.
use Rattle.std.specs.Prelude.{◌≡◌, ℕ, ◌<◌, List, All, Contains, length, Some}
use Rattle.rv_model.specs.CallsFit.{CallsFit}
use Rattle.rv_model.specs.Walk.{IsWalk, Walk}
use Rattle.bv_terms.specs.declared.node.TermId.{TermId}
use Rattle.encoder.specs.declared.encoder.Encoder.{Encoder}
use Rattle.path_exec.specs.declared.paths.Paths.{Paths}
use Rattle.path_exec.specs.Paths.{ArePaths}
use Rattle.term_sources.specs.Sees.{access_at}
use Rattle.formula_parts.specs.Order.{Setting}
use Rattle.formula_parts.specs.Facts.{Fact, Is, Reads, Succeeds}
use Rattle.formula_parts.specs.Parts.{Adds, StandsOn}

-- the fact is of a byte that an access reads, of an access, or of one of these constraints
abbrev pub IsFactOf : Setting → List TermId → Fact → Type 0
IsFactOf setting constraints (Reads x i) = (x < length setting.accesses) × (i < length (access_at setting.accesses x).reads)
IsFactOf setting constraints (Succeeds x) = x < length setting.accesses
IsFactOf setting constraints (Is term) = (id : TermId) × Contains constraints id × (id.number ≡ term)

-- The facts are those of all bytes that accesses read, of all store-conditionals that look back, and of all constraints.
pub record AreAllFacts (setting : Setting) (constraints : List TermId) (facts : List Fact) : Type 0 where
  pub reads : (x i : ℕ) → x < length setting.accesses → i < length (access_at setting.accesses x).reads → Contains facts (Reads x i)
  pub outcomes : (x lr : ℕ) → x < length setting.accesses → (access_at setting.accesses x).link ≡ Some lr → Contains facts (Succeeds x)
  pub constraints_are : (id : TermId) → Contains constraints id → Contains facts (Is id.number)
  pub only : All (IsFactOf setting constraints) facts

-- The accesses of symbolic paths, and what was added for all of them to an encoder that stands on their terms and their order.
pub record IsWhole (setting : Setting) (walk : Walk) (paths : Paths) (base last : Encoder) (facts : List Fact) : Type 0 where
  pub is_walk : IsWalk setting.image setting.log walk
  pub fits : CallsFit setting.log
  pub paths_are : ArePaths setting.image setting.log walk setting.nodes paths
  pub accesses_are : setting.accesses ≡ paths.accesses
  pub stands : StandsOn setting base
  pub adds : Adds setting base last facts
  pub all : AreAllFacts setting paths.constraints facts
