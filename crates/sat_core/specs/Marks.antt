-- Marks on variables.
use Rattle.std.specs.Prelude.{◌≡◌, ◌≤◌, ◌<◌, ℕ, Bool, true, Option, Some, None, List, length, slice_get, Contains}
use Rattle.clause_store.specs.declared.lit.Lit.{Lit}
use Rattle.sat_trail.specs.declared.step.Step.{Step}
use Rattle.sat_trail.specs.Paths.{IsDecision}

abbrev pub IsMarked : List Bool → ℕ → Type 0
IsMarked marks x = slice_get marks x ≡ Some true

-- the clause's variables are marked, and those of before
pub record IsMarkedAll (old new : List Bool) (clause : List Lit) : Type 0 where
  pub same_length : length new ≡ length old
  pub kept : (x : ℕ) → IsMarked old x → IsMarked new x
  pub all : (k : Lit) → Contains clause k → IsMarked new k.var

-- no step from one place up to another is marked
abbrev pub NoneMarked : List Step → List Bool → ℕ → ℕ → Type 0
NoneMarked steps marks low high = (p : ℕ) (s : Step) → low ≤ p → p < high → slice_get steps p ≡ Some s → IsMarked marks s.lit.var → ⊥

abbrev pub IsQuiet : List Step → List Bool → ℕ → Option ℕ → Type 0
IsQuiet steps marks place None = Unit {0}
IsQuiet steps marks place (Some d) = (d < place) × IsDecision steps d × NoneMarked steps marks d place
