-- What a derivation is found to be.
use Rattle.std.specs.Prelude.{◌≡◌, ◌-◌, ◌+◌, ℕ, Option, Some, None, List, [], ◌++◌, length, take, slice_get}
use Rattle.clause_store.specs.declared.lit.Lit.{Lit}
use Rattle.clause_store.specs.Literals.{Assignment, Satisfies}
use Rattle.clause_store.specs.UnitRule.{Follows, Derived}
use Rattle.clause_check.specs.declared.verdict.Verdict.{Verdict}
use Rattle.clause_check.specs.declared.verdict.Verdict.TheVariants.{Refuted, Holds, Fails}

-- the lines before this number, from 0, follow, and the one of this number doesn't
pub record IsFirstGap (clauses lines : List (List Lit)) (at : ℕ) : Type 0 where
  pub before : Derived clauses (take at lines)
  pub line : List Lit
  pub there : slice_get lines at ≡ Some line
  pub gap : Follows (clauses ++ take at lines) line → ⊥

-- the first line that doesn't follow; none where all do
abbrev pub IsGap : List (List Lit) → List (List Lit) → Option ℕ → Type 0
IsGap clauses lines None = Derived clauses lines
IsGap clauses lines (Some at) = IsFirstGap clauses lines at

-- there is a last line, and it is empty
abbrev pub EndsEmpty : List (List Lit) → Type 0
EndsEmpty lines = slice_get lines (length lines - 1) ≡ Some []

-- Lines are counted from 1.
abbrev pub IsVerdict : List (List Lit) → List (List Lit) → Verdict → Type 0
IsVerdict clauses lines Refuted = Derived clauses lines × EndsEmpty lines
IsVerdict clauses lines (Holds count) = Derived clauses lines × (EndsEmpty lines → ⊥) × (count ≡ length lines)
IsVerdict clauses lines (Fails number) = (at : ℕ) × (number ≡ at + 1) × IsFirstGap clauses lines at

-- no assignment makes all clauses true
abbrev pub CantBeSatisfied : List (List Lit) → Type 0
CantBeSatisfied clauses = (w : Assignment) → Satisfies w clauses → ⊥

-- Clauses and lines have one verdict: each comes exactly where it is one.
abbrev pub OneVerdict : Type 0
OneVerdict = (clauses lines : List (List Lit)) (a b : Verdict) → IsVerdict clauses lines a → IsVerdict clauses lines b → a ≡ b

-- No assignment satisfies clauses that are refuted.
abbrev pub RefutedCantBeSatisfied : Type 0
RefutedCantBeSatisfied = (clauses lines : List (List Lit)) → IsVerdict clauses lines Refuted → CantBeSatisfied clauses
