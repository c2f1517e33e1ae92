-- Readers one after the other.
use Rattle.std.specs.Prelude.{◌≤◌, ℕ, ◌<◌, Bool, IsSome, List, [], ◌∷◌, ◌++◌, All, length}
use Rattle.clause_store.specs.Literals.{Assignment, Satisfies}
use Rattle.clause_store.specs.UnitRule.{Partial, AllAtRest}
use Rattle.clause_store.specs.Formula.{Formula, Grows, Extension}
use Rattle.order_clauses.specs.declared.table.Table.{Table}
use Rattle.source_clauses.specs.declared.reader.Reader.{Reader}
use Rattle.source_clauses.specs.Sees.{bit_at, SeesNewest}
use Rattle.source_clauses.specs.Contract.{KnowsReader, SpellsStrict, IsPlaced, AreWritten, AddsReader}

-- the clauses of some readers
pub record AddsReaders (old new : Formula) (table : Table) (readers : List Reader) : Type 0 where
  pub grows : Grows old new
  pub sound : (w : Assignment) → Satisfies w new.clauses → SpellsStrict table w → All (SeesNewest w table) readers
  pub extends : (w : Assignment) → Satisfies w old.clauses → All (SeesNewest w table) readers → Extension old.vars w new.clauses
  pub decides : (v : Partial) → AllAtRest v new.clauses → All (λ reader. (lt : ℕ → ℕ → Bool) × IsPlaced v table reader lt) readers
      → (x : ℕ) → old.vars ≤ x → x < new.vars → IsSome (v x)
  pub reads : (v : Partial) (lt : ℕ → ℕ → Bool) → AllAtRest v new.clauses
      → All (λ reader. IsPlaced v table reader lt → AreWritten v reader lt → (b : ℕ) → b < length reader.read → IsSome (v (bit_at reader.read b).var)) readers

abbrev pub NoReader : Type 0
NoReader = (f : Formula) (table : Table) → AddsReaders f f table []

-- One reader after some others, of literals that were known before all of them.
abbrev pub ReadersCompose : Type 0
ReadersCompose =
    (old between new : Formula) (table : Table) (readers : List Reader) (reader : Reader) → KnowsReader old.vars table reader
    → AddsReaders old between table readers → AddsReader between new table reader → AddsReaders old new table (readers ++ reader ∷ [])
