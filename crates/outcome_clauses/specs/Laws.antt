-- Store-conditionals one after the other, and after readers.
use Rattle.std.specs.Prelude.{ℕ, ◌<◌, ◌≤◌, Bool, IsSome, List, [], ◌∷◌, ◌++◌, All, length}
use Rattle.clause_store.specs.Literals.{Assignment, Satisfies}
use Rattle.clause_store.specs.UnitRule.{Partial, AllAtRest}
use Rattle.clause_store.specs.Formula.{Formula, Grows, Extension}
use Rattle.order_clauses.specs.declared.table.Table.{Table}
use Rattle.source_clauses.specs.declared.reader.Reader.{Reader}
use Rattle.source_clauses.specs.Sees.{bit_at, SeesNewest}
use Rattle.source_clauses.specs.Contract.{SpellsStrict, IsPlaced as ReaderIsPlaced, AreWritten}
use Rattle.source_clauses.specs.Laws.{AddsReaders}
use Rattle.outcome_clauses.specs.declared.store_conditional.StoreConditional.{StoreConditional}
use Rattle.outcome_clauses.specs.Succeeds.{HasOutcome}
use Rattle.outcome_clauses.specs.Contract.{KnowsConditional, HasValue, IsPlaced, AddsOutcome}

-- all writes that may end the reservation of a store-conditional are placed
abbrev pub ArePlaced : Partial → StoreConditional → Type 0
ArePlaced v sc = All (IsPlaced v) sc.enders

-- where they are, and the addresses are known to be the same or not, its outcome has a value
abbrev pub IsSettled : Partial → StoreConditional → Type 0
IsSettled v sc = ArePlaced v sc → HasValue v sc.same → IsSome (v sc.outcome.var)

-- the clauses of some store-conditionals
pub record AddsOutcomes (old new : Formula) (conditionals : List StoreConditional) : Type 0 where
  pub grows : Grows old new
  pub sound : (w : Assignment) → Satisfies w new.clauses → All (HasOutcome w) conditionals
  pub extends : (w : Assignment) → Satisfies w old.clauses → All (HasOutcome w) conditionals → Extension old.vars w new.clauses
  pub decides : (v : Partial) → AllAtRest v new.clauses → All (ArePlaced v) conditionals → (x : ℕ) → old.vars ≤ x → x < new.vars → IsSome (v x)
  pub settles : (v : Partial) → AllAtRest v new.clauses → All (IsSettled v) conditionals

abbrev pub NoOutcome : Type 0
NoOutcome = (f : Formula) → AddsOutcomes f f []

-- One store-conditional after some others, of literals that were known before all of them.
abbrev pub OutcomesCompose : Type 0
OutcomesCompose =
    (old between new : Formula) (conditionals : List StoreConditional) (sc : StoreConditional) → KnowsConditional old.vars sc
    → AddsOutcomes old between conditionals → AddsOutcome between new sc → AddsOutcomes old new (conditionals ++ sc ∷ [])

-- a reader and its candidates are placed by some order
abbrev pub HasPlace : Partial → Table → Reader → Type 0
HasPlace v table reader = (lt : ℕ → ℕ → Bool) × ReaderIsPlaced v table reader lt

-- where an order places it and the bits that it may see have values, what it reads has values
abbrev pub ReadsValues : Partial → Table → (ℕ → ℕ → Bool) → Reader → Type 0
ReadsValues v table lt reader =
    ReaderIsPlaced v table reader lt → AreWritten v reader lt → (b : ℕ) → b < length reader.read → IsSome (v (bit_at reader.read b).var)

-- the clauses of some readers and of some store-conditionals
pub record AddsGiven (old new : Formula) (table : Table) (readers : List Reader) (conditionals : List StoreConditional) : Type 0 where
  pub grows : Grows old new
  pub sees : (w : Assignment) → Satisfies w new.clauses → SpellsStrict table w → All (SeesNewest w table) readers
  pub succeeds : (w : Assignment) → Satisfies w new.clauses → All (HasOutcome w) conditionals
  pub extends : (w : Assignment) → Satisfies w old.clauses → All (SeesNewest w table) readers → All (HasOutcome w) conditionals
      → Extension old.vars w new.clauses
  pub decides : (v : Partial) → AllAtRest v new.clauses → All (HasPlace v table) readers → All (ArePlaced v) conditionals
      → (x : ℕ) → old.vars ≤ x → x < new.vars → IsSome (v x)
  pub reads : (v : Partial) (lt : ℕ → ℕ → Bool) → AllAtRest v new.clauses → All (ReadsValues v table lt) readers
  pub settles : (v : Partial) → AllAtRest v new.clauses → All (IsSettled v) conditionals

-- Store-conditionals after readers, of literals that were known before all of them.
abbrev pub OutcomesFollowReaders : Type 0
OutcomesFollowReaders =
    (old between new : Formula) (table : Table) (readers : List Reader) (conditionals : List StoreConditional)
    → All (KnowsConditional old.vars) conditionals → AddsReaders old between table readers → AddsOutcomes between new conditionals
    → AddsGiven old new table readers conditionals
