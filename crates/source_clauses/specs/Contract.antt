-- What the clauses of a reader promise.
use Rattle.std.specs.Prelude.{◌≡◌, ◌≢◌, ◌⊎◌, ℕ, ◌<◌, ◌≤◌, Bool, true, IsSome, List, length}
use Rattle.clause_store.specs.Literals.{Assignment, Satisfies}
use Rattle.clause_store.specs.UnitRule.{Partial, AllAtRest}
use Rattle.clause_store.specs.Formula.{Formula, IsKnown, Grows, Extension}
use Rattle.order_clauses.specs.declared.table.Table.{Table}
use Rattle.order_clauses.specs.Literals.{all_given, known_before}
use Rattle.order_clauses.specs.Orders.{IsStrict}
use Rattle.order_clauses.specs.Grid.{lit_in, IsKnownOrder, IsSquare, KnowsTable}
use Rattle.source_clauses.specs.declared.reader.Candidate.{Candidate}
use Rattle.source_clauses.specs.declared.reader.Reader.{Reader}
use Rattle.source_clauses.specs.Conditions.{IsDecided}
use Rattle.source_clauses.specs.Sees.{candidate_at, bit_at, SeesNewest}

-- a candidate of a place in the table, with as many bits as are read, all known
pub record KnowsCandidate (vars : ℕ) (table : Table) (width : ℕ) (candidate : Candidate) : Type 0 where
  pub at : candidate.at < table.count
  pub hit : IsKnownOrder vars candidate.hit
  pub bits : IsKnown vars candidate.bits
  pub width_is : length candidate.bits ≡ width

-- each candidate's place is in the table
pub record KnowsPlaces (table : Table) (candidates : List Candidate) : Type 0 where
  pub square : IsSquare table
  pub at : (i : ℕ) → i < length candidates → (candidate_at candidates i).at < table.count

pub record KnowsReader (vars : ℕ) (table : Table) (reader : Reader) : Type 0 where
  pub square : IsSquare table
  pub known : KnowsTable vars table
  pub at : reader.at < table.count
  pub read : IsKnown vars reader.read
  pub initial : IsKnown vars reader.initial
  pub width_is : length reader.initial ≡ length reader.read
  pub candidates : (i : ℕ) → i < length reader.candidates → KnowsCandidate vars table (length reader.read) (candidate_at reader.candidates i)

-- what the literals of the table say is a strict order
abbrev pub SpellsStrict : Table → Assignment → Type 0
SpellsStrict table w = IsStrict (known_before table.count (lit_in table) (all_given w))

-- The values of some variables put the reader and its candidates in an order, and say of each candidate that stands
-- before the reader whether it hits.
pub record IsPlaced (v : Partial) (table : Table) (reader : Reader) (lt : ℕ → ℕ → Bool) : Type 0 where
  pub strict : IsStrict lt
  pub total : (i j : ℕ) → i < length reader.candidates → j < length reader.candidates
      → (candidate_at reader.candidates i).at ≢ (candidate_at reader.candidates j).at
      → (lt (candidate_at reader.candidates i).at (candidate_at reader.candidates j).at ≡ true)
      ⊎ (lt (candidate_at reader.candidates j).at (candidate_at reader.candidates i).at ≡ true)
  pub between : (i j : ℕ) → i < length reader.candidates → j < length reader.candidates
      → (candidate_at reader.candidates i).at ≢ (candidate_at reader.candidates j).at
      → IsDecided v (lit_in table (candidate_at reader.candidates i).at (candidate_at reader.candidates j).at)
      (lt (candidate_at reader.candidates i).at (candidate_at reader.candidates j).at)
  pub before : (i : ℕ) → i < length reader.candidates
      → IsDecided v (lit_in table (candidate_at reader.candidates i).at reader.at) (lt (candidate_at reader.candidates i).at reader.at)
  pub hit : (i : ℕ) → i < length reader.candidates → lt (candidate_at reader.candidates i).at reader.at ≡ true
      → (b : Bool) × IsDecided v (candidate_at reader.candidates i).hit b

-- and the bits that each such candidate writes have values, and the initial bits
pub record AreWritten (v : Partial) (reader : Reader) (lt : ℕ → ℕ → Bool) : Type 0 where
  pub initial : (b : ℕ) → b < length reader.read → IsSome (v (bit_at reader.initial b).var)
  pub bits : (i b : ℕ) → i < length reader.candidates → b < length reader.read → lt (candidate_at reader.candidates i).at reader.at ≡ true
      → IsSome (v (bit_at (candidate_at reader.candidates i).bits b).var)

-- The clauses of a reader.
pub record AddsReader (old new : Formula) (table : Table) (reader : Reader) : Type 0 where
  pub grows : Grows old new
  -- each assignment that satisfies them makes the reader see the newest write
  pub sound : (w : Assignment) → Satisfies w new.clauses → SpellsStrict table w → SeesNewest w table reader
  -- where it does, some values of the new variables satisfy them
  pub extends : (w : Assignment) → Satisfies w old.clauses → SeesNewest w table reader → Extension old.vars w new.clauses
  -- an order gives each new variable a value by the unit rule
  pub decides : (v : Partial) (lt : ℕ → ℕ → Bool) → AllAtRest v new.clauses → IsPlaced v table reader lt
      → (x : ℕ) → old.vars ≤ x → x < new.vars → IsSome (v x)
  -- and each bit that is read
  pub reads : (v : Partial) (lt : ℕ → ℕ → Bool) → AllAtRest v new.clauses → IsPlaced v table reader lt → AreWritten v reader lt
      → (b : ℕ) → b < length reader.read → IsSome (v (bit_at reader.read b).var)
