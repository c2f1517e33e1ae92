-- Which write a reader sees: the newest of those that stand before it and hit what it reads, else the initial bits.
use Rattle.std.specs.Prelude.{◌≡◌, ◌≢◌, ◌⊎◌, ℕ, ◌<◌, ◌&&◌, Bool, true, false, nat_eq, nat_lt, if◌then◌else◌, List, [], length, get_or}
use Rattle.clause_store.specs.declared.lit.Lit.{Lit}
use Rattle.clause_store.specs.Literals.{Assignment, literal_value}
use Rattle.order_clauses.specs.declared.order_lit.OrderLit.{OrderLit}
use Rattle.order_clauses.specs.declared.order_lit.OrderLit.TheVariants as order_lit
use Rattle.order_clauses.specs.declared.table.Table.{Table}
use Rattle.order_clauses.specs.Literals.{spelled}
use Rattle.order_clauses.specs.Grid.{lit_in}
use Rattle.source_clauses.specs.declared.reader.Candidate.{Candidate}
use Rattle.source_clauses.specs.declared.reader.Reader.{Reader}

abbrev pub candidate_at : List Candidate → ℕ → Candidate
candidate_at candidates i = get_or candidates i (record { at = 0; hit = order_lit.Always; bits = [] })

abbrev pub bit_at : List Lit → ℕ → Lit
bit_at bits b = get_or bits b (record { var = 0; positive = false })

-- a candidate stands before the reader
abbrev pub before_reader : Table → Reader → ℕ → OrderLit
before_reader table reader i = lit_in table (candidate_at reader.candidates i).at reader.at

-- one candidate stands before another; of two bytes of one access the earlier in the list does
abbrev pub between : Table → List Candidate → ℕ → ℕ → OrderLit
between table candidates i j =
    if nat_eq (candidate_at candidates i).at (candidate_at candidates j).at
    then (if nat_lt i j then order_lit.Always else order_lit.Never)
    else lit_in table (candidate_at candidates i).at (candidate_at candidates j).at

-- a candidate stands before the reader, takes place, and writes what it reads
abbrev pub is_older : Assignment → Table → Reader → ℕ → Bool
is_older w table reader i = spelled w (before_reader table reader i) && spelled w (candidate_at reader.candidates i).hit

-- and each other such candidate stands before this one
pub record IsNewest (w : Assignment) (table : Table) (reader : Reader) (i : ℕ) : Type 0 where
  pub listed : i < length reader.candidates
  pub older : is_older w table reader i ≡ true
  pub newest : (j : ℕ) → j < length reader.candidates → j ≢ i → is_older w table reader j ≡ true → spelled w (between table reader.candidates j i) ≡ true

-- the reader reads these bits
abbrev pub ReadsBits : Assignment → Reader → List Lit → Type 0
ReadsBits w reader bits = (b : ℕ) → b < length reader.read → literal_value w (bit_at reader.read b) ≡ literal_value w (bit_at bits b)

pub record SeesWrite (w : Assignment) (table : Table) (reader : Reader) : Type 0 where
  pub source : ℕ
  pub is_newest : IsNewest w table reader source
  pub reads : ReadsBits w reader (candidate_at reader.candidates source).bits

pub record SeesInitial (w : Assignment) (table : Table) (reader : Reader) : Type 0 where
  pub none_older : (i : ℕ) → i < length reader.candidates → is_older w table reader i ≡ false
  pub reads : ReadsBits w reader reader.initial

abbrev pub SeesNewest : Assignment → Table → Reader → Type 0
SeesNewest w table reader = SeesWrite w table reader ⊎ SeesInitial w table reader
