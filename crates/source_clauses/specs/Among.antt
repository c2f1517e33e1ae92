-- What a reader sees of all writes, whichever of them are its candidates.
use Rattle.std.specs.Prelude.{◌≡◌, ◌≢◌, ◌⊎◌, ◌↔◌, ℕ, ◌<◌, ◌&&◌, Bool, true, List, length}
use Rattle.clause_store.specs.declared.lit.Lit.{Lit}
use Rattle.clause_store.specs.Literals.{Assignment}
use Rattle.order_clauses.specs.declared.table.Table.{Table}
use Rattle.order_clauses.specs.Literals.{spelled}
use Rattle.order_clauses.specs.Orders.{IsStrict}
use Rattle.source_clauses.specs.declared.reader.Reader.{Reader}
use Rattle.source_clauses.specs.Sees.{candidate_at, between, is_older, ReadsBits, SeesNewest}

-- All accesses, by numbers: how many bytes each writes, which of these take place where the reader reads, and their bits.
pub record Accesses : Type 0 where
  pub count : ℕ
  pub bytes : ℕ → ℕ
  pub hits : ℕ → ℕ → Bool
  pub bits : ℕ → ℕ → List Lit

-- byte m of access y is written where access x reads, and before it
pub record IsSeenBefore (accesses : Accesses) (lt : ℕ → ℕ → Bool) (x y m : ℕ) : Type 0 where
  pub there : y < accesses.count
  pub within : m < accesses.bytes y
  pub before : lt y x ≡ true
  pub hits : accesses.hits y m ≡ true

-- the reader reads the byte whose write is the newest before it
pub record SeesByte (w : Assignment) (accesses : Accesses) (lt : ℕ → ℕ → Bool) (reader : Reader) (x : ℕ) : Type 0 where
  pub access : ℕ
  pub byte : ℕ
  pub seen : IsSeenBefore accesses lt x access byte
  pub newest : (z m : ℕ) → z ≢ access → IsSeenBefore accesses lt x z m → lt z access ≡ true
  pub reads : ReadsBits w reader (accesses.bits access byte)

-- it reads the initial bits, as no write before it is one of what it reads
pub record SeesNone (w : Assignment) (accesses : Accesses) (lt : ℕ → ℕ → Bool) (reader : Reader) (x : ℕ) : Type 0 where
  pub none : (z m : ℕ) → IsSeenBefore accesses lt x z m → ⊥
  pub reads : ReadsBits w reader reader.initial

abbrev pub SeesAmongAll : Assignment → Accesses → (ℕ → ℕ → Bool) → Reader → ℕ → Type 0
SeesAmongAll w accesses lt reader x = SeesByte w accesses lt reader x ⊎ SeesNone w accesses lt reader x

-- The candidates of a reader are bytes of accesses, and no other byte can be seen by it: what isn't among them never
-- hits before the reader, or is hidden by a candidate that is older than the reader.
pub record AreCandidates (w : Assignment) (table : Table) (reader : Reader) (accesses : Accesses) (lt : ℕ → ℕ → Bool) (x : ℕ) : Type 0 where
  pub access : ℕ → ℕ
  pub byte : ℕ → ℕ
  pub there : (i : ℕ) → i < length reader.candidates → access i < accesses.count
  pub within : (i : ℕ) → i < length reader.candidates → byte i < accesses.bytes (access i)
  pub bits : (i : ℕ) → i < length reader.candidates → (candidate_at reader.candidates i).bits ≡ accesses.bits (access i) (byte i)
  pub distinct : (i j : ℕ) → i < length reader.candidates → j < length reader.candidates → access i ≡ access j → byte i ≡ byte j → i ≡ j
  pub single : (y m k : ℕ) → accesses.hits y m ≡ true → accesses.hits y k ≡ true → m ≡ k
  pub spells : (i j : ℕ) → i < length reader.candidates → j < length reader.candidates → access i ≢ access j
      → spelled w (between table reader.candidates i j) ≡ lt (access i) (access j)
  pub older : (i : ℕ) → i < length reader.candidates → is_older w table reader i ≡ (lt (access i) x && accesses.hits (access i) (byte i))
  pub covers : (z m : ℕ) → IsSeenBefore accesses lt x z m
      → (i : ℕ) × (i < length reader.candidates)
      × (((access i ≡ z) × (byte i ≡ m)) ⊎ ((lt z (access i) ≡ true) × (is_older w table reader i ≡ true)))

-- The newest among the candidates is the newest among all.
abbrev pub CandidatesAreEnough : Type 0
CandidatesAreEnough =
    (w : Assignment) (table : Table) (reader : Reader) (accesses : Accesses) (lt : ℕ → ℕ → Bool) (x : ℕ) → IsStrict lt
    → AreCandidates w table reader accesses lt x → SeesNewest w table reader ↔ SeesAmongAll w accesses lt reader x
