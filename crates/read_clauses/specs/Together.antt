-- Bytes that one reader reads together: they have the same candidates, which hit all of them or none.
use Rattle.std.specs.Prelude.{◌≡◌, ◌≢◌, ◌↔◌, ℕ, ◌+◌, ◌*◌, ◌<◌, true, List, length}
use Rattle.clause_store.specs.declared.lit.Lit.{Lit}
use Rattle.clause_store.specs.Literals.{Assignment}
use Rattle.order_clauses.specs.declared.table.Table.{Table}
use Rattle.order_clauses.specs.Literals.{spelled}
use Rattle.source_clauses.specs.declared.reader.Reader.{Reader}
use Rattle.source_clauses.specs.Sees.{SeesNewest, between, bit_at, candidate_at}

-- the eight bits of a byte among others
abbrev pub IsByteOf : List Lit → ℕ → List Lit → Type 0
IsByteOf bits j byte = (b : ℕ) → b < 8 → bit_at byte b ≡ bit_at bits (8 * j + b)

-- the reader of one byte of those that a reader reads
pub record IsPart (reader part : Reader) (j : ℕ) : Type 0 where
  pub at : part.at ≡ reader.at
  pub many : length part.candidates ≡ length reader.candidates
  pub places : (k : ℕ) → (candidate_at part.candidates k).at ≡ (candidate_at reader.candidates k).at
  pub hits : (k : ℕ) → (candidate_at part.candidates k).hit ≡ (candidate_at reader.candidates k).hit
  pub bits : (k : ℕ) → k < length reader.candidates → IsByteOf (candidate_at reader.candidates k).bits j (candidate_at part.candidates k).bits
  pub width : length part.read ≡ 8
  pub read : IsByteOf reader.read j part.read
  pub initial : IsByteOf reader.initial j part.initial

-- of two candidates not each stands before the other
abbrev pub IsOneWay : Assignment → Table → Reader → Type 0
IsOneWay w table reader = (j k : ℕ) → j < length reader.candidates → k < length reader.candidates → j ≢ k
    → spelled w (between table reader.candidates j k) ≡ true → spelled w (between table reader.candidates k j) ≡ true → ⊥

-- a reader of some bytes sees the newest exactly where the reader of each of them does
abbrev pub BytesReadTogether : Type 0
BytesReadTogether = (w : Assignment) (table : Table) (reader : Reader) (count : ℕ) (parts : ℕ → Reader) → 0 < count → length reader.read ≡ 8 * count
    → ((j : ℕ) → j < count → IsPart reader (parts j) j) → IsOneWay w table reader
    → SeesNewest w table reader ↔ ((j : ℕ) → j < count → SeesNewest w table (parts j))
