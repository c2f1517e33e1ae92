-- A reader of a byte by literals, and what the access sees by the values of its terms.
use Rattle.std.specs.Prelude.{◌≡◌, ◌≢◌, ◌⊎◌, ◌↔◌, ℕ, ◌<◌, ◌≤◌, ◌^◌, Bool, true, List, length, slice_index_or}
use Rattle.elf_image.specs.Layout.{Layout}
use Rattle.elf_image.specs.Memory.{byte_in, opening_cells}
use Rattle.bv_terms.specs.Values.{value_at, width_at}
use Rattle.bv_terms.specs.Values.{Assignment as TermAssignment}
use Rattle.clause_store.specs.declared.lit.Lit.{Lit}
use Rattle.clause_store.specs.Literals.{Assignment}
use Rattle.order_clauses.specs.declared.table.Table.{Table}
use Rattle.order_clauses.specs.Grid.{lit_in}
use Rattle.order_clauses.specs.Literals.{spelled}
use Rattle.order_clauses.specs.Orders.{IsStrict}
use Rattle.bit_clauses.specs.Bits.{IsBuilt}
use Rattle.bit_clauses.specs.Nodes.{lits_at}
use Rattle.source_clauses.specs.declared.reader.Reader.{Reader}
use Rattle.source_clauses.specs.Sees.{SeesNewest, candidate_at}
use Rattle.encoder.specs.declared.encoder.Encoder.{Encoder}
use Rattle.encoder.specs.Encodes.{IsKnown, Spells}
use Rattle.thread_terms.specs.declared.access.Access.{Access}
use Rattle.hit_terms.specs.Hits.{place_of}
use Rattle.term_sources.specs.Sees.{SeesAt, access_at, address_value, hits, no_id}

-- literals are those of a term of 8 bits
pub record AreBitsOf (encoder : Encoder) (id : ℕ) (lits : List Lit) : Type 0 where
  pub built : IsBuilt encoder.blaster id
  pub width : width_at encoder.pool id ≡ 8
  pub are : lits ≡ lits_at encoder.blaster.terms id

-- A candidate of a reader is a byte of an access: at the access's place in the table, with the literals of the byte's term, and its
-- condition says whether it hits, by the assignments of this encoder.
pub record IsCandidate (encoder : Encoder) (accesses : List Access) (place : ℕ → ℕ) (x i : ℕ) (reader : Reader) (k y m : ℕ) : Type 0 where
  pub there : y < length accesses
  pub other : y ≢ x
  pub within : m < length (access_at accesses y).writes
  pub at : (candidate_at reader.candidates k).at ≡ place y
  pub bits : AreBitsOf encoder (slice_index_or (access_at accesses y).writes m no_id).number (candidate_at reader.candidates k).bits
  pub hit : (w : Assignment) (t : TermAssignment) → Spells encoder t w
      → spelled w (candidate_at reader.candidates k).hit ≡ hits t encoder.pool (access_at accesses y) m (access_at accesses x) i

-- The reader of byte i of access x: which byte of which access each candidate is, no byte twice.
pub record IsReaderOf (encoder : Encoder) (image : Layout) (accesses : List Access) (place : ℕ → ℕ) (x i : ℕ) (reader : Reader) : Type 0 where
  pub access : ℕ → ℕ
  pub byte : ℕ → ℕ
  pub candidates : (k : ℕ) → k < length reader.candidates → IsCandidate encoder accesses place x i reader k (access k) (byte k)
  pub distinct : (j k : ℕ) → j < length reader.candidates → k < length reader.candidates → access j ≡ access k → byte j ≡ byte k → j ≡ k
  pub at : reader.at ≡ place x
  pub read : AreBitsOf encoder (slice_index_or (access_at accesses x).reads i no_id).number reader.read
  -- the literals of a term that has the initial byte's value
  pub first : ℕ
  pub initial : AreBitsOf encoder first reader.initial
  pub initial_is : (t : TermAssignment)
      → value_at t encoder.pool first ≡ byte_in (opening_cells image (place_of (address_value t encoder.pool (access_at accesses x)) i))

-- An order of all accesses is spelled by the table's literals as far as a reader and its candidates stand in it.
pub record IsSpelledOrder (w : Assignment) (table : Table) (place access : ℕ → ℕ) (count x : ℕ) (lt : ℕ → ℕ → Bool) : Type 0 where
  pub strict : IsStrict lt
  pub one_place : (j k : ℕ) → j < count → k < count → place (access j) ≡ place (access k) → access j ≡ access k
  pub between : (j k : ℕ) → j < count → k < count → access j ≢ access k
      → spelled w (lit_in table (place (access j)) (place (access k))) ≡ lt (access j) (access k)
  pub before : (k : ℕ) → k < count → spelled w (lit_in table (place (access k)) (place x)) ≡ lt (access k) x

-- No other byte can be seen: what hits before the reader is a candidate, or a candidate that hits before the reader hides it.
abbrev pub IsCovered : TermAssignment → Encoder → List Access → (access byte : ℕ → ℕ) → (count x i : ℕ) → (ℕ → ℕ → Bool) → Type 0
IsCovered t encoder accesses access byte count x i lt =
    (z m : ℕ) → z < length accesses → m < length (access_at accesses z).writes → lt z x ≡ true
    → hits t encoder.pool (access_at accesses z) m (access_at accesses x) i ≡ true
    → (k : ℕ) × (k < count)
    × (((access k ≡ z) × (byte k ≡ m))
    ⊎ ((lt z (access k) ≡ true) × (lt (access k) x ≡ true) × (hits t encoder.pool (access_at accesses (access k)) (byte k) (access_at accesses x) i ≡ true)))

-- no access writes more than 2 ^ 32 bytes
abbrev pub AreFew : List Access → Type 0
AreFew accesses = (y : ℕ) → y < length accesses → length (access_at accesses y).writes ≤ 2 ^ 32

-- each byte that an access may write is a term of 8 bits that has literals
abbrev pub AreWritten : Encoder → List Access → Type 0
AreWritten encoder accesses =
    (y m : ℕ) → y < length accesses → m < length (access_at accesses y).writes
    → IsBuilt encoder.blaster (slice_index_or (access_at accesses y).writes m no_id).number
    × (width_at encoder.pool (slice_index_or (access_at accesses y).writes m no_id).number ≡ 8)

abbrev pub ReadersSeeByTerms : Type 0
ReadersSeeByTerms = (encoder : Encoder) (image : Layout) (accesses : List Access) (place : ℕ → ℕ) (table : Table) (x i : ℕ) (reader : Reader)
    (w : Assignment) (t : TermAssignment) (lt : ℕ → ℕ → Bool) (is : IsReaderOf encoder image accesses place x i reader)
    → IsKnown encoder → Spells encoder t w → AreFew accesses → AreWritten encoder accesses
    → IsSpelledOrder w table place is.access (length reader.candidates) x lt
    → IsCovered t encoder accesses is.access is.byte (length reader.candidates) x i lt
    → SeesNewest w table reader ↔ SeesAt image t encoder.pool accesses lt x i
