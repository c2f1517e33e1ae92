-- Bytes that are read together, and the reader that is built for them.
use Rattle.std.specs.Prelude.{◌≡◌, ℕ, zero, suc, ◌+◌, ◌<◌, ◌≤◌, ◌^◌, List, [], ◌∷◌, ◌++◌, length, get_or, slice_index_or}
use Rattle.elf_image.specs.Layout.{Layout}
use Rattle.elf_image.specs.Memory.{byte_in, opening_cells}
use Rattle.bv_terms.specs.declared.node.TermId.{TermId}
use Rattle.bv_terms.specs.Shapes.{Shape}
use Rattle.bv_terms.specs.Values.{value_at}
use Rattle.clause_store.specs.declared.lit.Lit.{Lit}
use Rattle.source_clauses.specs.declared.reader.Candidate.{Candidate}
use Rattle.source_clauses.specs.declared.reader.Reader.{Reader}
use Rattle.source_clauses.specs.Sees.{candidate_at}
use Rattle.encoder.specs.declared.encoder.Encoder.{Encoder}
use Rattle.encoder.specs.Encodes.{AreBuilt, joined}
use Rattle.step_terms.specs.Bytes.{numbers}
use Rattle.step_terms.specs.Made.{IsMade}
use Rattle.thread_terms.specs.declared.access.Access.{Access}
use Rattle.hit_terms.specs.Hits.{place_of}
use Rattle.term_sources.specs.Sees.{access_at, hits, no_id}
use Rattle.reader_parts.specs.declared.reading.Reading.{Reading}
use Rattle.reader_parts.specs.declared.reading.Spot.{Spot}
use Rattle.reader_parts.specs.Conditions.{IsCondition, hit_parts}

-- so many of some terms one after another
abbrev pub run_of : List TermId → (first count : ℕ) → List ℕ
run_of ids first zero = []
run_of ids first (suc count) = run_of ids first count ++ (slice_index_or ids (first + count) no_id).number ∷ []

abbrev pub spot_at : List Spot → ℕ → Spot
spot_at spots k = get_or spots k (record { access = 0; byte = 0; at = 0 })

-- ---- the terms that a reader stands on

abbrev pub read_parts : List Access → Reading → List ℕ
read_parts accesses reading = run_of (access_at accesses reading.access).reads reading.index reading.count

abbrev pub written_parts : List Access → Reading → Spot → List ℕ
written_parts accesses reading spot = run_of (access_at accesses spot.access).writes spot.byte reading.count

abbrev pub spot_parts : List Access → Reading → Spot → List ℕ
spot_parts accesses reading spot =
    hit_parts (access_at accesses spot.access) (access_at accesses reading.access) ++ written_parts accesses reading spot

abbrev pub all_spot_parts : List Access → Reading → List Spot → List ℕ
all_spot_parts accesses reading [] = []
all_spot_parts accesses reading (spot ∷ more) = spot_parts accesses reading spot ++ all_spot_parts accesses reading more

-- all terms that a reader stands on, but for those of initial bytes, which its address decides
abbrev pub reader_parts : List Access → Reading → List Spot → List ℕ
reader_parts accesses reading spots =
    all_spot_parts accesses reading spots ++ (read_parts accesses reading ++ (access_at accesses reading.access).address.number ∷ [])

-- bytes that an access reads
pub record IsReading (accesses : List Access) (reading : Reading) : Type 0 where
  pub there : reading.access < length accesses
  pub within : reading.index + reading.count ≤ length (access_at accesses reading.access).reads
  pub fits : reading.index + reading.count ≤ 2 ^ 32

-- as many bytes that an access may write
pub record IsSource (accesses : List Access) (reading : Reading) (spot : Spot) : Type 0 where
  pub there : spot.access < length accesses
  pub within : spot.byte + reading.count ≤ length (access_at accesses spot.access).writes

-- ---- what is built

-- literals are those of some terms, one term after the other
pub record AreLiterals (encoder : Encoder) (terms : List ℕ) (lits : List Lit) : Type 0 where
  pub built : AreBuilt encoder terms
  pub are : lits ≡ joined encoder.blaster.terms terms

-- A candidate stands for the bytes that an access writes from a spot on: the first of them decides whether they hit.
pub record IsCandidateOf (nodes : List Shape) (encoder : Encoder) (accesses : List Access) (reading : Reading) (spot : Spot) (candidate : Candidate) : Type 0 where
  pub at : candidate.at ≡ spot.at
  pub bits : AreLiterals encoder (written_parts accesses reading spot) candidate.bits
  pub hit : IsCondition encoder (hit_parts (access_at accesses spot.access) (access_at accesses reading.access))
      (λ t. hits t nodes (access_at accesses spot.access) spot.byte (access_at accesses reading.access) reading.index) candidate.hit

pub record AreCandidatesOf (nodes : List Shape) (encoder : Encoder) (accesses : List Access) (reading : Reading) (spots : List Spot) (candidates : List Candidate) : Type 0 where
  pub count : length candidates ≡ length spots
  pub each : (k : ℕ) → k < length spots → IsCandidateOf nodes encoder accesses reading (spot_at spots k) (candidate_at candidates k)

abbrev pub term_in : List TermId → ℕ → ℕ
term_in ids j = (slice_index_or ids j no_id).number

-- the byte of an access before the first step, at an address
abbrev pub opening_byte : Layout → (address index : ℕ) → ℕ
opening_byte image address index = byte_in (opening_cells image (place_of address index))

-- terms of so many bytes of an access before the first step were made
pub record AreMadeInitial (old new : List Shape) (image : Layout) (address index count : ℕ) (ids : List TermId) : Type 0 where
  pub many : length ids ≡ count
  pub each : (j : ℕ) → j < count
      → IsMade old new (address ∷ []) 8 (λ t. opening_byte image (value_at t old address) (index + j)) (term_in ids j)

-- The reader of some bytes of an access: its candidates are those of the spots.
pub record IsBuiltReader (nodes : List Shape) (encoder : Encoder) (image : Layout) (accesses : List Access) (reading : Reading) (spots : List Spot) (reader : Reader) : Type 0 where
  pub at : reader.at ≡ reading.at
  pub read : AreLiterals encoder (read_parts accesses reading) reader.read
  pub terms : List TermId
  pub made : AreMadeInitial nodes encoder.pool image (access_at accesses reading.access).address.number reading.index reading.count terms
  pub initial : AreLiterals encoder (numbers terms) reader.initial
  pub candidates : AreCandidatesOf nodes encoder accesses reading spots reader.candidates
