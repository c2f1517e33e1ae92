-- Bytes with one source in every run, as parts of a formula.
use Rattle.std.specs.Prelude.{◌≡◌, ◌↔◌, ℕ, ◌<◌, Bool, List, [], ◌∷◌, length, slice_index_or, Option, Some, None}
use Rattle.odr_log.specs.declared.log.Pos.{Pos}
use Rattle.bv_terms.specs.Shapes.{Shape}
use Rattle.bv_terms.specs.Values.{KeepsTerms, value_at, width_at}
use Rattle.bv_terms.specs.Values.{Assignment as TermAssignment}
use Rattle.clause_store.specs.Formula.{Formula}
use Rattle.clause_store.specs.UnitRule.{Partial}
use Rattle.source_clauses.specs.Same.{AddsSame}
use Rattle.bit_clauses.specs.Nodes.{lits_at}
use Rattle.encoder.specs.declared.encoder.Encoder.{Encoder}
use Rattle.encoder.specs.Encodes.{AreBuilt, Encodes}
use Rattle.step_terms.specs.Made.{Grows, IsMade, IsTerm}
use Rattle.hit_terms.specs.Hits.{place_of}
use Rattle.race_set.specs.declared.shape.AccessShape.{AccessShape}
use Rattle.race_set.specs.Runs.{IsFixed}
use Rattle.term_sources.specs.Sees.{SeesAt, access_at, address_value, no_id}
use Rattle.fixed_reads.specs.Law.{byte_at}
use Rattle.fixed_reads.specs.Shapes.{AreShapes}
use Rattle.formula_parts.specs.Order.{IsOrder, Setting}
use Rattle.formula_parts.specs.Facts.{IsGivenTerm, IsReady, Reads}
use Rattle.formula_parts.specs.Parts.{Adds, StandsOn}
use Rattle.reader_parts.specs.Readings.{opening_byte}

-- the term of a byte that an access reads, and of one that it may write
abbrev pub read_id : Setting → (x i : ℕ) → ℕ
read_id setting x i = (slice_index_or (access_at setting.accesses x).reads i no_id).number

abbrev pub written_id : Setting → (y m : ℕ) → ℕ
written_id setting y m = (slice_index_or (access_at setting.accesses y).writes m no_id).number

-- A byte of an access is what the access sees there exactly where it has the value of one term, and this is given by what stands
-- before the access.
pub record HasOneSource (setting : Setting) (encoder : Encoder) (x i source : ℕ) : Type 0 where
  pub there : x < length setting.accesses
  pub within : i < length (access_at setting.accesses x).reads
  pub read : IsTerm setting.nodes 8 (read_id setting x i)
  pub width : width_at encoder.pool source ≡ 8
  pub holds : (t : TermAssignment) (lt : ℕ → ℕ → Bool) → IsOrder setting.log setting.accesses lt
      → SeesAt setting.image t setting.nodes setting.accesses lt x i ↔ (value_at t setting.nodes (read_id setting x i) ≡ value_at t encoder.pool source)
  pub given : (v : Partial) (lt : ℕ → ℕ → Bool) → IsOrder setting.log setting.accesses lt → IsReady setting encoder v lt x → IsGivenTerm encoder v source

-- Clauses that make the bits of a byte those of its one source.
abbrev pub SameBytesAreParts : Type 0
SameBytesAreParts =
    (setting : Setting) (old mid : Encoder) (after : Formula) (x i source : ℕ) → StandsOn setting old
    → Encodes old mid (read_id setting x i ∷ source ∷ []) → AreBuilt mid (read_id setting x i ∷ source ∷ []) → HasOneSource setting mid x i source
    → AddsSame mid.clauses after (lits_at mid.blaster.terms source) (lits_at mid.blaster.terms (read_id setting x i))
    → Adds setting old (record mid { clauses = after }) (Reads x i ∷ [])

-- a byte that an access reads, which comes from one source in every run, whichever address the terms have
pub record IsFixedByte (setting : Setting) (shapes : List AccessShape) (x i : ℕ) (writer : Option Pos) : Type 0 where
  pub are : AreShapes setting.nodes setting.accesses shapes
  pub there : x < length setting.accesses
  pub within : i < length (access_at setting.accesses x).reads
  pub read : IsTerm setting.nodes 8 (read_id setting x i)
  pub address : IsTerm setting.nodes 32 (access_at setting.accesses x).address.number
  pub fixed : (t : TermAssignment) → IsFixed setting.log shapes (byte_at t setting.nodes setting.accesses x i) (access_at setting.accesses x).pos writer

-- the byte of an access that another one writes there
pub record IsWrittenThere (setting : Setting) (x i y m : ℕ) : Type 0 where
  pub there : y < length setting.accesses
  pub within : m < length (access_at setting.accesses y).writes
  pub written : IsTerm setting.nodes 8 (written_id setting y m)
  pub place : (t : TermAssignment) → place_of (address_value t setting.nodes (access_at setting.accesses y)) m ≡ byte_at t setting.nodes setting.accesses x i

-- The source is a byte that one write has there.
abbrev pub WritesAreSources : Type 0
WritesAreSources =
    (setting : Setting) (encoder : Encoder) (shapes : List AccessShape) (x i y m : ℕ) → KeepsTerms setting.nodes encoder.pool
    → IsFixedByte setting shapes x i (Some (access_at setting.accesses y).pos) → IsWrittenThere setting x i y m
    → HasOneSource setting encoder x i (written_id setting y m)

-- The source is a term of the initial byte there.
abbrev pub InitialBytesAreSources : Type 0
InitialBytesAreSources =
    (setting : Setting) (nodes : List Shape) (encoder : Encoder) (shapes : List AccessShape) (x i source : ℕ) → KeepsTerms setting.nodes nodes → Grows nodes encoder.pool
    → IsFixedByte setting shapes x i None
    → IsMade nodes encoder.pool ((access_at setting.accesses x).address.number ∷ []) 8
    (λ t. opening_byte setting.image (value_at t nodes (access_at setting.accesses x).address.number) i) source
    → HasOneSource setting encoder x i source
