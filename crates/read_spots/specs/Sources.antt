-- Where a byte that an access reads comes from in every run.
use Rattle.std.specs.Prelude.{◌≡◌, ◌↔◌, ℕ, ◌<◌, true, Bool, List, length, Some, None, Contains}
use Rattle.odr_log.specs.declared.log.Pos.{Pos}
use Rattle.race_set.specs.declared.reading.Seen.{Seen}
use Rattle.race_set.specs.declared.shape.AccessShape.{AccessShape}
use Rattle.race_set.specs.declared.shape.Span.{Span}
use Rattle.race_set.specs.Accesses.{shape_at}
use Rattle.race_set.specs.Bytes.{number_in}
use Rattle.race_set.specs.Races.{IsFixedReading}
use Rattle.bv_terms.specs.Values.{Assignment as TermAssignment}
use Rattle.step_terms.specs.Made.{IsTerm}
use Rattle.hit_terms.specs.Hits.{place_of}
use Rattle.term_sources.specs.Sees.{access_at, address_value}
use Rattle.fixed_reads.specs.Law.{byte_at}
use Rattle.fixed_reads.specs.Shapes.{AreShapes, IsTotalOf}
use Rattle.formula_parts.specs.Order.{Setting}
use Rattle.same_parts.specs.Same.{IsFixedByte, read_id}
use Rattle.read_spots.specs.declared.source.Source.{Source}
use Rattle.read_spots.specs.declared.source.Source.TheVariants as source
use Rattle.read_spots.specs.Spots.{IsOpenByte}

-- ---- what is found

-- a byte of one access of a list, at whose position the access stands: the byte at an address
pub record IsByteOf (shapes : List AccessShape) (pos : Pos) (address access byte : ℕ) : Type 0 where
  pub there : access < length shapes
  pub is : (shape_at shapes access).pos ≡ pos
  pub span : Span
  pub place : (shape_at shapes access).place ≡ Some span
  pub number : byte ≡ number_in span address

-- a source is the byte at an address that the access at a position has; open where no access with a known place stands there
abbrev pub IsFoundAt : List AccessShape → Pos → (address : ℕ) → Source → Type 0
IsFoundAt shapes pos address source.Open =
    (y : ℕ) (span : Span) → y < length shapes → (shape_at shapes y).pos ≡ pos → (shape_at shapes y).place ≡ Some span
    → ((z : ℕ) → z < length shapes → (shape_at shapes z).pos ≡ pos → z ≡ y) → ⊥
IsFoundAt shapes pos address source.Initial = ⊥
IsFoundAt shapes pos address (source.Written access byte) = IsByteOf shapes pos address access byte

-- ---- what it means

-- The readings with one source of accesses in some order, and a byte that an access reads.
pub record IsSeenIn (setting : Setting) (shapes : List AccessShape) (seen : List Seen) (reader index : ℕ) : Type 0 where
  pub are : AreShapes setting.nodes setting.accesses shapes
  pub exact : (s : Seen) → Contains seen s ↔ IsFixedReading setting.log shapes s
  pub order : ℕ → ℕ → Bool
  pub is_order : IsTotalOf setting.log setting.accesses order
  pub reads : (shape_at shapes reader).reads ≡ true
  pub within : (span : Span) → (shape_at shapes reader).place ≡ Some span → index < span.len

-- the terms of a byte that an access reads, and of its address
pub record HasReadTerms (setting : Setting) (reader index : ℕ) : Type 0 where
  pub within : index < length (access_at setting.accesses reader).reads
  pub read : IsTerm setting.nodes 8 (read_id setting reader index)
  pub address : IsTerm setting.nodes 32 (access_at setting.accesses reader).address.number

-- one access has a byte that it may write where another one reads a byte, whatever values terms have
pub record IsByteThere (setting : Setting) (reader index access byte : ℕ) : Type 0 where
  pub there : access < length setting.accesses
  pub within : byte < length (access_at setting.accesses access).writes
  pub place : (t : TermAssignment)
      → place_of (address_value t setting.nodes (access_at setting.accesses access)) byte ≡ byte_at t setting.nodes setting.accesses reader index

-- a byte comes from a source in every run, or is open
abbrev pub IsSourceIn : Setting → List AccessShape → (reader index : ℕ) → Source → Type 0
IsSourceIn setting shapes reader index source.Open = IsOpenByte setting.log shapes reader index
IsSourceIn setting shapes reader index source.Initial = HasReadTerms setting reader index → IsFixedByte setting shapes reader index None
IsSourceIn setting shapes reader index (source.Written access byte) =
    (HasReadTerms setting reader index → IsFixedByte setting shapes reader index (Some (access_at setting.accesses access).pos))
    × IsByteThere setting reader index access byte
