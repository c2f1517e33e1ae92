-- When some bytes of an access can be read by clauses, and what these say.
use Rattle.std.specs.Prelude.{◌≡◌, ◌≢◌, ◌⊎◌, ℕ, zero, suc, ◌+◌, ◌<◌, Bool, true, List, [], ◌∷◌, ◌++◌, All, length, slice_index_or}
use Rattle.bv_terms.specs.Values.{Assignment as TermAssignment}
use Rattle.clause_store.specs.Formula.{Formula}
use Rattle.elf_image.specs.Layout.{Layout}
use Rattle.order_clauses.specs.declared.table.Table.{Table}
use Rattle.thread_terms.specs.declared.access.Access.{Access}
use Rattle.source_clauses.specs.declared.reader.Reader.{Reader}
use Rattle.source_clauses.specs.Contract.{AddsReader}
use Rattle.encoder.specs.declared.encoder.Encoder.{Encoder}
use Rattle.encoder.specs.Encodes.{Encodes}
use Rattle.step_terms.specs.Made.{IsTerm}
use Rattle.term_sources.specs.Sees.{access_at, hits, no_id}
use Rattle.read_clauses.specs.Readers.{AreFew, AreWritten}
use Rattle.formula_parts.specs.Order.{IsOrder, Setting}
use Rattle.formula_parts.specs.Facts.{Fact, Reads}
use Rattle.formula_parts.specs.Parts.{Adds, StandsOn}
use Rattle.reader_parts.specs.declared.reading.Reading.{Reading}
use Rattle.reader_parts.specs.declared.reading.Spot.{Spot}
use Rattle.reader_parts.specs.Conditions.{HasTerms}
use Rattle.reader_parts.specs.Readings.{IsBuiltReader, IsReading, IsSource, reader_parts, spot_at}

-- the bytes of a spot are those of another access, which has a place in the table
pub record IsSpot (setting : Setting) (reading : Reading) (spot : Spot) : Type 0 where
  pub source : IsSource setting.accesses reading spot
  pub other : spot.access ≢ reading.access
  pub chosen : setting.places.chosen spot.access ≡ true
  pub at : spot.at ≡ setting.places.place spot.access

-- one access writes a byte where byte j of a reading is read
abbrev pub hits_reading : Setting → TermAssignment → Reading → (y m j : ℕ) → Bool
hits_reading setting t reading y m j =
    hits t setting.nodes (access_at setting.accesses y) m (access_at setting.accesses reading.access) (reading.index + j)

-- a byte is that of a spot, or one of a spot stands after it and hides it
abbrev pub IsHiddenBy : Setting → TermAssignment → (ℕ → ℕ → Bool) → Reading → (y m j : ℕ) → Spot → Type 0
IsHiddenBy setting t lt reading y m j spot =
    ((spot.access ≡ y) × (spot.byte + j ≡ m))
    ⊎ ((lt y spot.access ≡ true) × (lt spot.access reading.access ≡ true) × (hits_reading setting t reading spot.access (spot.byte + j) j ≡ true))

-- Whatever is written where a byte is read, before it, is at a spot or hidden by one.
abbrev pub IsCoveredByte : Setting → Reading → List Spot → ℕ → Type 0
IsCoveredByte setting reading spots j =
    (t : TermAssignment) (lt : ℕ → ℕ → Bool) → IsOrder setting.log setting.accesses lt
    → (y m : ℕ) → y < length setting.accesses → m < length (access_at setting.accesses y).writes → lt y reading.access ≡ true
    → hits_reading setting t reading y m j ≡ true
    → (k : ℕ) × (k < length spots) × IsHiddenBy setting t lt reading y m j (spot_at spots k)

-- Some bytes that an access reads, and all spots at which they may have been written.
pub record CanRead (setting : Setting) (encoder : Encoder) (reading : Reading) (spots : List Spot) : Type 0 where
  pub stands : StandsOn setting encoder
  pub terms : All (HasTerms setting.nodes) setting.accesses
  pub few : AreFew setting.accesses
  pub written : AreWritten encoder setting.accesses
  pub reads : IsReading setting.accesses reading
  pub bytes : (j : ℕ) → j < reading.count
      → IsTerm setting.nodes 8 (slice_index_or (access_at setting.accesses reading.access).reads (reading.index + j) no_id).number
  pub some : 0 < reading.count
  pub chosen : setting.places.chosen reading.access ≡ true
  pub at : reading.at ≡ setting.places.place reading.access
  pub sources : All (IsSpot setting reading) spots
  pub distinct : (j k : ℕ) → j < length spots → k < length spots → (spot_at spots j).access ≡ (spot_at spots k).access
      → (spot_at spots j).byte ≡ (spot_at spots k).byte → j ≡ k
  pub covered : (j : ℕ) → j < reading.count → IsCoveredByte setting reading spots j

-- each of so many bytes of an access is what the access sees there
abbrev pub reads_from : (x index count : ℕ) → List Fact
reads_from x index zero = []
reads_from x index (suc count) = reads_from x index count ++ Reads x (index + count) ∷ []

abbrev pub reads_of : Reading → List Fact
reads_of reading = reads_from reading.access reading.index reading.count

-- The clauses of a built reader say that its bytes are read.
abbrev pub ReadersAreParts : Type 0
ReadersAreParts =
    (setting : Setting) (old mid : Encoder) (after : Formula) (reading : Reading) (spots : List Spot) (reader : Reader)
    → CanRead setting old reading spots → Encodes old mid (reader_parts setting.accesses reading spots)
    → IsBuiltReader old.pool mid setting.image setting.accesses reading spots reader
    → AddsReader mid.clauses after setting.places.table reader
    → Adds setting old (record mid { clauses = after }) (reads_of reading)

-- ---- settings that a caller has

-- a setting is one of an image, of accesses and of a table
pub record IsSettingOf (setting : Setting) (image : Layout) (accesses : List Access) (table : Table) : Type 0 where
  pub image_is : setting.image ≡ image
  pub accesses_are : setting.accesses ≡ accesses
  pub table_is : setting.places.table ≡ table

-- some bytes can be read in a setting
pub record CanBeRead (image : Layout) (accesses : List Access) (table : Table) (encoder : Encoder) (reading : Reading) (spots : List Spot) : Type 0 where
  pub setting : Setting
  pub is : IsSettingOf setting image accesses table
  pub can : CanRead setting encoder reading spots
