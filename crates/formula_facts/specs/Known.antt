-- What is known of the accesses of a log in a setting, and what is added for them.
use Rattle.std.specs.Prelude.{◌≡◌, ◌↔◌, ℕ, zero, suc, ◌<◌, ◌≤◌, ◌^◌, Bool, true, List, [], ◌∷◌, ◌++◌, All, Contains, length, Option, Some, None}
use Rattle.elf_image.specs.Layout.{Layout}
use Rattle.happens_before.specs.Table.{IsOrderOf}
use Rattle.race_set.specs.declared.reading.Seen.{Seen}
use Rattle.race_set.specs.declared.shape.AccessShape.{AccessShape}
use Rattle.race_set.specs.declared.shape.Span.{Span}
use Rattle.race_set.specs.Accesses.{AreCounted, shape_at}
use Rattle.race_set.specs.Races.{IsFixedReading, NeedsOrderAt}
use Rattle.encoder.specs.declared.encoder.Encoder.{Encoder}
use Rattle.step_terms.specs.Made.{IsTerm}
use Rattle.thread_terms.specs.declared.access.Access.{Access}
use Rattle.term_sources.specs.Sees.{access_at}
use Rattle.fixed_reads.specs.Shapes.{AreShapes, IsTotalOf}
use Rattle.read_clauses.specs.Readers.{AreFew, AreWritten}
use Rattle.formula_parts.specs.Order.{Setting}
use Rattle.formula_parts.specs.Facts.{Fact, Reads, Succeeds}
use Rattle.formula_parts.specs.Parts.{Adds, StandsOn}
use Rattle.reader_parts.specs.Conditions.{HasTerms}
use Rattle.read_parts.specs.Reads.{reads_from}
use Rattle.same_parts.specs.Same.{read_id, written_id}
use Rattle.read_spots.specs.Spots.{HasPlaces, IsOpenByte}
use Rattle.rivals.specs.Between.{AreBelow, LooksBack}
use Rattle.formula_facts.specs.declared.known.Known.{Known}

-- the terms of accesses are words, and their bytes bytes
pub record AreTyped (setting : Setting) : Type 0 where
  pub terms : All (HasTerms setting.nodes) setting.accesses
  pub few : AreFew setting.accesses
  pub few_reads : (x : ℕ) → x < length setting.accesses → length (access_at setting.accesses x).reads ≤ 2 ^ 32
  pub read : (x i : ℕ) → x < length setting.accesses → i < length (access_at setting.accesses x).reads → IsTerm setting.nodes 8 (read_id setting x i)
  pub written : (y m : ℕ) → y < length setting.accesses → m < length (access_at setting.accesses y).writes → IsTerm setting.nodes 8 (written_id setting y m)

-- an access looks back to the one with a number
pub record IsLink (setting : Setting) (shapes : List AccessShape) (lr x : ℕ) : Type 0 where
  pub there : lr < length setting.accesses
  pub back : LooksBack shapes lr x

-- What is known is of the accesses of a setting, and those that need an order have a place in it.
pub record IsKnownIn (setting : Setting) (known : Known) : Type 0 where
  pub accesses_are : setting.accesses ≡ known.accesses
  pub table_is : setting.places.table ≡ known.vars.ordered.table
  pub typed : AreTyped setting
  pub are : AreShapes setting.nodes setting.accesses known.shapes
  pub reads : (x i : ℕ) → x < length setting.accesses → i < length (access_at setting.accesses x).reads → (shape_at known.shapes x).reads ≡ true
  pub within : (x i : ℕ) (span : Span) → x < length setting.accesses → i < length (access_at setting.accesses x).reads
      → (shape_at known.shapes x).place ≡ Some span → i < span.len
  pub order_of : IsOrderOf known.order setting.log
  pub counted : AreCounted setting.log known.shapes
  pub exact : (s : Seen) → Contains known.seen s ↔ IsFixedReading setting.log known.shapes s
  pub some_order : ℕ → ℕ → Bool
  pub is_order : IsTotalOf setting.log setting.accesses some_order
  pub ordered : (y : ℕ) → y < length setting.accesses → NeedsOrderAt setting.log known.shapes (access_at setting.accesses y).pos → setting.places.chosen y ≡ true
  pub has : HasPlaces setting known.places
  pub many : length known.places ≡ length known.accesses
  pub below : AreBelow (length known.vars.chosen) known.places
  pub links : (x lr : ℕ) → x < length setting.accesses → (access_at setting.accesses x).link ≡ Some lr → IsLink setting known.shapes lr x

-- an encoder has the terms of the setting, and literals of all bytes that may be written
pub record IsReadyFor (setting : Setting) (encoder : Encoder) : Type 0 where
  pub stands : StandsOn setting encoder
  pub written : AreWritten encoder setting.accesses

-- there is such a setting
pub record CanAdd (image : Layout) (known : Known) (encoder : Encoder) : Type 0 where
  pub setting : Setting
  pub image_is : setting.image ≡ image
  pub is : IsKnownIn setting known
  pub ready : IsReadyFor setting encoder

-- in which a byte of an access is open
pub record CanAddOpen (image : Layout) (known : Known) (encoder : Encoder) (x i : ℕ) : Type 0 where
  pub can : CanAdd image known encoder
  pub there : x < length known.accesses
  pub within : i < length (access_at known.accesses x).reads
  pub is_open : IsOpenByte can.setting.log known.shapes x i

-- What was added says these facts in each such setting.
abbrev pub AddsFacts : Layout → Known → (old new : Encoder) → List Fact → Type 0
AddsFacts image known old new facts =
    (setting : Setting) → setting.image ≡ image → IsKnownIn setting known → IsReadyFor setting old → Adds setting old new facts

-- or that an open byte is what its access sees there
abbrev pub AddsOpen : Layout → Known → (old new : Encoder) → (x i : ℕ) → Type 0
AddsOpen image known old new x i =
    (setting : Setting) → setting.image ≡ image → IsKnownIn setting known → IsReadyFor setting old → IsOpenByte setting.log known.shapes x i
    → Adds setting old new (Reads x i ∷ [])

-- ---- the facts of all bytes

abbrev pub reads_of_access : List Access → ℕ → List Fact
reads_of_access accesses x = reads_from x 0 (length (access_at accesses x).reads)

-- those of so many accesses
abbrev pub all_reads : List Access → ℕ → List Fact
all_reads accesses zero = []
all_reads accesses (suc x) = all_reads accesses x ++ reads_of_access accesses x

-- ---- the facts of all outcomes

-- that of an access, where it looks back
abbrev pub outcome_by : Option ℕ → ℕ → List Fact
outcome_by None x = []
outcome_by (Some lr) x = Succeeds x ∷ []

abbrev pub outcome_of_access : List Access → ℕ → List Fact
outcome_of_access accesses x = outcome_by (access_at accesses x).link x

-- those of so many accesses
abbrev pub all_outcomes : List Access → ℕ → List Fact
all_outcomes accesses zero = []
all_outcomes accesses (suc x) = all_outcomes accesses x ++ outcome_of_access accesses x
