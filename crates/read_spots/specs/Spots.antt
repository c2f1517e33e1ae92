-- Where a byte that an access reads may have been written.
use Rattle.std.specs.Prelude.{◌≡◌, ◌≢◌, ℕ, ◌<◌, ◌^◌, true, List, length, get_or, Option, Some, None, is_some}
use Rattle.odr_log.specs.declared.log.Log.{Log}
use Rattle.odr_log.specs.declared.log.Pos.{Pos}
use Rattle.rv_model.specs.RecordedOrder.{RecordedOrder}
use Rattle.happens_before.specs.declared.table.ThreadCalls.{ThreadCalls}
use Rattle.happens_before.specs.Table.{IsOrderOf}
use Rattle.race_set.specs.declared.shape.AccessShape.{AccessShape}
use Rattle.race_set.specs.declared.shape.Span.{Span}
use Rattle.race_set.specs.Accesses.{AreCounted, shape_at}
use Rattle.race_set.specs.Bytes.{byte_of}
use Rattle.race_set.specs.Races.{NeedsOrderAt}
use Rattle.race_set.specs.Readings.{Precedes}
use Rattle.race_set.specs.Runs.{IsFixed}
use Rattle.thread_terms.specs.declared.access.Access.{Access}
use Rattle.term_sources.specs.Sees.{access_at}
use Rattle.fixed_reads.specs.Shapes.{AreShapes}
use Rattle.formula_parts.specs.Order.{Setting}
use Rattle.reader_parts.specs.declared.reading.Reading.{Reading}
use Rattle.reader_parts.specs.declared.reading.Spot.{Spot}
use Rattle.reader_parts.specs.Readings.{spot_at}
use Rattle.read_parts.specs.Reads.{IsCoveredByte}

-- A byte that an access reads among others of a log: these, what is known of them, their places in a table, and the number of
-- the byte.
pub record Sought : Type 0 where
  pub log : Log
  pub accesses : List Access
  pub shapes : List AccessShape
  pub places : List (Option ℕ)
  pub reader : ℕ
  pub index : ℕ

abbrev pub sought : Log → List Access → List AccessShape → List (Option ℕ) → (reader index : ℕ) → Sought
sought log accesses shapes places reader index =
    record { log = log; accesses = accesses; shapes = shapes; places = places; reader = reader; index = index }

-- the place that a list has for the access with a number
abbrev pub place_in : List (Option ℕ) → ℕ → Option ℕ
place_in places y = get_or places y None

-- one access may write before another one reads: it is not the same, it writes, and it isn't recorded to stand after it
pub record MayPrecede (log : Log) (shapes : List AccessShape) (reader writer : ℕ) : Type 0 where
  pub other : writer ≢ reader
  pub writes : (shape_at shapes writer).writes ≡ true
  pub earlier : RecordedOrder log (shape_at shapes reader).pos (shape_at shapes writer).pos → ⊥

-- a byte of one place is one of another, where both are known
abbrev pub MayMeet : (writer reader : Option Span) → (byte index : ℕ) → Type 0
MayMeet writer reader byte index = (from to : Span) → writer ≡ Some from → reader ≡ Some to → byte_of from byte ≡ byte_of to index

-- A byte may be written at a spot: the access there has a place in the table, may write before the reader, and may write its byte
-- where the other one is read.
pub record IsSpotOf (s : Sought) (spot : Spot) : Type 0 where
  pub there : spot.access < length s.accesses
  pub within : spot.byte < length (access_at s.accesses spot.access).writes
  pub fits : spot.byte < 2 ^ 32
  pub at : place_in s.places spot.access ≡ Some spot.at
  pub precedes : MayPrecede s.log s.shapes s.reader spot.access
  pub meets : MayMeet (shape_at s.shapes spot.access).place (shape_at s.shapes s.reader).place spot.byte s.index

-- a spot is in a list
abbrev pub IsAmong : List Spot → Spot → Type 0
IsAmong spots spot = (k : ℕ) × (k < length spots) × (spot_at spots k ≡ spot)

-- no two spots in a list are of one byte
abbrev pub AreApart : List Spot → Type 0
AreApart spots = (j k : ℕ) → j < length spots → k < length spots → (spot_at spots j).access ≡ (spot_at spots k).access
    → (spot_at spots j).byte ≡ (spot_at spots k).byte → j ≡ k

-- a list has each spot before a byte of an access once, and nothing else
pub record AreSpotsBefore (s : Sought) (access byte : ℕ) (spots : List Spot) : Type 0 where
  pub only : (k : ℕ) → k < length spots → IsSpotOf s (spot_at spots k)
  pub below : (k : ℕ) → k < length spots → Precedes (spot_at spots k).access (spot_at spots k).byte access byte
  pub apart : AreApart spots
  pub each : (spot : Spot) → Precedes spot.access spot.byte access byte → IsSpotOf s spot → IsAmong spots spot

-- ---- in a setting

-- a list has the place of each access in the table
pub record HasPlaces (setting : Setting) (places : List (Option ℕ)) : Type 0 where
  pub chosen : (y : ℕ) → y < length setting.accesses → setting.places.chosen y ≡ is_some (place_in places y)
  pub place : (y at : ℕ) → place_in places y ≡ Some at → setting.places.place y ≡ at

-- A byte that an access reads, of known shapes in the order of a log, where the accesses that need an order have one.
pub record IsReadIn (setting : Setting) (order : List ThreadCalls) (shapes : List AccessShape) (places : List (Option ℕ)) (reader index : ℕ) : Type 0 where
  pub are : AreShapes setting.nodes setting.accesses shapes
  pub order_of : IsOrderOf order setting.log
  pub counted : AreCounted setting.log shapes
  pub has : HasPlaces setting places
  pub ordered : (y : ℕ) → y < length setting.accesses → NeedsOrderAt setting.log shapes (access_at setting.accesses y).pos → setting.places.chosen y ≡ true
  pub reads : (shape_at shapes reader).reads ≡ true
  pub within : (span : Span) → (shape_at shapes reader).place ≡ Some span → index < span.len

-- a byte that an access reads at an unknown address, or without one source in every run
abbrev pub IsOpenByte : Log → List AccessShape → (reader index : ℕ) → Type 0
IsOpenByte log shapes reader index =
    (span : Span) → (shape_at shapes reader).place ≡ Some span
    → (writer : Option Pos) → IsFixed log shapes (byte_of span index) (shape_at shapes reader).pos writer → ⊥

abbrev pub reading_of_one : (reader index : ℕ) → Reading
reading_of_one reader index = record { access = reader; index = index; count = 1; at = 0 }

-- All spots at which an open byte may have been written, each once; the reader has a place in the table.
pub record AreSpots (setting : Setting) (shapes : List AccessShape) (places : List (Option ℕ)) (reader index : ℕ) (spots : List Spot) : Type 0 where
  pub only : (k : ℕ) → k < length spots → IsSpotOf (sought setting.log setting.accesses shapes places reader index) (spot_at spots k)
  pub apart : AreApart spots
  pub covered : IsCoveredByte setting (reading_of_one reader index) spots 0
  pub chosen : setting.places.chosen reader ≡ true
