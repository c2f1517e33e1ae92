-- What was found of readings and outcomes is what every run shows.
use Rattle.std.proofs.Common.{◌≡◌, ◌↔◌, ℕ, ◌<◌, true, List, length, ◌∙◌, ap, subst}
use Rattle.std.specs.Prelude.{Contains}
use Rattle.std.specs.List.{filter_map}
use Rattle.odr_log.specs.declared.log.Log.{Log}
use Rattle.odr_log.specs.declared.log.Pos.{Pos}
use Rattle.rv_model.specs.RecordedOrder.{RecordedOrder}
use Rattle.happens_before.specs.declared.table.ThreadCalls.{ThreadCalls}
use Rattle.happens_before.specs.Table.{IsOrderOf}
use Rattle.race_set.specs.declared.matrix.Matrix.{Matrix}
use Rattle.race_set.specs.declared.outcome.Outcome.{Outcome}
use Rattle.race_set.specs.declared.reading.Reading.{Reading}
use Rattle.race_set.specs.declared.reading.Seen.{Seen}
use Rattle.race_set.specs.declared.shape.AccessShape.{AccessShape}
use Rattle.race_set.specs.Accesses.{AreCounted, AreDifferent, shape_at}
use Rattle.race_set.specs.Places.{cell, recorded_in, IsSquare, IsMatrixOf}
use Rattle.race_set.specs.Readings.{AreReadings}
use Rattle.race_set.specs.Outcomes.{AreOutcomes}
use Rattle.race_set.specs.Needs.{is_needed, AreNeeded}
use Rattle.race_set.specs.Races.{IsFixedReading, NeedsOrderAt}
use Rattle.race_set.proofs.Recorded.{Tells, tells}
use Rattle.race_set.proofs.SeenBytes.{seen_exactly}
use Rattle.race_set.proofs.NeededAccesses.{needed_exactly}

-- what the cells of a matrix say of each log of the order
abbrev pub Cells : List ThreadCalls → List AccessShape → Matrix → Type 0
Cells order shapes m =
    (log : Log) → IsOrderOf order log → AreCounted log shapes → (i j : ℕ) → i < length shapes → j < length shapes
    → (cell m i j ≡ true) ↔ RecordedOrder log (shape_at shapes i).pos (shape_at shapes j).pos

pub matrix_of : (m : Matrix) (shapes : List AccessShape) → m.count ≡ length shapes → IsSquare m → IsMatrixOf m shapes
matrix_of m shapes count square = record { square = square; count = count }

module _ (order : List ThreadCalls) (shapes : List AccessShape) (m : Matrix) (is : IsMatrixOf m shapes) (cells : Cells order shapes m) where
  told_of : (log : Log) → IsOrderOf order log → AreCounted log shapes → Tells log shapes (recorded_in m)
  told_of log is_order counted = tells log shapes m is_order.fit counted is (cells log is_order counted)

  pub race_seen : (readings slice : List Reading) (seen : List Seen) → AreReadings shapes (recorded_in m) readings → slice ≡ readings
      → seen ≡ filter_map (λ (r : Reading). r.seen) slice
      → (log : Log) → IsOrderOf order log → AreCounted log shapes → AreDifferent shapes → (s : Seen) → Contains seen s ↔ IsFixedReading log shapes s
  race_seen readings slice seen are same e log is_order counted differ s =
      seen_exactly log shapes differ (recorded_in m) (told_of log is_order counted) readings are seen
      (e ∙ ap (λ (rs : List Reading). filter_map (λ (r : Reading). r.seen) rs) same) s

  pub race_ordered : (readings slice : List Reading) (outcomes others : List Outcome) (ordered : List Pos) → AreReadings shapes (recorded_in m) readings
      → slice ≡ readings → AreOutcomes shapes (recorded_in m) (length shapes) outcomes → others ≡ outcomes
      → AreNeeded shapes (is_needed shapes slice others) (length shapes) ordered
      → (log : Log) → IsOrderOf order log → AreCounted log shapes → AreDifferent shapes → (p : Pos) → Contains ordered p ↔ NeedsOrderAt log shapes p
  race_ordered readings slice outcomes others ordered are same opens equal needed log is_order counted differ p =
      needed_exactly log shapes differ (recorded_in m) (told_of log is_order counted) readings are outcomes opens ordered
      (subst (λ (os : List Outcome). AreNeeded shapes (is_needed shapes readings os) (length shapes) ordered) equal
      (subst (λ (rs : List Reading). AreNeeded shapes (is_needed shapes rs others) (length shapes) ordered) same needed)) p
