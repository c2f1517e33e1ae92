-- What is recorded among the steps of accesses is recorded among the accesses.
use Rattle.std.proofs.Common.{◌≡◌, ◌↔◌, ℕ, ◌<◌, ◌+◌, ◌*◌, true, false, Bool, List, length, get_or, subst}
use Rattle.std.specs.Prelude.{All, map}
use Rattle.std.proofs.Math.ListN.{get_or-map}
use Rattle.std.proofs.lemmas.List.{length-map}
use Rattle.std.proofs.lemmas.List.Elements.{All-map}
use Rattle.odr_log.specs.declared.log.Log.{Log}
use Rattle.odr_log.specs.declared.log.Pos.{Pos}
use Rattle.rv_model.specs.RecordedOrder.{Counted, RecordedOrder}
use Rattle.happens_before.specs.declared.table.ThreadCalls.{ThreadCalls}
use Rattle.happens_before.specs.Table.{IsOrderOf}
use Rattle.order_vars.specs.Chosen.{position}
use Rattle.race_set.specs.declared.shape.AccessShape.{AccessShape}
use Rattle.race_set.specs.Accesses.{AreCounted, shape_at}
use Rattle.race_set.proofs.Numbers.{no_shape}

abbrev pub positions_of : List AccessShape → List Pos
positions_of shapes = map (λ (x : AccessShape). x.pos) shapes

-- what cells say of chosen steps
abbrev pub SaysOf : List ThreadCalls → List Pos → List Bool → Type 0
SaysOf order chosen cells =
    (log : Log) → IsOrderOf order log → All (Counted log) chosen → (i j : ℕ) → i < length chosen → j < length chosen
    → (get_or cells (i * length chosen + j) false ≡ true) ↔ RecordedOrder log (position chosen i) (position chosen j)

-- and of accesses
abbrev pub SaysOfAccesses : List ThreadCalls → List AccessShape → List Bool → Type 0
SaysOfAccesses order shapes cells =
    (log : Log) → IsOrderOf order log → AreCounted log shapes → (i j : ℕ) → i < length shapes → j < length shapes
    → (get_or cells (i * length shapes + j) false ≡ true) ↔ RecordedOrder log (shape_at shapes i).pos (shape_at shapes j).pos

position_is : (shapes : List AccessShape) (i : ℕ) → position (positions_of shapes) i ≡ (shape_at shapes i).pos
position_is shapes i = get_or-map (λ (x : AccessShape). x.pos) shapes i no_shape

positions_say : (order : List ThreadCalls) (shapes : List AccessShape) (cells : List Bool) → SaysOf order (positions_of shapes) cells
    → SaysOfAccesses order shapes cells
positions_say order shapes cells says log is_order counted i j i_in j_in =
    subst (λ (p : Pos). (get_or cells (i * n + j) false ≡ true) ↔ RecordedOrder log p (shape_at shapes j).pos) (position_is shapes i)
    (subst (λ (q : Pos). (get_or cells (i * n + j) false ≡ true) ↔ RecordedOrder log (position (positions_of shapes) i) q) (position_is shapes j)
    (subst
    (λ (m : ℕ). i < m → j < m
    → (get_or cells (i * m + j) false ≡ true) ↔ RecordedOrder log (position (positions_of shapes) i) (position (positions_of shapes) j))
    (length-map shapes (λ (x : AccessShape). x.pos))
    (says log is_order (All-map (Counted log) (λ (x : AccessShape). x.pos) shapes counted) i j) i_in j_in))
  where
    n : ℕ
    n = length shapes

pub cells_say : (order : List ThreadCalls) (shapes : List AccessShape) (chosen : List Pos) (cells : List Bool) → chosen ≡ positions_of shapes
    → SaysOf order chosen cells → SaysOfAccesses order shapes cells
cells_say order shapes chosen cells same says =
    positions_say order shapes cells (subst (λ (ps : List Pos). SaysOf order ps cells) same says)

pub positions_square : (shapes : List AccessShape) (chosen : List Pos) (cells : List Bool) → chosen ≡ positions_of shapes
    → length cells ≡ length chosen * length chosen → length cells ≡ length shapes * length shapes
positions_square shapes chosen cells same square =
    subst (λ (m : ℕ). length cells ≡ m * m) (length-map shapes (λ (x : AccessShape). x.pos))
    (subst (λ (ps : List Pos). length cells ≡ length ps * length ps) same square)
