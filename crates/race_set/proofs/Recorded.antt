-- The recorded order of accesses, by their numbers.
use Rattle.std.proofs.Common.{◌≡◌, ◌↔◌, ℕ, ◌<◌, Bool, true, ◌&&◌, List, length, refl, sym, subst, arith}
use Rattle.std.specs.Prelude.{nat_lt}
use Rattle.std.proofs.lemmas.Bool.{and_parts, and_from, false_from_ne_true, ltb-true, lt-ltb}
use Rattle.odr_log.specs.declared.log.Log.{Log}
use Rattle.odr_log.specs.declared.log.Pos.{Pos}
use Rattle.rv_model.specs.RecordedOrder.{One, More, Counted, RecordedOrder}
use Rattle.rv_model.specs.CallsFit.{CallsFit}
use Rattle.happens_before.proofs.ClosedForm.{before_in_thread}
use Rattle.order_clauses.specs.Orders.{IsStrict}
use Rattle.race_set.specs.declared.matrix.Matrix.{Matrix}
use Rattle.race_set.specs.declared.shape.AccessShape.{AccessShape}
use Rattle.race_set.specs.Accesses.{AreCounted, shape_at}
use Rattle.race_set.specs.Places.{cell, recorded_in, IsMatrixOf}
use Rattle.race_set.proofs.Numbers.{no_shape}

pub recorded_then : (log : Log) (p q r : Pos) → RecordedOrder log p q → RecordedOrder log q r → RecordedOrder log p r
recorded_then log p q r (One edge) rest = More edge rest
recorded_then log p q r (More {q = m} edge more) rest = More edge (recorded_then log m q r more rest)

pub never_recorded : (log : Log) → CallsFit log → (p : Pos) → Counted log p → RecordedOrder log p p → ⊥
never_recorded log fit p counted r = omega (arith, (before_in_thread log fit p p counted counted refl).1 r)

-- what a matrix says of the accesses of a log
pub record Tells (log : Log) (shapes : List AccessShape) (recorded : ℕ → ℕ → Bool) : Type 0 where
  pub strict : IsStrict recorded
  pub first : (i j : ℕ) → recorded i j ≡ true → i < length shapes
  pub second : (i j : ℕ) → recorded i j ≡ true → j < length shapes
  pub says : (i j : ℕ) → recorded i j ≡ true → RecordedOrder log (shape_at shapes i).pos (shape_at shapes j).pos
  pub said : (i j : ℕ) → i < length shapes → j < length shapes → RecordedOrder log (shape_at shapes i).pos (shape_at shapes j).pos → recorded i j ≡ true

pub record Parts (m : Matrix) (i j : ℕ) : Type 0 where
  pub row : i < m.count
  pub column : j < m.count
  pub cell : cell m i j ≡ true

parts : (m : Matrix) (i j : ℕ) → recorded_in m i j ≡ true → Parts m i j
parts m i j e =
    let outer = and_parts (nat_lt i m.count) (nat_lt j m.count && cell m i j) e in
    let inner = and_parts (nat_lt j m.count) (cell m i j) outer.1 in
    record { row = ltb-true i m.count outer.0; column = ltb-true j m.count inner.0; cell = inner.1 }

pub tells : (log : Log) (shapes : List AccessShape) (m : Matrix) → CallsFit log → AreCounted log shapes → IsMatrixOf m shapes
    → ((i j : ℕ) → i < length shapes → j < length shapes → (cell m i j ≡ true) ↔ RecordedOrder log (shape_at shapes i).pos (shape_at shapes j).pos)
    → Tells log shapes (recorded_in m)
tells log shapes m fit counted is cells =
    record {
      strict =
          record {
            irreflexive =
                λ a.
                false_from_ne_true (recorded_in m a a)
                (λ e. never_recorded log fit (shape_at shapes a).pos (counted a no_shape (first a a e)) (says a a e));
            transitive =
                λ a b c e f.
                said a c (first a b e) (second b c f)
                (recorded_then log (shape_at shapes a).pos (shape_at shapes b).pos (shape_at shapes c).pos (says a b e) (says b c f));
          };
      first = first;
      second = second;
      says = says;
      said = said;
    }
  where
    in_shapes : (k : ℕ) → k < m.count → k < length shapes
    in_shapes k h = subst (λ (n : ℕ). k < n) is.count h

    in_matrix : (k : ℕ) → k < length shapes → k < m.count
    in_matrix k h = subst (λ (n : ℕ). k < n) (sym is.count) h

    first : (i j : ℕ) → recorded_in m i j ≡ true → i < length shapes
    first i j e = in_shapes i (parts m i j e).row

    second : (i j : ℕ) → recorded_in m i j ≡ true → j < length shapes
    second i j e = in_shapes j (parts m i j e).column

    says : (i j : ℕ) → recorded_in m i j ≡ true → RecordedOrder log (shape_at shapes i).pos (shape_at shapes j).pos
    says i j e = (cells i j (first i j e) (second i j e)).0 (parts m i j e).cell

    said : (i j : ℕ) → i < length shapes → j < length shapes → RecordedOrder log (shape_at shapes i).pos (shape_at shapes j).pos → recorded_in m i j ≡ true
    said i j i_in j_in r =
        and_from (nat_lt i m.count) (nat_lt j m.count && cell m i j) (lt-ltb i m.count (in_matrix i i_in))
        (and_from (nat_lt j m.count) (cell m i j) (lt-ltb j m.count (in_matrix j j_in)) ((cells i j i_in j_in).1 r))
