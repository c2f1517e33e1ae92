-- A source that is the same in every run is decided by the recorded order.
use Rattle.std.proofs.Common.{◌≡◌, ◌≢◌, ℕ, ◌<◌, ◌+◌, ◌⊎◌, Bool, true, false, not, ◌&&◌, List, length, refl, sym, ◌∙◌, ap, subst, inl, inr, arith}
use Rattle.std.specs.Prelude.{nat_eq, Some, None}
use Rattle.std.proofs.lemmas.Bool.{false≢true, and_parts, and_from, or_left, or_right, not_from_true, not_from_false, false_from_ne_true, eq-eqb, eqb-true, cases_Bool, cases_eq}
use Rattle.odr_log.specs.declared.log.Log.{Log}
use Rattle.odr_log.specs.declared.log.Pos.{Pos}
use Rattle.rv_model.specs.RecordedOrder.{RecordedOrder}
use Rattle.order_clauses.specs.Orders.{IsTotalAbove}
use Rattle.order_clauses.proofs.Extends.{each_extends}
use Rattle.race_set.specs.declared.shape.AccessShape.{AccessShape}
use Rattle.race_set.specs.Bytes.{may_write, surely_writes}
use Rattle.race_set.specs.Accesses.{AreDifferent, shape_at}
use Rattle.race_set.specs.Places.{is_after, is_passed, IsInitial, IsWrite}
use Rattle.race_set.specs.Runs.{IsTotal, AreWrites, IsNewest, IsFixed}
use Rattle.race_set.proofs.NewestWrite.{surely_may}
use Rattle.race_set.proofs.Numbers.{number_of, number_of-pos, number_of_listed}
use Rattle.race_set.proofs.Recorded.{Tells}
use Rattle.race_set.proofs.FixedSources.{IsNumber, number_at, access_at}
use Rattle.race_set.proofs.Downset.{some_total, some_between}

-- an order and the writes that take place, by positions

abbrev pub before_by : List AccessShape → (ℕ → ℕ → Bool) → Pos → Pos → Bool
before_by shapes lt p q = lt (number_of shapes p) (number_of shapes q)

abbrev pub writes_by : List AccessShape → (ℕ → Bool) → Pos → Bool
writes_by shapes w p = w (number_of shapes p)

module _ (log : Log) (shapes : List AccessShape) (differ : AreDifferent shapes) (recorded : ℕ → ℕ → Bool) (told : Tells log shapes recorded) where
  numbered : (p : Pos) (i : ℕ) → IsNumber shapes p i → number_of shapes p ≡ i
  numbered p i n = number_of-pos shapes differ i n.within p n.is

  -- a total order of the numbers is one of the accesses
  pub total_by : (lt : ℕ → ℕ → Bool) → IsTotalAbove (length shapes) recorded lt → IsTotal log shapes (before_by shapes lt)
  total_by lt above =
      record {
        irreflexive = λ p a. above.strict.irreflexive (number_of shapes p);
        transitive = λ p q r a b c e f. above.strict.transitive (number_of shapes p) (number_of shapes q) (number_of shapes r) e f;
        total = λ p q a b apart. total p q (number_at shapes p a) (number_at shapes q b) apart;
        agrees = λ p q a b order. agrees p q (number_at shapes p a) (number_at shapes q b) order;
      }
    where
      total : (p q : Pos) → (i : ℕ) × IsNumber shapes p i → (j : ℕ) × IsNumber shapes q j → p ≢ q
          → (before_by shapes lt p q ≡ true) ⊎ (before_by shapes lt q p ≡ true)
      total p q i j apart =
          subst (λ (k : ℕ). (lt k (number_of shapes q) ≡ true) ⊎ (lt (number_of shapes q) k ≡ true)) (sym (numbered p i.0 i.1))
          (subst (λ (k : ℕ). (lt i.0 k ≡ true) ⊎ (lt k i.0 ≡ true)) (sym (numbered q j.0 j.1))
          (above.all i.0 j.0 i.1.within j.1.within (λ same. apart (sym i.1.is ∙ ap (λ (k : ℕ). (shape_at shapes k).pos) same ∙ j.1.is))))

      agrees : (p q : Pos) → (i : ℕ) × IsNumber shapes p i → (j : ℕ) × IsNumber shapes q j → RecordedOrder log p q → before_by shapes lt p q ≡ true
      agrees p q i j order =
          let first : RecordedOrder log (shape_at shapes i.0).pos q = subst (λ (r : Pos). RecordedOrder log r q) (sym i.1.is) order in
          let both : RecordedOrder log (shape_at shapes i.0).pos (shape_at shapes j.0).pos = subst (λ (r : Pos). RecordedOrder log (shape_at shapes i.0).pos r) (sym j.1.is) first in
          subst (λ (k : ℕ). lt k (number_of shapes q) ≡ true) (sym (numbered p i.0 i.1))
          (subst (λ (k : ℕ). lt i.0 k ≡ true) (sym (numbered q j.0 j.1))
          (above.keeps i.0 j.0 i.1.within j.1.within (told.said i.0 j.0 i.1.within j.1.within both)))

  -- writes by number are possible where they may and surely do take place
  pub writes_possible : (byte : ℕ) (w : ℕ → Bool) → ((i : ℕ) → w i ≡ true → may_write byte (shape_at shapes i) ≡ true)
      → ((i : ℕ) → i < length shapes → surely_writes byte (shape_at shapes i) ≡ true → w i ≡ true) → AreWrites shapes byte (writes_by shapes w)
  writes_possible byte w may surely =
      record {
        may = λ z listed e. may_listed z (number_of_listed shapes z listed) e;
        surely = λ z listed e. sure_listed z (number_of_listed shapes z listed) e;
      }
    where
      at_number : (z : AccessShape) → (i : ℕ) × (i < length shapes) × (shape_at shapes i ≡ z) → (i : ℕ) × (number_of shapes z.pos ≡ i) × (i < length shapes) × (shape_at shapes i ≡ z)
      at_number z i = (i.0, number_of-pos shapes differ i.0 i.1 z.pos (ap (λ (t : AccessShape). t.pos) i.2), i.1, i.2)

      may_listed : (z : AccessShape) → (i : ℕ) × (i < length shapes) × (shape_at shapes i ≡ z) → writes_by shapes w z.pos ≡ true → may_write byte z ≡ true
      may_listed z i e =
          let n = at_number z i in
          subst (λ (t : AccessShape). may_write byte t ≡ true) n.3 (may n.0 (subst (λ (k : ℕ). w k ≡ true) n.1 e))

      sure_listed : (z : AccessShape) → (i : ℕ) × (i < length shapes) × (shape_at shapes i ≡ z) → surely_writes byte z ≡ true → writes_by shapes w z.pos ≡ true
      sure_listed z i e =
          let n = at_number z i in
          subst (λ (k : ℕ). w k ≡ true) (sym n.1) (surely n.0 n.2 (subst (λ (t : AccessShape). surely_writes byte t ≡ true) (sym n.3) e))

  -- all that may write the byte do
  abbrev pub all_write : ℕ → ℕ → Bool
  all_write byte i = may_write byte (shape_at shapes i)

  pub all_possible : (byte : ℕ) → AreWrites shapes byte (writes_by shapes (all_write byte))
  all_possible byte = writes_possible byte (all_write byte) (λ i e. e) (λ i within e. surely_may byte (shape_at shapes i) e)

  -- all but one
  abbrev others_write : ℕ → ℕ → ℕ → Bool
  others_write byte y i = may_write byte (shape_at shapes i) && not (nat_eq i y)

  others_possible : (byte y : ℕ) → surely_writes byte (shape_at shapes y) ≡ false → AreWrites shapes byte (writes_by shapes (others_write byte y))
  others_possible byte y f =
      writes_possible byte (others_write byte y) (λ i e. (and_parts (may_write byte (shape_at shapes i)) (not (nat_eq i y)) e).0)
      (λ i within e.
      and_from (may_write byte (shape_at shapes i)) (not (nat_eq i y)) (surely_may byte (shape_at shapes i) e)
      (not_from_false (nat_eq i y)
      (false_from_ne_true (nat_eq i y)
      (λ same. false≢true (sym f ∙ subst (λ (k : ℕ). surely_writes byte (shape_at shapes k) ≡ true) (eqb-true i y same) e)))))

  module _ (byte x : ℕ) (x_in : x < length shapes) where
    reader : Pos
    reader = (shape_at shapes x).pos

    x_number : number_of shapes (shape_at shapes x).pos ≡ x
    x_number = numbered (shape_at shapes x).pos x (record { within = x_in; is = refl })

    pub initial_exact : IsFixed log shapes byte (shape_at shapes x).pos None → IsInitial shapes recorded byte x
    initial_exact fixed other within may = go (cases_Bool (recorded x other)) (cases_eq other x)
      where
        go : (recorded x other ≡ true) ⊎ (recorded x other ≡ false) → (other ≡ x) ⊎ (other ≡ x → ⊥) → is_after recorded x other ≡ true
        go (inl after) same = or_right (nat_eq other x) (recorded x other) after
        go (inr f) (inl same) = or_left (nat_eq other x) (recorded x other) (eq-eqb other x same)
        go (inr f) (inr apart) =
            let made = each_extends (length shapes) recorded told.strict other x apart f in
            let p : Pos = (shape_at shapes other).pos in
            let here : number_of shapes p ≡ other = numbered p other (record { within = within; is = refl }) in
            absurd (fixed (before_by shapes made.0) (writes_by shapes (all_write byte)) (total_by made.0 made.1) (all_possible byte) p (access_at shapes other within)
            (subst (λ (k : ℕ). all_write byte k ≡ true) (sym here) may)
            (subst (λ (k : ℕ). made.0 k (number_of shapes (shape_at shapes x).pos) ≡ true) (sym here)
            (subst (λ (k : ℕ). made.0 other k ≡ true) (sym x_number) made.2)))

    -- what is seen in a run, by numbers
    record SeesNumber (lt : ℕ → ℕ → Bool) (w : ℕ → Bool) (y : ℕ) : Type 0 where
      takes_place : w y ≡ true
      older : lt y x ≡ true
      newest : (i : ℕ) → i < length shapes → w i ≡ true → lt i x ≡ true → i ≢ y → lt i y ≡ true

    by_number : (lt : ℕ → ℕ → Bool) (w : ℕ → Bool) (y : ℕ) → y < length shapes
        → IsNewest shapes (before_by shapes lt) (writes_by shapes w) (shape_at shapes x).pos (shape_at shapes y).pos → SeesNumber lt w y
    by_number lt w y y_in seen =
        record {
          takes_place = subst (λ (k : ℕ). w k ≡ true) y_number seen.takes_place;
          older = subst (λ (k : ℕ). lt y k ≡ true) x_number (subst (λ (k : ℕ). lt k (number_of shapes (shape_at shapes x).pos) ≡ true) y_number seen.older);
          newest = newest;
        }
      where
        y_number : number_of shapes (shape_at shapes y).pos ≡ y
        y_number = numbered (shape_at shapes y).pos y (record { within = y_in; is = refl })

        newest : (i : ℕ) → i < length shapes → w i ≡ true → lt i x ≡ true → i ≢ y → lt i y ≡ true
        newest i i_in takes older apart =
            let p : Pos = (shape_at shapes i).pos in
            let here : number_of shapes p ≡ i = numbered p i (record { within = i_in; is = refl }) in
            let before : before_by shapes lt p (shape_at shapes y).pos ≡ true =
            seen.newest p (access_at shapes i i_in) (subst (λ (k : ℕ). w k ≡ true) (sym here) takes)
            (subst (λ (k : ℕ). lt k (number_of shapes (shape_at shapes x).pos) ≡ true) (sym here) (subst (λ (k : ℕ). lt i k ≡ true) (sym x_number) older))
            (λ e. apart (sym here ∙ ap (λ (q : Pos). number_of shapes q) e ∙ y_number)) in
            subst (λ (k : ℕ). lt i k ≡ true) y_number (subst (λ (k : ℕ). lt k (number_of shapes (shape_at shapes y).pos) ≡ true) here before)

    pub a_total : (lt : ℕ → ℕ → Bool) × IsTotalAbove (length shapes) recorded lt
    a_total =
        some_total (length shapes) recorded told.strict
        (false_from_ne_true (recorded (length shapes + 1) (length shapes)) (λ e. never_in (length shapes) (told.second (length shapes + 1) (length shapes) e)))
      where
        never_in : (n : ℕ) → n < n → ⊥
        never_in n h = omega (arith, h)

    -- what is seen in some run
    pub a_run : (p : Pos) → IsFixed log shapes byte (shape_at shapes x).pos (Some p)
        → IsNewest shapes (before_by shapes a_total.0) (writes_by shapes (all_write byte)) (shape_at shapes x).pos p
    a_run p fixed = fixed (before_by shapes a_total.0) (writes_by shapes (all_write byte)) (total_by a_total.0 a_total.1) (all_possible byte)

    module _ (y : ℕ) (y_in : y < length shapes) (fixed : IsFixed log shapes byte (shape_at shapes x).pos (Some (shape_at shapes y).pos)) where
      sees_all : (lt : ℕ → ℕ → Bool) → IsTotalAbove (length shapes) recorded lt → SeesNumber lt (all_write byte) y
      sees_all lt above =
          by_number lt (all_write byte) y y_in (fixed (before_by shapes lt) (writes_by shapes (all_write byte)) (total_by lt above) (all_possible byte))

      sees_others : (lt : ℕ → ℕ → Bool) → IsTotalAbove (length shapes) recorded lt → surely_writes byte (shape_at shapes y) ≡ false
          → SeesNumber lt (others_write byte y) y
      sees_others lt above f =
          by_number lt (others_write byte y) y y_in
          (fixed (before_by shapes lt) (writes_by shapes (others_write byte y)) (total_by lt above) (others_possible byte y f))

      is_sure : surely_writes byte (shape_at shapes y) ≡ true
      is_sure = go (cases_Bool (surely_writes byte (shape_at shapes y)))
        where
          go : (surely_writes byte (shape_at shapes y) ≡ true) ⊎ (surely_writes byte (shape_at shapes y) ≡ false) → surely_writes byte (shape_at shapes y) ≡ true
          go (inl e) = e
          go (inr f) =
              let seen = sees_others a_total.0 a_total.1 f in
              let other = (and_parts (may_write byte (shape_at shapes y)) (not (nat_eq y y)) seen.takes_place).1 in
              absurd (false≢true (sym (not_from_true (nat_eq y y) (eq-eqb y y refl)) ∙ other))

      apart_from_reader : y ≢ x
      apart_from_reader same =
          let seen = sees_all a_total.0 a_total.1 in
          false≢true (sym (a_total.1.strict.irreflexive x) ∙ subst (λ (k : ℕ). a_total.0 k x ≡ true) same seen.older)

      is_older : recorded y x ≡ true
      is_older = go (cases_Bool (recorded y x))
        where
          go : (recorded y x ≡ true) ⊎ (recorded y x ≡ false) → recorded y x ≡ true
          go (inl e) = e
          go (inr f) =
              let made = each_extends (length shapes) recorded told.strict x y (λ e. apart_from_reader (sym e)) f in
              let seen = sees_all made.0 made.1 in
              absurd (false≢true (sym (made.1.strict.irreflexive x) ∙ made.1.strict.transitive x y x made.2 seen.older))

      not_after_reader : recorded x y ≡ false
      not_after_reader = false_from_ne_true (recorded x y) (λ e. false≢true (sym (told.strict.irreflexive x) ∙ told.strict.transitive x y x e is_older))

      none_between : (z : ℕ) → z < length shapes → may_write byte (shape_at shapes z) ≡ true → (y ≡ z → ⊥) → recorded z y ≡ false → (z ≡ x → ⊥)
          → recorded x z ≡ false → ⊥
      none_between z z_in may from_y not_before from_x not_after =
          let made = some_between (length shapes) recorded told.strict y z x z_in x_in from_y not_before (λ e. apart_from_reader (sym e)) not_after_reader
          (λ e. from_x (sym e)) not_after in
          let seen = sees_all made.lt made.total in
          let back : made.lt z y ≡ true = seen.newest z z_in may made.second (λ e. from_y (sym e)) in
          false≢true (sym (made.total.strict.irreflexive y) ∙ made.total.strict.transitive y z y made.first back)

      is_passed_by : (z : ℕ) → z < length shapes → may_write byte (shape_at shapes z) ≡ true → is_passed recorded x y z ≡ true
      is_passed_by z z_in may = go (cases_Bool (is_after recorded z y)) (cases_Bool (is_after recorded x z))
        where
          none : is_after recorded z y ≡ false → is_after recorded x z ≡ false → ⊥
          none f g =
              none_between z z_in may (λ e. false≢true (sym f ∙ or_left (nat_eq y z) (recorded z y) (eq-eqb y z e)))
              (false_from_ne_true (recorded z y) (λ e. false≢true (sym f ∙ or_right (nat_eq y z) (recorded z y) e)))
              (λ e. false≢true (sym g ∙ or_left (nat_eq z x) (recorded x z) (eq-eqb z x e)))
              (false_from_ne_true (recorded x z) (λ e. false≢true (sym g ∙ or_right (nat_eq z x) (recorded x z) e)))

          go : (is_after recorded z y ≡ true) ⊎ (is_after recorded z y ≡ false) → (is_after recorded x z ≡ true) ⊎ (is_after recorded x z ≡ false)
              → is_passed recorded x y z ≡ true
          go (inl a) b = or_left (is_after recorded z y) (is_after recorded x z) a
          go (inr f) (inl b) = or_right (is_after recorded z y) (is_after recorded x z) b
          go (inr f) (inr g) = absurd (none f g)

      pub write_exact : IsWrite shapes recorded byte x y
      write_exact = record { within = y_in; writes = is_sure; older = is_older; passed = is_passed_by }
