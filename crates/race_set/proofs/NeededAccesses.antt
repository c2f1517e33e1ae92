-- The accesses that are found to need an order are those on whose order anything that isn't fixed depends.
use Rattle.std.proofs.Common.{◌≡◌, ◌↔◌, ℕ, ◌<◌, ◌⊎◌, Bool, true, not, ◌&&◌, ◌||◌, List, length, Option, Some, None, refl, sym, ◌∙◌, ap, subst, inl, inr}
use Rattle.std.specs.Prelude.{nat_eq, is_none, Contains}
use Rattle.std.specs.List.{list_any}
use Rattle.std.proofs.lemmas.Bool.{false≢true, and_parts, and_from, or_cases, or_left, or_right, not-true, not_from_false, false_from_ne_true, eqb-true, eq-eqb}
use Rattle.odr_log.specs.declared.log.Log.{Log}
use Rattle.odr_log.specs.declared.log.Pos.{Pos}
use Rattle.rv_model.specs.RecordedOrder.{IsOpen}
use Rattle.race_set.specs.declared.outcome.Outcome.{Outcome}
use Rattle.race_set.specs.declared.reading.Reading.{Reading}
use Rattle.race_set.specs.declared.reading.Seen.{Seen}
use Rattle.race_set.specs.declared.shape.AccessShape.{AccessShape}
use Rattle.race_set.specs.declared.shape.Span.{Span}
use Rattle.race_set.specs.Bytes.{reads_byte, is_unplaced_reader, may_write, may_write_word}
use Rattle.race_set.specs.Accesses.{AreDifferent, shape_at}
use Rattle.race_set.specs.Readings.{is_raced_by, IsReading, IsListed, AreReadings}
use Rattle.race_set.specs.Outcomes.{has_part, is_open_at, IsOpenOutcome, AreOutcomes}
use Rattle.race_set.specs.Needs.{is_raced, is_searched, has_outcome, is_needed, AreNeeded}
use Rattle.race_set.specs.Runs.{IsFixed}
use Rattle.race_set.specs.Races.{IsRaced, IsSearched, IsOpenPair, HasOpenOutcome, NeedsOrder, NeedsOrderAt}
use Rattle.race_set.proofs.Numbers.{listed_at, number_of_listed, same_number}
use Rattle.race_set.proofs.Recorded.{Tells}
use Rattle.race_set.proofs.Members.{from_any, to_any}
use Rattle.race_set.proofs.SeenBytes.{unfixed_untold, untold_unfixed}

seen_none : (o : Option Seen) → is_none o ≡ true → o ≡ None
seen_none None e = refl
seen_none (Some s) e = absurd (false≢true e)

none_seen : (o : Option Seen) → o ≡ None → is_none o ≡ true
none_seen o e = ap (λ (x : Option Seen). is_none x) e

module _ (log : Log) (shapes : List AccessShape) (differ : AreDifferent shapes) (recorded : ℕ → ℕ → Bool) (told : Tells log shapes recorded) where
  -- ---- open with another access

  open_from : (i j : ℕ) → i < length shapes → j < length shapes → is_open_at shapes recorded i j ≡ true → IsOpen log (shape_at shapes i).pos (shape_at shapes j).pos
  open_from i j i_in j_in e =
      let same : Bool = nat_eq (shape_at shapes i).pos.thread (shape_at shapes j).pos.thread in
      let outer = and_parts (not same) (not (recorded i j) && not (recorded j i)) e in
      let inner = and_parts (not (recorded i j)) (not (recorded j i)) outer.1 in
      record {
        apart =
            λ t.
            false≢true
            (sym (not-true same outer.0) ∙ eq-eqb (shape_at shapes i).pos.thread (shape_at shapes j).pos.thread t);
        unordered = λ order. false≢true (sym (not-true (recorded i j) inner.0) ∙ told.said i j i_in j_in order);
        unordered_back = λ order. false≢true (sym (not-true (recorded j i) inner.1) ∙ told.said j i j_in i_in order);
      }

  open_to : (i j : ℕ) → IsOpen log (shape_at shapes i).pos (shape_at shapes j).pos → is_open_at shapes recorded i j ≡ true
  open_to i j o =
      let same : Bool = nat_eq (shape_at shapes i).pos.thread (shape_at shapes j).pos.thread in
      and_from (not same) (not (recorded i j) && not (recorded j i))
      (not_from_false same (false_from_ne_true same (λ e. o.apart (eqb-true (shape_at shapes i).pos.thread (shape_at shapes j).pos.thread e))))
      (and_from (not (recorded i j)) (not (recorded j i))
      (not_from_false (recorded i j) (false_from_ne_true (recorded i j) (λ e. o.unordered (told.says i j e))))
      (not_from_false (recorded j i) (false_from_ne_true (recorded j i) (λ e. o.unordered_back (told.says j i e)))))

  module _ (readings : List Reading) (are : AreReadings shapes recorded readings) (outcomes : List Outcome)
      (opens : AreOutcomes shapes recorded (length shapes) outcomes) (i : ℕ) (i_in : i < length shapes) where
    -- the same access by its number, where it is listed
    number_is : (z : AccessShape) (k : ℕ) → k < length shapes → shape_at shapes k ≡ z → shape_at shapes i ≡ z → k ≡ i
    number_is z k k_in e f = same_number shapes differ k i k_in i_in (ap (λ (t : AccessShape). t.pos) (e ∙ sym f))

    -- ---- raced bytes

    raced_from : is_raced readings i (shape_at shapes i) ≡ true → IsRaced log shapes (shape_at shapes i)
    raced_from e =
        let some = from_any (λ (r : Reading). is_raced_by r i (shape_at shapes i)) readings e in
        let r : Reading = some.0 in
        let is : IsReading shapes recorded r = are.only r some.1 in
        let parts = and_parts (is_none r.seen) (nat_eq r.reader i || may_write r.byte (shape_at shapes i)) some.2 in
        record {
          byte = r.byte;
          reader = shape_at shapes r.reader;
          listed = listed_at shapes r.reader is.within;
          reads = is.reads;
          unfixed = untold_unfixed log shapes differ recorded told r is (seen_none r.seen parts.0);
          part = part r (or_cases (nat_eq r.reader i) (may_write r.byte (shape_at shapes i)) parts.1);
        }
      where
        part : (r : Reading) → (nat_eq r.reader i ≡ true) ⊎ (may_write r.byte (shape_at shapes i) ≡ true)
            → (shape_at shapes i ≡ shape_at shapes r.reader) ⊎ (may_write r.byte (shape_at shapes i) ≡ true)
        part r (inl same) = inl (ap (λ (k : ℕ). shape_at shapes k) (sym (eqb-true r.reader i same)))
        part r (inr w) = inr w

    raced_to : IsRaced log shapes (shape_at shapes i) → is_raced readings i (shape_at shapes i) ≡ true
    raced_to raced = go (number_of_listed shapes raced.reader raced.listed)
      where
        go : (x : ℕ) × (x < length shapes) × (shape_at shapes x ≡ raced.reader) → is_raced readings i (shape_at shapes i) ≡ true
        go x = at_reading (are.each x.0 raced.byte x.1 (subst (λ (z : AccessShape). reads_byte raced.byte z ≡ true) (sym x.2) raced.reads))
          where
            at_reading : IsListed readings x.0 raced.byte → is_raced readings i (shape_at shapes i) ≡ true
            at_reading l =
                let r : Reading = l.0 in
                to_any (λ (t : Reading). is_raced_by t i (shape_at shapes i)) readings r l.1
                (and_from (is_none r.seen) (nat_eq r.reader i || may_write r.byte (shape_at shapes i)) (none_seen r.seen untold) (pick raced.part))
              where
                place : (shape_at shapes l.0.reader).pos ≡ raced.reader.pos
                place = ap (λ (k : ℕ). (shape_at shapes k).pos) l.2 ∙ ap (λ (z : AccessShape). z.pos) x.2

                untold : l.0.seen ≡ None
                untold =
                    unfixed_untold log shapes differ recorded told l.0 (are.only l.0 l.1)
                    (λ writer fixed.
                    raced.unfixed writer
                    (subst (λ (b : ℕ). IsFixed log shapes b raced.reader.pos writer) l.3
                    (subst (λ (p : Pos). IsFixed log shapes l.0.byte p writer) place fixed)))

                pick : (shape_at shapes i ≡ raced.reader) ⊎ (may_write raced.byte (shape_at shapes i) ≡ true)
                    → (nat_eq l.0.reader i || may_write l.0.byte (shape_at shapes i)) ≡ true
                pick (inl same) =
                    or_left (nat_eq l.0.reader i) (may_write l.0.byte (shape_at shapes i))
                    (eq-eqb l.0.reader i (l.2 ∙ number_is raced.reader x.0 x.1 x.2 same))
                pick (inr w) =
                    or_right (nat_eq l.0.reader i) (may_write l.0.byte (shape_at shapes i))
                    (subst (λ (b : ℕ). may_write b (shape_at shapes i) ≡ true) (sym l.3) w)

    -- ---- readers at unknown addresses

    searched_from : is_searched shapes (shape_at shapes i) ≡ true → IsSearched shapes (shape_at shapes i)
    searched_from e =
        go (or_cases (is_unplaced_reader (shape_at shapes i)) ((shape_at shapes i).writes && list_any is_unplaced_reader shapes) e)
      where
        go : (is_unplaced_reader (shape_at shapes i) ≡ true) ⊎ (((shape_at shapes i).writes && list_any is_unplaced_reader shapes) ≡ true)
            → IsSearched shapes (shape_at shapes i)
        go (inl own) = record { reader = shape_at shapes i; listed = listed_at shapes i i_in; unplaced = own; part = inl refl }
        go (inr both) =
            let parts = and_parts (shape_at shapes i).writes (list_any is_unplaced_reader shapes) both in
            let some = from_any is_unplaced_reader shapes parts.1 in
            record { reader = some.0; listed = some.1; unplaced = some.2; part = inr parts.0 }

    searched_to : IsSearched shapes (shape_at shapes i) → is_searched shapes (shape_at shapes i) ≡ true
    searched_to s = go s.part
      where
        go : (shape_at shapes i ≡ s.reader) ⊎ ((shape_at shapes i).writes ≡ true) → is_searched shapes (shape_at shapes i) ≡ true
        go (inl same) =
            or_left (is_unplaced_reader (shape_at shapes i)) ((shape_at shapes i).writes && list_any is_unplaced_reader shapes)
            (subst (λ (z : AccessShape). is_unplaced_reader z ≡ true) (sym same) s.unplaced)
        go (inr w) =
            or_right (is_unplaced_reader (shape_at shapes i)) ((shape_at shapes i).writes && list_any is_unplaced_reader shapes)
            (and_from (shape_at shapes i).writes (list_any is_unplaced_reader shapes) w (to_any is_unplaced_reader shapes s.reader s.listed s.unplaced))

    -- ---- open outcomes

    pair_of : (o : Outcome) → IsOpenOutcome shapes recorded o → IsOpenPair log shapes (shape_at shapes o.conditional) (shape_at shapes o.reserved)
    pair_of o is =
        let z : ℕ = is.disturbed.0 in
        let parts = and_parts (may_write_word o.place (shape_at shapes is.disturbed.0))
        (is_open_at shapes recorded is.disturbed.0 o.conditional || is_open_at shapes recorded is.disturbed.0 o.reserved) is.disturbed.2 in
        record {
          conditional_listed = listed_at shapes o.conditional is.conditional;
          reserved_listed = listed_at shapes o.reserved is.reserved;
          link = is.link;
          other = shape_at shapes is.disturbed.0;
          other_listed = listed_at shapes is.disturbed.0 is.disturbed.1;
          writes = subst (λ (p : Option Span). may_write_word p (shape_at shapes is.disturbed.0) ≡ true) is.place parts.0;
          unordered = go (or_cases (is_open_at shapes recorded is.disturbed.0 o.conditional) (is_open_at shapes recorded is.disturbed.0 o.reserved) parts.1);
        }
      where
        go : (is_open_at shapes recorded is.disturbed.0 o.conditional ≡ true) ⊎ (is_open_at shapes recorded is.disturbed.0 o.reserved ≡ true)
            → IsOpen log (shape_at shapes is.disturbed.0).pos (shape_at shapes o.conditional).pos
            ⊎ IsOpen log (shape_at shapes is.disturbed.0).pos (shape_at shapes o.reserved).pos
        go (inl a) = inl (open_from is.disturbed.0 o.conditional is.disturbed.1 is.conditional a)
        go (inr b) = inr (open_from is.disturbed.0 o.reserved is.disturbed.1 is.reserved b)

    outcome_from : has_outcome outcomes i (shape_at shapes i) ≡ true → HasOpenOutcome log shapes (shape_at shapes i)
    outcome_from e =
        let some = from_any (λ (o : Outcome). has_part o i (shape_at shapes i)) outcomes e in
        let is : IsOpenOutcome shapes recorded some.0 = opens.only some.0 some.1 in
        record {
          conditional = shape_at shapes some.0.conditional;
          reserved = shape_at shapes some.0.reserved;
          pair = pair_of some.0 is;
          part =
              part some.0 is
              (or_cases (nat_eq some.0.conditional i) (nat_eq some.0.reserved i || may_write_word some.0.place (shape_at shapes i)) some.2);
        }
      where
        later_part : (o : Outcome) → IsOpenOutcome shapes recorded o → (nat_eq o.reserved i ≡ true) ⊎ (may_write_word o.place (shape_at shapes i) ≡ true)
            → (shape_at shapes i ≡ shape_at shapes o.reserved) ⊎ (may_write_word (shape_at shapes o.reserved).place (shape_at shapes i) ≡ true)
        later_part o is (inl same) = inl (ap (λ (k : ℕ). shape_at shapes k) (sym (eqb-true o.reserved i same)))
        later_part o is (inr w) = inr (subst (λ (p : Option Span). may_write_word p (shape_at shapes i) ≡ true) is.place w)

        part : (o : Outcome) → IsOpenOutcome shapes recorded o
            → (nat_eq o.conditional i ≡ true) ⊎ ((nat_eq o.reserved i || may_write_word o.place (shape_at shapes i)) ≡ true)
            → (shape_at shapes i ≡ shape_at shapes o.conditional)
            ⊎ ((shape_at shapes i ≡ shape_at shapes o.reserved) ⊎ (may_write_word (shape_at shapes o.reserved).place (shape_at shapes i) ≡ true))
        part o is (inl same) = inl (ap (λ (k : ℕ). shape_at shapes k) (sym (eqb-true o.conditional i same)))
        part o is (inr other) = inr (later_part o is (or_cases (nat_eq o.reserved i) (may_write_word o.place (shape_at shapes i)) other))

    outcome_to : HasOpenOutcome log shapes (shape_at shapes i) → has_outcome outcomes i (shape_at shapes i) ≡ true
    outcome_to h =
        go (number_of_listed shapes h.conditional h.pair.conditional_listed) (number_of_listed shapes h.reserved h.pair.reserved_listed)
        (number_of_listed shapes h.pair.other h.pair.other_listed)
      where
        go : (c : ℕ) × (c < length shapes) × (shape_at shapes c ≡ h.conditional) → (v : ℕ) × (v < length shapes) × (shape_at shapes v ≡ h.reserved)
            → (z : ℕ) × (z < length shapes) × (shape_at shapes z ≡ h.pair.other) → has_outcome outcomes i (shape_at shapes i) ≡ true
        go c v z =
            let o : Outcome = record { conditional = c.0; reserved = v.0; place = (shape_at shapes v.0).place } in
            to_any (λ (t : Outcome). has_part t i (shape_at shapes i)) outcomes o (opens.each differ o c.1 is) (has h.part)
          where
            opened : IsOpen log h.pair.other.pos h.conditional.pos ⊎ IsOpen log h.pair.other.pos h.reserved.pos
                → (is_open_at shapes recorded z.0 c.0 || is_open_at shapes recorded z.0 v.0) ≡ true
            opened (inl a) =
                or_left (is_open_at shapes recorded z.0 c.0) (is_open_at shapes recorded z.0 v.0)
                (open_to z.0 c.0
                (subst (λ (t : AccessShape). IsOpen log t.pos (shape_at shapes c.0).pos) (sym z.2)
                (subst (λ (t : AccessShape). IsOpen log h.pair.other.pos t.pos) (sym c.2) a)))
            opened (inr b) =
                or_right (is_open_at shapes recorded z.0 c.0) (is_open_at shapes recorded z.0 v.0)
                (open_to z.0 v.0
                (subst (λ (t : AccessShape). IsOpen log t.pos (shape_at shapes v.0).pos) (sym z.2)
                (subst (λ (t : AccessShape). IsOpen log h.pair.other.pos t.pos) (sym v.2) b)))

            is : IsOpenOutcome shapes recorded (record { conditional = c.0; reserved = v.0; place = (shape_at shapes v.0).place })
            is =
                record {
                  conditional = c.1;
                  reserved = v.1;
                  place = refl;
                  link =
                      subst (λ (t : AccessShape). t.link ≡ Some (shape_at shapes v.0).pos) (sym c.2)
                      (subst (λ (t : AccessShape). h.conditional.link ≡ Some t.pos) (sym v.2) h.pair.link);
                  disturbed = (
                    z.0,
                    z.1,
                    and_from (may_write_word (shape_at shapes v.0).place (shape_at shapes z.0)) (is_open_at shapes recorded z.0 c.0 || is_open_at shapes recorded z.0 v.0)
                        (subst (λ (t : AccessShape). may_write_word (shape_at shapes v.0).place t ≡ true) (sym z.2)
                        (subst (λ (t : AccessShape). may_write_word t.place h.pair.other ≡ true) (sym v.2) h.pair.writes))
                        (opened h.pair.unordered),
                  );
                }

            has : (shape_at shapes i ≡ h.conditional) ⊎ ((shape_at shapes i ≡ h.reserved) ⊎ (may_write_word h.reserved.place (shape_at shapes i) ≡ true))
                → (nat_eq c.0 i || (nat_eq v.0 i || may_write_word (shape_at shapes v.0).place (shape_at shapes i))) ≡ true
            has (inl same) =
                or_left (nat_eq c.0 i) (nat_eq v.0 i || may_write_word (shape_at shapes v.0).place (shape_at shapes i))
                (eq-eqb c.0 i (number_is h.conditional c.0 c.1 c.2 same))
            has (inr (inl same)) =
                or_right (nat_eq c.0 i) (nat_eq v.0 i || may_write_word (shape_at shapes v.0).place (shape_at shapes i))
                (or_left (nat_eq v.0 i) (may_write_word (shape_at shapes v.0).place (shape_at shapes i)) (eq-eqb v.0 i (number_is h.reserved v.0 v.1 v.2 same)))
            has (inr (inr w)) =
                or_right (nat_eq c.0 i) (nat_eq v.0 i || may_write_word (shape_at shapes v.0).place (shape_at shapes i))
                (or_right (nat_eq v.0 i) (may_write_word (shape_at shapes v.0).place (shape_at shapes i))
                (subst (λ (t : AccessShape). may_write_word t.place (shape_at shapes i) ≡ true) (sym v.2) w))

    -- ---- any of the three

    pub needs_from : is_needed shapes readings outcomes i ≡ true → NeedsOrder log shapes (shape_at shapes i)
    needs_from e =
        first (or_cases (is_raced readings i (shape_at shapes i)) (is_searched shapes (shape_at shapes i) || has_outcome outcomes i (shape_at shapes i)) e)
      where
        second : (is_searched shapes (shape_at shapes i) ≡ true) ⊎ (has_outcome outcomes i (shape_at shapes i) ≡ true)
            → IsSearched shapes (shape_at shapes i) ⊎ HasOpenOutcome log shapes (shape_at shapes i)
        second (inl b) = inl (searched_from b)
        second (inr c) = inr (outcome_from c)

        first : (is_raced readings i (shape_at shapes i) ≡ true)
            ⊎ ((is_searched shapes (shape_at shapes i) || has_outcome outcomes i (shape_at shapes i)) ≡ true) → NeedsOrder log shapes (shape_at shapes i)
        first (inl a) = inl (raced_from a)
        first (inr d) = inr (second (or_cases (is_searched shapes (shape_at shapes i)) (has_outcome outcomes i (shape_at shapes i)) d))

    pub needs_to : NeedsOrder log shapes (shape_at shapes i) → is_needed shapes readings outcomes i ≡ true
    needs_to (inl a) =
        or_left (is_raced readings i (shape_at shapes i)) (is_searched shapes (shape_at shapes i) || has_outcome outcomes i (shape_at shapes i)) (raced_to a)
    needs_to (inr (inl b)) =
        or_right (is_raced readings i (shape_at shapes i)) (is_searched shapes (shape_at shapes i) || has_outcome outcomes i (shape_at shapes i))
        (or_left (is_searched shapes (shape_at shapes i)) (has_outcome outcomes i (shape_at shapes i)) (searched_to b))
    needs_to (inr (inr c)) =
        or_right (is_raced readings i (shape_at shapes i)) (is_searched shapes (shape_at shapes i) || has_outcome outcomes i (shape_at shapes i))
        (or_right (is_searched shapes (shape_at shapes i)) (has_outcome outcomes i (shape_at shapes i)) (outcome_to c))

  pub needed_exactly : (readings : List Reading) → AreReadings shapes recorded readings → (outcomes : List Outcome)
      → AreOutcomes shapes recorded (length shapes) outcomes → (ordered : List Pos)
      → AreNeeded shapes (is_needed shapes readings outcomes) (length shapes) ordered → (p : Pos) → Contains ordered p ↔ NeedsOrderAt log shapes p
  needed_exactly readings are outcomes opens ordered needed p = (
    λ h.
        let o = needed.only p h in
        record {
          access = shape_at shapes o.0;
          listed = listed_at shapes o.0 o.1;
          is = o.3;
          needs = needs_from readings are outcomes opens o.0 o.1 o.2;
        },
    λ need.
        let n = number_of_listed shapes need.access need.listed in
        subst (λ (q : Pos). Contains ordered q) (ap (λ (z : AccessShape). z.pos) n.2 ∙ need.is)
        (needed.each n.0 n.1
        (needs_to readings are outcomes opens n.0 n.1 (subst (λ (z : AccessShape). NeedsOrder log shapes z) (sym n.2) need.needs))),
  )
