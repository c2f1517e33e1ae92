-- Seen bytes stand in the order of the readings, each once.
use Rattle.std.proofs.Common.{◌≡◌, ◌≢◌, ℕ, Bool, List, get_or, Option, Some, None, sym, ◌∙◌, ap, subst, arith}
use Rattle.std.specs.Prelude.{AllPairs}
use Rattle.std.specs.List.{filter_map}
use Rattle.std.proofs.lemmas.Option.{same_Some, none-some}
use Rattle.std.proofs.lemmas.List.Elements.{Contains-get_or}
use Rattle.odr_log.specs.declared.log.Pos.{Pos}
use Rattle.race_set.specs.declared.reading.Reading.{Reading}
use Rattle.race_set.specs.declared.reading.Seen.{Seen}
use Rattle.race_set.specs.declared.shape.AccessShape.{AccessShape}
use Rattle.race_set.specs.declared.source.Source.{Source}
use Rattle.race_set.specs.declared.source.Source.TheVariants as source
use Rattle.race_set.specs.Accesses.{AreDifferent, shape_at}
use Rattle.race_set.specs.Readings.{seen_from, IsReading, AreReadings, IsByteAt, IsReadBefore, IsSeenBefore}
use Rattle.race_set.proofs.Numbers.{same_number}
use Rattle.race_set.proofs.Members.{pairs_filter_map}

-- what is seen is seen of the reading's byte
record Names (shapes : List AccessShape) (reader byte : ℕ) (s : Seen) : Type 0 where
  reader_is : (shape_at shapes reader).pos ≡ s.reader
  byte_is : byte ≡ s.byte

names_by : (shapes : List AccessShape) (reader byte : ℕ) (from : Option Pos) (s : Seen)
    → (let t : Seen = record { reader = (shape_at shapes reader).pos; byte = byte; from = from } in t) ≡ s → Names shapes reader byte s
names_by shapes reader byte from s e = record { reader_is = ap (λ (t : Seen). t.reader) e; byte_is = ap (λ (t : Seen). t.byte) e }

names : (shapes : List AccessShape) (reader byte : ℕ) (src : Source) (s : Seen) → seen_from shapes reader byte src ≡ Some s → Names shapes reader byte s
names shapes reader byte source.Initial s e =
    names_by shapes reader byte None s (same_Some (record { reader = (shape_at shapes reader).pos; byte = byte; from = None }) s e)
names shapes reader byte (source.Write writer) s e =
    names_by shapes reader byte (Some (shape_at shapes writer).pos) s
    (same_Some (record { reader = (shape_at shapes reader).pos; byte = byte; from = Some (shape_at shapes writer).pos }) s e)
names shapes reader byte source.Open s e = absurd (none-some s e)

module _ (shapes : List AccessShape) (recorded : ℕ → ℕ → Bool) where
  names_reading : (r : Reading) (s : Seen) → IsReading shapes recorded r → r.seen ≡ Some s → Names shapes r.reader r.byte s
  names_reading r s is e = names shapes r.reader r.byte is.source s (sym is.seen ∙ e)

  -- two readings in their order
  record InOrder (q r : Reading) : Type 0 where
    first : IsReading shapes recorded q
    second : IsReading shapes recorded r
    before : IsReadBefore shapes q r

  in_order : (readings : List Reading) → AreReadings shapes recorded readings → AllPairs (IsReadBefore shapes) readings → AllPairs InOrder readings
  in_order readings are pairs i j d less j_in =
      record {
        first = are.only (get_or readings i d) (Contains-get_or readings i d (omega (arith, less, j_in)));
        second = are.only (get_or readings j d) (Contains-get_or readings j d j_in);
        before = pairs i j d less j_in;
      }

  seen_before : (q r : Reading) (s t : Seen) → InOrder q r → q.seen ≡ Some s → r.seen ≡ Some t → IsSeenBefore shapes s t
  seen_before q r s t o e f =
      let one = names_reading q s o.first e in
      let two = names_reading r t o.second f in
      record {
        reader = q.reader;
        other = r.reader;
        reader_in = o.first.within;
        other_in = o.second.within;
        reader_is = one.reader_is;
        other_is = two.reader_is;
        number = o.before.number;
        next = o.before.next;
        first = subst (λ (b : ℕ). IsByteAt shapes q.reader b o.before.number) one.byte_is o.before.first;
        second = subst (λ (b : ℕ). IsByteAt shapes r.reader b o.before.next) two.byte_is o.before.second;
        before = o.before.before;
      }

  seen_once : AreDifferent shapes → (q r : Reading) (s t : Seen) → InOrder q r → q.seen ≡ Some s → r.seen ≡ Some t → s.reader ≡ t.reader → s.byte ≢ t.byte
  seen_once differ q r s t o e f readers bytes =
      let one = names_reading q s o.first e in
      let two = names_reading r t o.second f in
      o.before.differ
      (same_number shapes differ q.reader r.reader o.first.within o.second.within (one.reader_is ∙ readers ∙ sym two.reader_is))
      (one.byte_is ∙ bytes ∙ sym two.byte_is)

  module _ (readings slice : List Reading) (are : AreReadings shapes recorded readings) (pairs : AllPairs (IsReadBefore shapes) readings)
      (same : slice ≡ readings) (seen : List Seen) (found : seen ≡ filter_map (λ (r : Reading). r.seen) slice) where
    found_so : filter_map (λ (r : Reading). r.seen) readings ≡ seen
    found_so = sym (found ∙ ap (λ (rs : List Reading). filter_map (λ (r : Reading). r.seen) rs) same)

    pub seen_ordered : AllPairs (IsSeenBefore shapes) seen
    seen_ordered =
        subst (λ (ss : List Seen). AllPairs (IsSeenBefore shapes) ss) found_so
        (pairs_filter_map InOrder (IsSeenBefore shapes) (λ (r : Reading). r.seen) seen_before readings (in_order readings are pairs))

    pub seen_apart : AreDifferent shapes → AllPairs (λ (s t : Seen). s.reader ≡ t.reader → s.byte ≢ t.byte) seen
    seen_apart differ =
        subst (λ (ss : List Seen). AllPairs (λ (s t : Seen). s.reader ≡ t.reader → s.byte ≢ t.byte) ss) found_so
        (pairs_filter_map InOrder (λ (s t : Seen). s.reader ≡ t.reader → s.byte ≢ t.byte) (λ (r : Reading). r.seen) (seen_once differ) readings
        (in_order readings are pairs))
