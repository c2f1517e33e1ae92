-- The readings whose source is told are the read bytes with one source in every run.
use Rattle.std.proofs.Common.{◌≡◌, ◌↔◌, ℕ, ◌<◌, ◌⊎◌, Bool, true, List, length, Option, Some, None, refl, sym, ◌∙◌, ap, subst, inl, inr}
use Rattle.std.specs.Prelude.{Contains}
use Rattle.std.specs.List.{filter_map}
use Rattle.std.proofs.lemmas.Option.{same_Some, none-some}
use Rattle.odr_log.specs.declared.log.Log.{Log}
use Rattle.odr_log.specs.declared.log.Pos.{Pos}
use Rattle.race_set.specs.declared.reading.Reading.{Reading}
use Rattle.race_set.specs.declared.reading.Seen.{Seen}
use Rattle.race_set.specs.declared.shape.AccessShape.{AccessShape}
use Rattle.race_set.specs.declared.source.Source.{Source}
use Rattle.race_set.specs.declared.source.Source.TheVariants as source
use Rattle.race_set.specs.Bytes.{reads_byte}
use Rattle.race_set.specs.Accesses.{AreDifferent, shape_at}
use Rattle.race_set.specs.Places.{IsInitial, IsWrite, IsSource}
use Rattle.race_set.specs.Readings.{seen_from, IsReading, IsListed, AreReadings}
use Rattle.race_set.specs.Runs.{IsFixed}
use Rattle.race_set.specs.Races.{IsFixedReading}
use Rattle.race_set.proofs.NewestWrite.{surely_may, after_cases, never_back, not_after, passed_older}
use Rattle.race_set.proofs.Numbers.{listed_at, number_of_listed}
use Rattle.race_set.proofs.Recorded.{Tells}
use Rattle.race_set.proofs.FixedSources.{IsNumber, number_at, initial_fixed, write_fixed}
use Rattle.race_set.proofs.ExactSources.{a_run, initial_exact, write_exact}
use Rattle.race_set.proofs.Members.{from_filter_map, to_filter_map}

abbrev pub seen_at : List AccessShape → ℕ → ℕ → Option Pos → Seen
seen_at shapes reader byte writer = record { reader = (shape_at shapes reader).pos; byte = byte; from = writer }

same_seen : (s t : Seen) → s.reader ≡ t.reader → s.byte ≡ t.byte → s.from ≡ t.from → s ≡ t
same_seen s t e f g =
    ap (λ (p : Pos). let r : Seen = record { reader = p; byte = s.byte; from = s.from } in r) e
    ∙ ap (λ (b : ℕ). let r : Seen = record { reader = t.reader; byte = b; from = s.from } in r) f
    ∙ ap (λ (o : Option Pos). let r : Seen = record { reader = t.reader; byte = t.byte; from = o } in r) g

module _ (log : Log) (shapes : List AccessShape) (differ : AreDifferent shapes) (recorded : ℕ → ℕ → Bool) (told : Tells log shapes recorded) where
  -- no byte is the initial one and a write's
  not_both : (byte x y : ℕ) → IsInitial shapes recorded byte x → IsWrite shapes recorded byte x y → ⊥
  not_both byte x y initial write =
      not_after recorded told.strict x y write.older
      (after_cases recorded x y (initial y write.within (surely_may byte (shape_at shapes y) write.writes)))

  -- nor two writes'
  one_write : (byte x y z : ℕ) → IsWrite shapes recorded byte x y → IsWrite shapes recorded byte x z → z ≡ y
  one_write byte x y z one two =
      go (passed_older recorded told.strict x y z two.older (one.passed z two.within (surely_may byte (shape_at shapes z) two.writes)))
      (passed_older recorded told.strict x z y one.older (two.passed y one.within (surely_may byte (shape_at shapes y) one.writes)))
    where
      go : (y ≡ z) ⊎ (recorded z y ≡ true) → (z ≡ y) ⊎ (recorded y z ≡ true) → z ≡ y
      go (inl same) other = sym same
      go (inr before) (inl same) = same
      go (inr before) (inr back) = absurd (never_back recorded told.strict z y before back)

  -- the source of a reading is the one that is fixed
  told_by : (byte x : ℕ) → x < length shapes → (src : Source) → IsSource shapes recorded byte x src → (writer : Option Pos)
      → IsFixed log shapes byte (shape_at shapes x).pos writer → seen_from shapes x byte src ≡ Some (seen_at shapes x byte writer)
  told_by byte x x_in source.Initial is None fixed = refl
  told_by byte x x_in (source.Write z) is None fixed =
      absurd (not_both byte x z (initial_exact log shapes differ recorded told byte x x_in fixed) is)
  told_by byte x x_in source.Open is None fixed = absurd (is.0 (initial_exact log shapes differ recorded told byte x x_in fixed))
  told_by byte x x_in src is (Some p) fixed = go src is
    where
      at_p : (y : ℕ) × IsNumber shapes p y
      at_p = number_at shapes p (a_run log shapes differ recorded told byte x x_in p fixed).access

      write : IsWrite shapes recorded byte x at_p.0
      write =
          write_exact log shapes differ recorded told byte x x_in at_p.0 at_p.1.within
          (subst (λ (q : Pos). IsFixed log shapes byte (shape_at shapes x).pos (Some q)) (sym at_p.1.is) fixed)

      go : (t : Source) → IsSource shapes recorded byte x t → seen_from shapes x byte t ≡ Some (seen_at shapes x byte (Some p))
      go source.Initial initial = absurd (not_both byte x at_p.0 initial write)
      go (source.Write z) other =
          let same : (shape_at shapes z).pos ≡ p = ap (λ (k : ℕ). (shape_at shapes k).pos) (one_write byte x at_p.0 z write other) ∙ at_p.1.is in
          ap (λ (q : Pos). let s : Seen = record { reader = (shape_at shapes x).pos; byte = byte; from = Some q } in Some s) same
      go source.Open none = absurd (none.1 at_p.0 write)

  pub told_source : (r : Reading) → IsReading shapes recorded r → (writer : Option Pos) → IsFixed log shapes r.byte (shape_at shapes r.reader).pos writer
      → r.seen ≡ Some (seen_at shapes r.reader r.byte writer)
  told_source r is writer fixed = is.seen ∙ told_by r.byte r.reader is.within is.source (is.decided told.strict) writer fixed

  -- a reading has a fixed source, or it isn't told
  fixed_by : (byte x : ℕ) → x < length shapes → (src : Source) → IsSource shapes recorded byte x src
      → ((writer : Option Pos) × IsFixed log shapes byte (shape_at shapes x).pos writer) ⊎ (seen_from shapes x byte src ≡ None)
  fixed_by byte x x_in source.Initial is = inl (None, initial_fixed log shapes recorded told byte x x_in is)
  fixed_by byte x x_in (source.Write y) is = inl (Some (shape_at shapes y).pos, write_fixed log shapes recorded told byte x x_in y is)
  fixed_by byte x x_in source.Open is = inr refl

  pub unfixed_untold : (r : Reading) → IsReading shapes recorded r
      → ((writer : Option Pos) → IsFixed log shapes r.byte (shape_at shapes r.reader).pos writer → ⊥) → r.seen ≡ None
  unfixed_untold r is never = go (fixed_by r.byte r.reader is.within is.source (is.decided told.strict))
    where
      go : ((writer : Option Pos) × IsFixed log shapes r.byte (shape_at shapes r.reader).pos writer) ⊎ (seen_from shapes r.reader r.byte is.source ≡ None) → r.seen ≡ None
      go (inl fixed) = absurd (never fixed.0 fixed.1)
      go (inr e) = is.seen ∙ e

  pub untold_unfixed : (r : Reading) → IsReading shapes recorded r → r.seen ≡ None → (writer : Option Pos)
      → IsFixed log shapes r.byte (shape_at shapes r.reader).pos writer → ⊥
  untold_unfixed r is none writer fixed = none-some (seen_at shapes r.reader r.byte writer) (sym none ∙ told_source r is writer fixed)

  -- what is seen from a source is fixed
  seen_fixed : (byte x : ℕ) → x < length shapes → reads_byte byte (shape_at shapes x) ≡ true → (src : Source) → IsSource shapes recorded byte x src → (s : Seen)
      → seen_from shapes x byte src ≡ Some s → IsFixedReading log shapes s
  seen_fixed byte x x_in reads source.Initial is s e =
      let t : Seen = record { reader = (shape_at shapes x).pos; byte = byte; from = None } in
      subst (λ (v : Seen). IsFixedReading log shapes v) (same_Some t s e)
      (record { reader = shape_at shapes x; listed = listed_at shapes x x_in; is = refl; reads = reads; fixed = initial_fixed log shapes recorded told byte x x_in is })
  seen_fixed byte x x_in reads (source.Write y) is s e =
      let t : Seen = record { reader = (shape_at shapes x).pos; byte = byte; from = Some (shape_at shapes y).pos } in
      subst (λ (v : Seen). IsFixedReading log shapes v) (same_Some t s e)
      (record { reader = shape_at shapes x; listed = listed_at shapes x x_in; is = refl; reads = reads; fixed = write_fixed log shapes recorded told byte x x_in y is })
  seen_fixed byte x x_in reads source.Open is s e = absurd (none-some s e)

  module _ (readings : List Reading) (are : AreReadings shapes recorded readings) where
    sound : (s : Seen) → Contains (filter_map (λ (r : Reading). r.seen) readings) s → IsFixedReading log shapes s
    sound s h =
        let part = from_filter_map (λ (r : Reading). r.seen) readings s h in
        let is : IsReading shapes recorded part.0 = are.only part.0 part.1 in
        seen_fixed part.0.byte part.0.reader is.within is.reads is.source (is.decided told.strict) s (sym is.seen ∙ part.2)

    complete : (s : Seen) → IsFixedReading log shapes s → Contains (filter_map (λ (r : Reading). r.seen) readings) s
    complete s f = go (number_of_listed shapes f.reader f.listed)
      where
        go : (x : ℕ) × (x < length shapes) × (shape_at shapes x ≡ f.reader) → Contains (filter_map (λ (r : Reading). r.seen) readings) s
        go x = at_reading (are.each x.0 s.byte x.1 (subst (λ (z : AccessShape). reads_byte s.byte z ≡ true) (sym x.2) f.reads))
          where
            at_reading : IsListed readings x.0 s.byte → Contains (filter_map (λ (r : Reading). r.seen) readings) s
            at_reading l =
                let r : Reading = l.0 in
                let here : (shape_at shapes r.reader).pos ≡ s.reader = ap (λ (k : ℕ). (shape_at shapes k).pos) l.2 ∙ ap (λ (z : AccessShape). z.pos) x.2 ∙ f.is in
                let moved : IsFixed log shapes r.byte s.reader s.from = subst (λ (b : ℕ). IsFixed log shapes b s.reader s.from) (sym l.3) f.fixed in
                let fixed : IsFixed log shapes r.byte (shape_at shapes r.reader).pos s.from = subst (λ (p : Pos). IsFixed log shapes r.byte p s.from) (sym here) moved in
                let same : seen_at shapes r.reader r.byte s.from ≡ s = same_seen (seen_at shapes r.reader r.byte s.from) s here l.3 refl in
                to_filter_map (λ (t : Reading). t.seen) readings r s l.1 (told_source r (are.only r l.1) s.from fixed ∙ ap (λ (v : Seen). Some v) same)

    pub seen_exactly : (seen : List Seen) → seen ≡ filter_map (λ (r : Reading). r.seen) readings → (s : Seen) → Contains seen s ↔ IsFixedReading log shapes s
    seen_exactly seen e s = (
      λ h. sound s (subst (λ (ss : List Seen). Contains ss s) e h),
      λ f. subst (λ (ss : List Seen). Contains ss s) (sym e) (complete s f),
    )
