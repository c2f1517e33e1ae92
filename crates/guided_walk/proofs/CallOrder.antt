-- Along a schedule that keeps the recorded order, the calls are the records of the log in their order.
use Rattle.std.specs.Prelude.{◌≡◌, ℕ, zero, suc, ◌<◌, ◌≤◌, List, [], ◌∷◌, ◌++◌, map, drop, slice_get, Option, Some, None, refl}
use Rattle.std.proofs.Common.{sym, ◌∙◌, ap, arith, inl, inr}
use Rattle.std.proofs.lemmas.Bool.{cases_lt}
use Rattle.std.proofs.lemmas.List.{append_assoc, append-nil}
use Rattle.std.proofs.lemmas.Option.{none-some, same_Some}
use Rattle.elf_image.specs.Layout.{Layout}
use Rattle.odr_log.specs.declared.log.Call.{Call}
use Rattle.odr_log.specs.declared.log.CallRec.{CallRec}
use Rattle.odr_log.specs.declared.log.Log.{Log}
use Rattle.odr_log.specs.declared.log.Pos.{Pos}
use Rattle.rv_model.specs.declared.state.Event.{Event}
use Rattle.rv_model.specs.declared.state.Note.{Note}
use Rattle.rv_model.specs.declared.state.Note.TheVariants as note
use Rattle.rv_model.specs.Run.{record_in, records_of, cons_some}
use Rattle.rv_model.specs.Walk.{Walk, IsWalk}
use Rattle.rv_model.specs.CallsFit.{CallsFit}
use Rattle.rv_model.specs.RecordedOrder.{One, Counted, ByCalls, RecordedOrder}
use Rattle.guided_walk.specs.Told.{Told, told, place_of, noted}
use Rattle.guided_walk.specs.Orders.{In, Keeps, Distinct}
use Rattle.guided_walk.specs.Schedules.{next_of, places_after}
use Rattle.guided_walk.proofs.Along.{Next}
use Rattle.guided_walk.proofs.Table.{Apart, apart_push}
use Rattle.guided_walk.proofs.Walks.{called, called_is}
use Rattle.guided_walk.proofs.Records.{Among, among_at, at_among, rec, same_number}
use Rattle.guided_walk.proofs.Facts.{in_log, notes_counted, place_called, CalledAt, called_place, called_noted}
use Rattle.guided_walk.proofs.Logged.{told_event, events_along}
use Rattle.guided_walk.proofs.Whole.{all_done}

pub events_all : (told : Told) (done : List Pos) (schedule : List ℕ) → events_along told (all_done done schedule) ≡ events_along told done ++ map (told_event told) (places_after done schedule)
events_all told done [] = sym (append-nil (events_along told done))
events_all told done (t ∷ schedule) =
    events_all told (Next t done) schedule
    ∙ append_assoc (events_along told done) (told_event told (next_of t done) ∷ []) (map (told_event told) (places_after (Next t done) schedule))

-- a record's step is counted
pub record_counted : (image : Layout) (log : Log) (walk : Walk) → IsWalk image log walk → (r : CallRec) → Among r log.calls → Counted log (place_of r)
record_counted image log walk is r has =
    let here : CalledAt log walk r = called_place image log walk is r has in
    omega (arith, here.within, notes_counted image log walk is r.tid (in_log image log walk is r.tid r.at here.within))

-- an earlier record's step is recorded before a later one's
pub calls_ordered : (image : Layout) (log : Log) (walk : Walk) → IsWalk image log walk → (m n : ℕ) (r s : CallRec) → slice_get log.calls m ≡ Some r → slice_get log.calls n ≡ Some s → m < n
    → RecordedOrder log (place_of r) (place_of s)
calls_ordered image log walk is m n r s p q less =
    One (record {
      from = record_counted image log walk is r (among_at log.calls m r p);
      to = record_counted image log walk is s (among_at log.calls n s q);
      edge = ByCalls (record { made = r.call; is = p }) (record { made = s.call; is = q }) less;
    })

pub drop_at : (xs : List CallRec) (n : ℕ) (r : CallRec) → slice_get xs n ≡ Some r → drop n xs ≡ r ∷ drop (suc n) xs
drop_at [] n r e = absurd (none-some r e)
drop_at (x ∷ xs) zero r e = ap (λ (y : CallRec). y ∷ xs) (same_Some x r e)
drop_at (x ∷ xs) (suc n) r e = drop_at xs n r e

drop_past : (xs : List CallRec) (n : ℕ) → slice_get xs n ≡ None → drop n xs ≡ []
drop_past [] zero e = refl
drop_past [] (suc n) e = refl
drop_past (x ∷ xs) zero e = absurd (none-some x (sym e))
drop_past (x ∷ xs) (suc n) e = drop_past xs n e

get_below : (xs : List CallRec) (n i : ℕ) (r : CallRec) → slice_get xs i ≡ Some r → n < i → (s : CallRec) × (slice_get xs n ≡ Some s)
get_below [] n i r e less = absurd (none-some r e)
get_below (x ∷ xs) zero i r e less = (x, refl)
get_below (x ∷ xs) (suc n) zero r e less = absurd (omega arith)
get_below (x ∷ xs) (suc n) (suc i) r e less = get_below xs n i r e (omega arith)

-- The records with a number below this stand among the steps done, and the others among those to come.
pub record Splits (log : Log) (done : List Pos) (later : List Pos) (n : ℕ) : Type 0 where
  pub past : (m : ℕ) (r : CallRec) → slice_get log.calls m ≡ Some r → m < n → In (place_of r) done
  pub rest : (m : ℕ) (r : CallRec) → slice_get log.calls m ≡ Some r → n ≤ m → In (place_of r) later

-- a step that is no call is no record's
split_quiet : (image : Layout) (log : Log) (walk : Walk) → IsWalk image log walk → (done : List Pos) (p : Pos) (later : List Pos) (n : ℕ) → called (noted (told log walk) p) ≡ None
    → Splits log done (p ∷ later) n → Splits log (p ∷ done) later n
split_quiet image log walk is done p later n quiet splits = record {
  past = λ (m : ℕ) (r : CallRec) (e : slice_get log.calls m ≡ Some r) (less : m < n). inr (splits.past m r e less);
  rest = λ (m : ℕ) (r : CallRec) (e : slice_get log.calls m ≡ Some r) (le : n ≤ m). elim (splits.rest m r e le) [
    | inl same ↦ absurd (none-some r.call (sym quiet ∙ ap (λ (q : Pos). called (noted (told log walk) q)) same ∙ ap called (called_noted image log walk is r (among_at log.calls m r e))))
    | inr i ↦ i
  ];
}

-- a step that is a call is the next record
next_number : (image : Layout) (log : Log) (walk : Walk) → IsWalk image log walk → CallsFit log → (done : List Pos) (p : Pos) (later : List Pos) (n i : ℕ) (made : Call)
    → Apart done (p ∷ later) → Keeps (RecordedOrder log) (p ∷ later) → Splits log done (p ∷ later) n → slice_get log.calls i ≡ Some (rec p.thread p.step made) → i ≡ n
next_number image log walk is fit done p later n i made apart keeps splits at =
    let r : CallRec = rec p.thread p.step made in
    elim (cases_lt i n) [
      | inl less ↦ absurd (apart p (splits.past i r at less) (inl refl))
      | inr le ↦ elim (cases_lt n i) [
        | inl more ↦ (
            let earlier : (s : CallRec) × (slice_get log.calls n ≡ Some s) = get_below log.calls n i r at more in
            let s : CallRec = earlier.0 in
            elim (splits.rest n s earlier.1 (omega arith)) [
              | inl same ↦ absurd (omega (arith, more, same_number log.calls fit.rising n i s r earlier.1 at (ap (λ (q : Pos). q.thread) (sym same)) (ap (λ (q : Pos). q.step) (sym same))))
              | inr j ↦ absurd (keeps.0 (place_of s) j (calls_ordered image log walk is n i s r earlier.1 at more))
            ])
        | inr ge ↦ omega (arith, le, ge)
      ]
    ]

split_call : (image : Layout) (log : Log) (walk : Walk) → IsWalk image log walk → CallsFit log → (done : List Pos) (p : Pos) (later : List Pos) (n : ℕ) (made : Call)
    → slice_get log.calls n ≡ Some (rec p.thread p.step made) → Splits log done (p ∷ later) n → Splits log (p ∷ done) later (suc n)
split_call image log walk is fit done p later n made at splits = record {
  past = λ (m : ℕ) (r : CallRec) (e : slice_get log.calls m ≡ Some r) (less : m < suc n). elim (cases_lt m n) [
    | inl below ↦ inr (splits.past m r e below)
    | inr le ↦ (let same : m ≡ n = omega (arith, less, le) in
        let one : rec p.thread p.step made ≡ r = same_Some (rec p.thread p.step made) r (sym at ∙ ap (slice_get log.calls) (sym same) ∙ e) in
        inl (ap place_of one))
  ];
  rest = λ (m : ℕ) (r : CallRec) (e : slice_get log.calls m ≡ Some r) (le : suc n ≤ m). elim (splits.rest m r e (omega (arith, le))) [
    | inl same ↦ absurd (omega (arith, le, same_number log.calls fit.rising m n r (rec p.thread p.step made) e at (ap (λ (q : Pos). q.thread) (sym same)) (ap (λ (q : Pos). q.step) (sym same))))
    | inr i ↦ i
  ];
}

-- what a step adds to the splitting: nothing, or the next record
pub data SplitsOn (log : Log) (walk : Walk) (done : List Pos) (p : Pos) (later : List Pos) (n : ℕ) : Type 0 where
  NoCall : called (noted (told log walk) p) ≡ None → Splits log (p ∷ done) later n → SplitsOn log walk done p later n
  ACall : {made : Call} → noted (told log walk) p ≡ note.Called made → slice_get log.calls n ≡ Some (rec p.thread p.step made) → Splits log (p ∷ done) later (suc n) → SplitsOn log walk done p later n

splits_by : (image : Layout) (log : Log) (walk : Walk) → IsWalk image log walk → CallsFit log → (done : List Pos) (p : Pos) (later : List Pos) (n : ℕ) → Apart done (p ∷ later)
    → Keeps (RecordedOrder log) (p ∷ later) → Splits log done (p ∷ later) n → (c : Option Call) → called (noted (told log walk) p) ≡ c → SplitsOn log walk done p later n
splits_by image log walk is fit done p later n apart keeps splits None e = NoCall e (split_quiet image log walk is done p later n e splits)
splits_by image log walk is fit done p later n apart keeps splits (Some made) e =
    let shows : noted (told log walk) p ≡ note.Called made = called_is (noted (told log walk) p) made e in
    let i : (i : ℕ) × (slice_get log.calls i ≡ Some (rec p.thread p.step made)) = at_among log.calls (rec p.thread p.step made) (place_called image log walk is p made shows) in
    let number : i.0 ≡ n = next_number image log walk is fit done p later n i.0 made apart keeps splits i.1 in
    let at : slice_get log.calls n ≡ Some (rec p.thread p.step made) = ap (slice_get log.calls) (sym number) ∙ i.1 in
    ACall {made = made} shows at (split_call image log walk is fit done p later n made at splits)

pub splits_on : (image : Layout) (log : Log) (walk : Walk) → IsWalk image log walk → CallsFit log → (done : List Pos) (p : Pos) (later : List Pos) (n : ℕ) → Apart done (p ∷ later)
    → Keeps (RecordedOrder log) (p ∷ later) → Splits log done (p ∷ later) n → SplitsOn log walk done p later n
splits_on image log walk is fit done p later n apart keeps splits = splits_by image log walk is fit done p later n apart keeps splits (called (noted (told log walk) p)) refl

quiet_record : (told : Told) (p : Pos) (later : List Event) → (n : Note) → noted told p ≡ n → called n ≡ None → records_of (told_event told p ∷ later) ≡ records_of later
quiet_record told p later (note.Called made) e quiet = absurd (none-some made (sym quiet))
quiet_record told p later note.Nothing e quiet = ap (λ (n : Note). cons_some (record_in ((let x : Event = record { thread = p.thread; at = p.step; note = n } in x))) (records_of later)) e
quiet_record told p later (note.Branch taken) e quiet = ap (λ (n : Note). cons_some (record_in ((let x : Event = record { thread = p.thread; at = p.step; note = n } in x))) (records_of later)) e
quiet_record told p later (note.Jump target) e quiet = ap (λ (n : Note). cons_some (record_in ((let x : Event = record { thread = p.thread; at = p.step; note = n } in x))) (records_of later)) e
quiet_record told p later (note.Faulted fault) e quiet = ap (λ (n : Note). cons_some (record_in ((let x : Event = record { thread = p.thread; at = p.step; note = n } in x))) (records_of later)) e

call_record : (told : Told) (p : Pos) (later : List Event) (made : Call) → noted told p ≡ note.Called made → records_of (told_event told p ∷ later) ≡ rec p.thread p.step made ∷ records_of later
call_record told p later made e = ap (λ (n : Note). cons_some (record_in ((let x : Event = record { thread = p.thread; at = p.step; note = n } in x))) (records_of later)) e

none_left : (log : Log) (done : List Pos) (n : ℕ) → Splits log done [] n → (o : Option CallRec) → slice_get log.calls n ≡ o → drop n log.calls ≡ []
none_left log done n splits None e = drop_past log.calls n e
none_left log done n splits (Some r) e = absurd (splits.rest n r e (omega arith))

-- from here on the calls are the records from a number on
pub calls_in_order : (image : Layout) (log : Log) (walk : Walk) → IsWalk image log walk → CallsFit log → (done ps : List Pos) (n : ℕ) → Distinct ps → Apart done ps
    → Keeps (RecordedOrder log) ps → Splits log done ps n → records_of (map (told_event (told log walk)) ps) ≡ drop n log.calls
calls_in_order image log walk is fit done [] n distinct apart keeps splits = sym (none_left log done n splits (slice_get log.calls n) refl)
calls_in_order image log walk is fit done (p ∷ later) n distinct apart keeps splits = by_step (splits_on image log walk is fit done p later n apart keeps splits)
    (λ (m : ℕ) (s : Splits log (p ∷ done) later m). calls_in_order image log walk is fit (p ∷ done) later m distinct.1 (apart_push done p later distinct apart) keeps.1 s) where
      by_step : SplitsOn log walk done p later n → ((m : ℕ) → Splits log (p ∷ done) later m → records_of (map (told_event (told log walk)) later) ≡ drop m log.calls)
          → records_of (map (told_event (told log walk)) (p ∷ later)) ≡ drop n log.calls
      by_step (NoCall quiet s) again =
          quiet_record (told log walk) p (map (told_event (told log walk)) later) (noted (told log walk) p) refl quiet ∙ again n s
      by_step (ACall {made = made} shows at s) again =
          call_record (told log walk) p (map (told_event (told log walk)) later) made shows
          ∙ ap (λ (rs : List CallRec). rec p.thread p.step made ∷ rs) (again (suc n) s)
          ∙ sym (drop_at log.calls n (rec p.thread p.step made) at)
