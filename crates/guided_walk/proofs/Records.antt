-- The calls of a walk's notes are the records of the log, each at its place.
use Rattle.std.specs.Prelude.{◌≡◌, ℕ, zero, suc, ◌+◌, ◌<◌, ◌⊎◌, Bool, true, false, cond, List, [], ◌∷◌, length, filter, slice_get, Option, Some, None, AllPairs, refl}
use Rattle.std.specs.List.{find}
use Rattle.std.proofs.Common.{sym, ◌∙◌, ap, subst, arith, inl, inr, get_or}
use Rattle.std.proofs.lemmas.Bool.{cases_lt, false≢true}
use Rattle.std.proofs.lemmas.Option.{none-some, same_Some, slice_get_within, get_or_from_slice_get}
use Rattle.odr_log.specs.declared.log.Call.{Call}
use Rattle.odr_log.specs.declared.log.CallRec.{CallRec}
use Rattle.rv_model.specs.declared.state.Event.{Event}
use Rattle.rv_model.specs.declared.state.Note.{Note}
use Rattle.rv_model.specs.declared.state.Note.TheVariants as note
use Rattle.rv_model.specs.Run.{records_of, record_in, cons_some}
use Rattle.rv_model.specs.Walk.{events_from}

-- ---- members of lists

abbrev pub Among : CallRec → List CallRec → Type 0
Among r [] = ⊥
Among r (x ∷ xs) = (x ≡ r) ⊎ Among r xs

pub among_at : (xs : List CallRec) (i : ℕ) (r : CallRec) → slice_get xs i ≡ Some r → Among r xs
among_at [] i r e = absurd (none-some r e)
among_at (x ∷ xs) zero r e = inl (same_Some x r e)
among_at (x ∷ xs) (suc i) r e = inr (among_at xs i r e)

pub at_among : (xs : List CallRec) (r : CallRec) → Among r xs → (i : ℕ) × (slice_get xs i ≡ Some r)
at_among [] r has = absurd has
at_among (x ∷ xs) r (inl e) = (0, ap (λ (y : CallRec). Some y) e)
at_among (x ∷ xs) r (inr has) = let found : (i : ℕ) × (slice_get xs i ≡ Some r) = at_among xs r has in (suc found.0, found.1)

filter_in : (test : CallRec → Bool) (x : CallRec) (xs : List CallRec) (r : CallRec) → (b : Bool) → test x ≡ b → Among r (cond b (x ∷ filter test xs) (filter test xs))
    → (Among r (filter test xs) → Among r xs × (test r ≡ true)) → Among r (x ∷ xs) × (test r ≡ true)
filter_in test x xs r true e (inl same) rest = (inl same, ap test (sym same) ∙ e)
filter_in test x xs r true e (inr has) rest = let found : Among r xs × (test r ≡ true) = rest has in (inr found.0, found.1)
filter_in test x xs r false e has rest = let found : Among r xs × (test r ≡ true) = rest has in (inr found.0, found.1)

pub among_filter : (test : CallRec → Bool) (xs : List CallRec) (r : CallRec) → Among r (filter test xs) → Among r xs × (test r ≡ true)
among_filter test [] r has = absurd has
among_filter test (x ∷ xs) r has = filter_in test x xs r (test x) refl has (among_filter test xs r)

filter_here : (test : CallRec → Bool) (x : CallRec) (xs : List CallRec) (r : CallRec) → (b : Bool) → test x ≡ b → test r ≡ true → Among r (x ∷ xs)
    → (Among r xs → Among r (filter test xs)) → Among r (cond b (x ∷ filter test xs) (filter test xs))
filter_here test x xs r true e passes (inl same) rest = inl same
filter_here test x xs r true e passes (inr has) rest = inr (rest has)
filter_here test x xs r false e passes (inl same) rest = absurd (false≢true (sym e ∙ ap test same ∙ passes))
filter_here test x xs r false e passes (inr has) rest = rest has

pub filter_among : (test : CallRec → Bool) (xs : List CallRec) (r : CallRec) → Among r xs → test r ≡ true → Among r (filter test xs)
filter_among test [] r has passes = has
filter_among test (x ∷ xs) r has passes = filter_here test x xs r (test x) refl passes has (λ (h : Among r xs). filter_among test xs r h passes)

-- what is found passes, and stands somewhere
find_on : (test : CallRec → Bool) (x : CallRec) (xs : List CallRec) (r : CallRec) → (b : Bool) → test x ≡ b → cond b (Some x) (find test xs) ≡ Some r
    → (find test xs ≡ Some r → Among r xs × (test r ≡ true)) → Among r (x ∷ xs) × (test r ≡ true)
find_on test x xs r true e found rest = (inl (same_Some x r found), ap test (sym (same_Some x r found)) ∙ e)
find_on test x xs r false e found rest = let later : Among r xs × (test r ≡ true) = rest found in (inr later.0, later.1)

pub found_among : (test : CallRec → Bool) (xs : List CallRec) (r : CallRec) → find test xs ≡ Some r → Among r xs × (test r ≡ true)
found_among test [] r e = absurd (none-some r e)
found_among test (x ∷ xs) r e = find_on test x xs r (test x) refl e (found_among test xs r)

find_here : (test : CallRec → Bool) (x : CallRec) (xs : List CallRec) (r : CallRec) → (b : Bool) → test x ≡ b → Among r (x ∷ xs) → test r ≡ true
    → (Among r xs → (y : CallRec) × (find test xs ≡ Some y)) → (y : CallRec) × (cond b (Some x) (find test xs) ≡ Some y)
find_here test x xs r true e has passes rest = (x, refl)
find_here test x xs r false e (inl same) passes rest = absurd (false≢true (sym e ∙ ap test same ∙ passes))
find_here test x xs r false e (inr has) passes rest = rest has

pub among_found : (test : CallRec → Bool) (xs : List CallRec) (r : CallRec) → Among r xs → test r ≡ true → (y : CallRec) × (find test xs ≡ Some y)
among_found test [] r has passes = absurd has
among_found test (x ∷ xs) r has passes = find_here test x xs r (test x) refl has passes (λ (h : Among r xs). among_found test xs r h passes)

-- ---- notes and records

abbrev pub rec : ℕ → ℕ → Call → CallRec
rec thread step made = record { tid = thread; at = step; call = made }

-- the record of a note that is a call
among_note : (thread step : ℕ) (n : Note) (made : Call) (later : List CallRec) → n ≡ note.Called made
    → Among (rec thread step made) (cons_some (record_in (record { thread = thread; at = step; note = n })) later)
among_note thread step n made later e =
    subst (λ (m : Note). Among (rec thread step made) (cons_some (record_in (record { thread = thread; at = step; note = m })) later)) (sym e) (inl refl)

among_later : (e : Event) (later : List CallRec) (r : CallRec) → Among r later → Among r (cons_some (record_in e) later)
among_later e later r has = by_record (record_in e) has where
  by_record : (o : Option CallRec) → Among r later → Among r (cons_some o later)
  by_record None h = h
  by_record (Some x) h = inr h

pub notes_recorded : (thread step : ℕ) (notes : List Note) (k : ℕ) (made : Call) → k < length notes → get_or notes k note.Nothing ≡ note.Called made
    → Among (rec thread (step + k) made) (records_of (events_from thread step notes))
notes_recorded thread step [] k made less e = absurd (omega arith)
notes_recorded thread step (n ∷ notes) zero made less e =
    subst (λ (s : ℕ). Among (rec thread s made) (records_of (events_from thread step (n ∷ notes)))) (let z : step ≡ step + 0 = omega arith in z)
    (among_note thread step n made (records_of (events_from thread (step + 1) notes)) e)
notes_recorded thread step (n ∷ notes) (suc k) made less e =
    among_later (record { thread = thread; at = step; note = n }) (records_of (events_from thread (step + 1) notes)) (rec thread (step + suc k) made)
    (subst (λ (s : ℕ). Among (rec thread s made) (records_of (events_from thread (step + 1) notes))) (let z : step + 1 + k ≡ step + suc k = omega arith in z)
    (notes_recorded thread (step + 1) notes k made (omega arith) e))

-- the note of a record
pub record NotedAt (thread step : ℕ) (notes : List Note) (r : CallRec) : Type 0 where
  pub place : ℕ
  pub within : place < length notes
  pub is : get_or notes place note.Nothing ≡ note.Called r.call
  pub tid : r.tid ≡ thread
  pub at : r.at ≡ step + place

noted_now : (thread step : ℕ) (n : Note) (notes : List Note) (r : CallRec) → Among r (cons_some (record_in (record { thread = thread; at = step; note = n })) [])
    → NotedAt thread step (n ∷ notes) r
noted_now thread step (note.Called made) notes r (inl e) = record {
  place = 0;
  within = omega arith;
  is = ap (λ (x : CallRec). note.Called x.call) e;
  tid = ap (λ (x : CallRec). x.tid) (sym e);
  at = ap (λ (x : CallRec). x.at) (sym e) ∙ (let z : step ≡ step + 0 = omega arith in z);
}
noted_now thread step (note.Called made) notes r (inr has) = absurd has
noted_now thread step note.Nothing notes r has = absurd has
noted_now thread step (note.Branch taken) notes r has = absurd has
noted_now thread step (note.Jump target) notes r has = absurd has
noted_now thread step (note.Faulted fault) notes r has = absurd has

now_or_later : (o : Option CallRec) (later : List CallRec) (r : CallRec) → Among r (cons_some o later) → Among r (cons_some o []) ⊎ Among r later
now_or_later None later r has = inr has
now_or_later (Some x) later r (inl e) = inl (inl e)
now_or_later (Some x) later r (inr has) = inr has

noted_later : (thread step : ℕ) (n : Note) (notes : List Note) (r : CallRec) → NotedAt thread (step + 1) notes r → NotedAt thread step (n ∷ notes) r
noted_later thread step n notes r found = record {
  place = suc found.place;
  within = omega (arith, found.within);
  is = found.is;
  tid = found.tid;
  at = found.at ∙ (let z : step + 1 + found.place ≡ step + suc found.place = omega arith in z);
}

pub records_noted : (thread step : ℕ) (notes : List Note) (r : CallRec) → Among r (records_of (events_from thread step notes)) → NotedAt thread step notes r
records_noted thread step [] r has = absurd has
records_noted thread step (n ∷ notes) r has =
    elim (now_or_later (record_in (record { thread = thread; at = step; note = n })) (records_of (events_from thread (step + 1) notes)) r has) [
      | inl now ↦ noted_now thread step n notes r now
      | inr later ↦ noted_later thread step n notes r (records_noted thread (step + 1) notes r later)
    ]

-- ---- one record at a place

pub rising_once : (xs : List CallRec) → AllPairs (λ earlier later. earlier.tid ≡ later.tid → earlier.at < later.at) xs
    → (i j : ℕ) (r s : CallRec) → slice_get xs i ≡ Some r → slice_get xs j ≡ Some s → r.tid ≡ s.tid → i < j → r.at < s.at
rising_once xs rising i j r s p q same less =
    let one : get_or xs i r ≡ r = get_or_from_slice_get xs i r r p in
    let two : get_or xs j r ≡ s = get_or_from_slice_get xs j s r q in
    let tids : (get_or xs i r).tid ≡ (get_or xs j r).tid = ap (λ (x : CallRec). x.tid) one ∙ same ∙ sym (ap (λ (x : CallRec). x.tid) two) in
    let rises : (get_or xs i r).at < (get_or xs j r).at = rising i j r less (slice_get_within xs j s q) tids in
    omega (arith, rises, ap (λ (x : CallRec). x.at) one, ap (λ (x : CallRec). x.at) two)

pub same_number : (xs : List CallRec) → AllPairs (λ earlier later. earlier.tid ≡ later.tid → earlier.at < later.at) xs
    → (i j : ℕ) (r s : CallRec) → slice_get xs i ≡ Some r → slice_get xs j ≡ Some s → r.tid ≡ s.tid → r.at ≡ s.at → i ≡ j
same_number xs rising i j r s p q same at =
    elim (cases_lt i j) [
      | inl less ↦ absurd (omega (arith, rising_once xs rising i j r s p q same less, at))
      | inr le ↦ elim (cases_lt j i) [
        | inl more ↦ absurd (omega (arith, rising_once xs rising j i s r q p (sym same) more, at))
        | inr ge ↦ omega (arith, le, ge)
      ]
    ]

pub one_record : (xs : List CallRec) → AllPairs (λ earlier later. earlier.tid ≡ later.tid → earlier.at < later.at) xs
    → (r s : CallRec) → Among r xs → Among s xs → r.tid ≡ s.tid → r.at ≡ s.at → r ≡ s
one_record xs rising r s has there same at =
    let i : (i : ℕ) × (slice_get xs i ≡ Some r) = at_among xs r has in
    let j : (i : ℕ) × (slice_get xs i ≡ Some s) = at_among xs s there in
    let number : i.0 ≡ j.0 = same_number xs rising i.0 j.0 r s i.1 j.1 same at in
    same_Some r s (sym i.1 ∙ ap (slice_get xs) number ∙ j.1)
