-- The shared state of the calls does not depend on the values with which threads end, but for the values themselves.
use Rattle.std.specs.Prelude.{◌≡◌, ℕ, zero, suc, ◌%◌, ◌≤◌, ◌⊎◌, ◌&&◌, Bool, true, false, not, cond, List, [], ◌∷◌, ◌++◌, length, map, nat_eq, nat_lt, slice_index_or, take, drop, Option, Some, None, unwrap_or, is_some, is_none, refl}
use Rattle.std.proofs.Common.{sym, ◌∙◌, ap, subst, arith, inl, inr, get_or, set, ltb, eqb, eq-eqb}
use Rattle.std.proofs.lemmas.Bool.{and_parts, eqb-true, ltb-true, ltb-false, false≢true}
use Rattle.std.proofs.lemmas.List.{length-set, length-map, map-set, map-append, get_or-set_same, get_or-set_other, get_or_past}
use Rattle.std.proofs.lemmas.Option.{none-some, same_Some}
use Rattle.odr_log.specs.declared.log.Call.{Call}
use Rattle.odr_log.specs.declared.log.Call.TheVariants as call
use Rattle.odr_log.specs.declared.log.Pos.{Pos}
use Rattle.rv_model.specs.declared.state.Local.{Local}
use Rattle.rv_model.specs.declared.state.Calls.{Calls}
use Rattle.rv_model.specs.declared.state.Note.{Note}
use Rattle.rv_model.specs.declared.state.Note.TheVariants as note
use Rattle.rv_model.specs.declared.hearing.Asked.{Asked}
use Rattle.rv_model.specs.declared.hearing.Asked.TheVariants as asked
use Rattle.rv_model.specs.declared.hearing.Reply.{Reply}
use Rattle.rv_model.specs.Calls.{made, end_value, is_mutex, is_other, is_thread, says, no_reply, waits, reply_to, join_value, calls_after}
use Rattle.rv_model.specs.Noted.{asked_noted, reply_noted}
use Rattle.rv_model.specs.Step.{calls_then}
use Rattle.rv_model.proofs.SpawnLemmas.{next_child}
use Rattle.guided_walk.specs.Told.{Told, IsPlace, noted}
use Rattle.guided_walk.specs.Guided.{Visits, ended_with, joined_from, joins}
use Rattle.guided_walk.specs.Orders.{In}
use Rattle.guided_walk.specs.Run.{calls_along, value_of, SuitsAt}
use Rattle.guided_walk.proofs.Along.{Sound, MakesNext, MakesOne, MakesNone}

-- the same but for the values with which threads ended
pub record Alike (one other : Calls) : Type 0 where
  pub owners : one.owners ≡ other.owners
  pub tape : one.tape ≡ other.tape
  pub ended : map is_some one.ended ≡ map is_some other.ended

some_at : (xs : List (Option ℕ)) (i : ℕ) → is_some (get_or xs i None) ≡ get_or (map is_some xs) i false
some_at [] i = refl
some_at (x ∷ xs) zero = refl
some_at (x ∷ xs) (suc i) = some_at xs i

none_is : (o : Option ℕ) → is_none o ≡ not (is_some o)
none_is None = refl
none_is (Some x) = refl

none_by : (o : Option ℕ) → is_some o ≡ false → o ≡ None
none_by None e = refl
none_by (Some x) e = absurd (false≢true (sym e))

pub some_by : (o : Option ℕ) → is_some o ≡ true → (x : ℕ) × (o ≡ Some x)
some_by None e = absurd (false≢true e)
some_by (Some x) e = (x, refl)

pub made_alike : (one other : Calls) → Alike one other → made one ≡ made other
made_alike one other alike = sym (length-map one.ended is_some) ∙ ap (length {A = Bool}) alike.ended ∙ length-map other.ended is_some

ended_alike : (one other : Calls) (u : ℕ) → Alike one other → is_some (end_value one u) ≡ is_some (end_value other u)
ended_alike one other u alike = some_at one.ended u ∙ ap (λ (bs : List Bool). get_or bs u false) alike.ended ∙ sym (some_at other.ended u)

going_alike : (one other : Calls) (u : ℕ) → Alike one other → is_none (end_value one u) ≡ is_none (end_value other u)
going_alike one other u alike = none_is (end_value one u) ∙ ap not (ended_alike one other u alike) ∙ sym (none_is (end_value other u))

pub live_alike : (one other : Calls) (u : ℕ) → Alike one other → end_value one u ≡ None → end_value other u ≡ None
live_alike one other u alike e = none_by (end_value other u) (sym (ended_alike one other u alike) ∙ ap is_some e)

pub waits_alike : (one other : Calls) (t : ℕ) (q : Option Asked) → Alike one other → waits one t q ≡ waits other t q
waits_alike one other t None alike = refl
waits_alike one other t (Some (asked.Join target)) alike =
    ap (λ (n : ℕ). not (nat_eq target t) && (nat_lt target n && is_none (end_value one target))) (made_alike one other alike)
    ∙ ap (λ (b : Bool). not (nat_eq target t) && (nat_lt target (made other) && b)) (going_alike one other target alike)
waits_alike one other t (Some (asked.Lock mutex)) alike = ap (λ (owners : List (Option ℕ)). is_mutex mutex && is_other t (slice_index_or owners mutex None)) alike.owners
waits_alike one other t (Some (asked.Spawn entry)) alike = refl
waits_alike one other t (Some (asked.Unlock mutex)) alike = refl
waits_alike one other t (Some (asked.TryLock mutex)) alike = refl
waits_alike one other t (Some (asked.Read want)) alike = refl

pub reply_alike : (one other : Calls) (t : ℕ) (q : Option Asked) → Alike one other → reply_to one t q ≡ reply_to other t q
reply_alike one other t None alike = refl
reply_alike one other t (Some (asked.Spawn entry)) alike =
    ap (λ (n : ℕ). let r : Reply = record no_reply { child = cond (nat_eq (entry % 4) 0 && nat_lt n 8) (Some n) None } in r) (made_alike one other alike)
reply_alike one other t (Some (asked.Join target)) alike = ap (λ (b : Bool). says (not (nat_eq target t) && b)) (ended_alike one other target alike)
reply_alike one other t (Some (asked.Lock mutex)) alike = ap (λ (owners : List (Option ℕ)). says (is_mutex mutex && is_none (slice_index_or owners mutex None))) alike.owners
reply_alike one other t (Some (asked.Unlock mutex)) alike = ap (λ (owners : List (Option ℕ)). says (is_mutex mutex && is_thread t (slice_index_or owners mutex None))) alike.owners
reply_alike one other t (Some (asked.TryLock mutex)) alike = ap (λ (owners : List (Option ℕ)). says (is_mutex mutex && is_none (slice_index_or owners mutex None))) alike.owners
reply_alike one other t (Some (asked.Read want)) alike = ap (λ (tape : List ℕ). let r : Reply = record no_reply { bytes = take want tape } in r) alike.tape

call_alike : (one other : Calls) (t a b : ℕ) (c : Call) → Alike one other → Alike (calls_after one t a c) (calls_after other t b c)
call_alike one other t a b call.EndThread alike = record {
  owners = alike.owners;
  tape = alike.tape;
  ended = map-set is_some one.ended t (Some a) ∙ ap (λ (bs : List Bool). set bs t true) alike.ended ∙ sym (map-set is_some other.ended t (Some b));
}
call_alike one other t a b (call.Spawn entry (Some child)) alike = record {
  owners = alike.owners;
  tape = alike.tape;
  ended = map-append is_some one.ended (None ∷ []) ∙ ap (λ (bs : List Bool). bs ++ false ∷ []) alike.ended ∙ sym (map-append is_some other.ended (None ∷ []));
}
call_alike one other t a b (call.Spawn entry None) alike = alike
call_alike one other t a b (call.Exit code) alike = alike
call_alike one other t a b (call.Join target ok) alike = alike
call_alike one other t a b (call.Lock mutex true) alike = record { owners = ap (λ (o : List (Option ℕ)). set o mutex (Some t)) alike.owners; tape = alike.tape; ended = alike.ended }
call_alike one other t a b (call.Lock mutex false) alike = alike
call_alike one other t a b (call.Unlock mutex true) alike = record { owners = ap (λ (o : List (Option ℕ)). set o mutex None) alike.owners; tape = alike.tape; ended = alike.ended }
call_alike one other t a b (call.Unlock mutex false) alike = alike
call_alike one other t a b (call.TryLock mutex true) alike = record { owners = ap (λ (o : List (Option ℕ)). set o mutex (Some t)) alike.owners; tape = alike.tape; ended = alike.ended }
call_alike one other t a b (call.TryLock mutex false) alike = alike
call_alike one other t a b (call.Write bytes) alike = alike
call_alike one other t a b call.WriteBad alike = alike
call_alike one other t a b (call.Read want bytes) alike =
    record { owners = alike.owners; tape = ap (λ (tape : List ℕ). drop (length bytes) tape) alike.tape; ended = alike.ended }
call_alike one other t a b call.ReadBad alike = alike
call_alike one other t a b call.SelfId alike = alike
call_alike one other t a b call.Yield alike = alike
call_alike one other t a b (call.Unknown number) alike = alike

pub then_alike : (one other : Calls) (t a b : ℕ) (n : Note) → Alike one other → Alike (calls_then one t a n) (calls_then other t b n)
then_alike one other t a b (note.Called c) alike = call_alike one other t a b c alike
then_alike one other t a b note.Nothing alike = alike
then_alike one other t a b (note.Branch taken) alike = alike
then_alike one other t a b (note.Jump target) alike = alike
then_alike one other t a b (note.Faulted fault) alike = alike

-- whatever values threads end with
pub along_alike : (told : Told) (value other : Pos → ℕ) (tape : List ℕ) (done : List Pos) → Alike (calls_along told value tape done) (calls_along told other tape done)
along_alike told value other tape [] = record { owners = refl; tape = refl; ended = refl }
along_alike told value other tape (p ∷ done) =
    then_alike (calls_along told value tape done) (calls_along told other tape done) p.thread (value p) (other p) (noted told p) (along_alike told value other tape done)

-- what a step can do by one state it can do by the other
pub suits_alike : (told : Told) (one other : Calls) (p : Pos) → Alike one other → SuitsAt told one p → SuitsAt told other p
suits_alike told one other p alike suits = record {
  place = suits.place;
  exists = omega (arith, suits.exists, made_alike one other alike);
  live = live_alike one other p.thread alike suits.live;
  ready = sym (waits_alike one other p.thread (asked_noted (noted told p)) alike) ∙ suits.ready;
  answered = sym (reply_alike one other p.thread (asked_noted (noted told p)) alike) ∙ suits.answered;
}

-- ---- the values with which threads ended

push_none : (xs : List (Option ℕ)) (u : ℕ) → get_or (xs ++ None ∷ []) u None ≡ get_or xs u None
push_none [] zero = refl
push_none [] (suc u) = refl
push_none (x ∷ xs) zero = refl
push_none (x ∷ xs) (suc u) = push_none xs u

-- a thread that is ended after a step was ended before it, or the step ended it
abbrev pub EndedBy : Calls → ℕ → ℕ → Note → ℕ → ℕ → Type 0
EndedBy calls t a n u x = (end_value calls u ≡ Some x) ⊎ ((n ≡ note.Called call.EndThread) × (u ≡ t) × (x ≡ a))

end_set : (xs : List (Option ℕ)) (t a u x : ℕ) → (same : Bool) → eqb u t ≡ same → (within : Bool) → ltb t (length xs) ≡ within → get_or (set xs t (Some a)) u None ≡ Some x
    → (get_or xs u None ≡ Some x) ⊎ ((u ≡ t) × (x ≡ a))
end_set xs t a u x true s true w e =
    let one : u ≡ t = eqb-true u t s in
    inr (one, sym (same_Some a x (sym (get_or-set_same xs t (Some a) None (ltb-true t (length xs) w)) ∙ ap (λ (k : ℕ). get_or (set xs t (Some a)) k None) (sym one) ∙ e)))
end_set xs t a u x true s false w e =
    let one : u ≡ t = eqb-true u t s in
    let past : length xs ≤ t = ltb-false t (length xs) w in
    let gone : get_or (set xs t (Some a)) u None ≡ None = get_or_past (set xs t (Some a)) u None (omega (arith, length-set xs t (Some a), past, one)) in
    absurd (none-some x (sym gone ∙ e))
end_set xs t a u x false s within w e =
    inl (sym (get_or-set_other xs t u (Some a) None (λ (same : u ≡ t). false≢true (sym s ∙ eq-eqb u t same))) ∙ e)

pub end_then : (calls : Calls) (t a : ℕ) (n : Note) (u x : ℕ) → end_value (calls_then calls t a n) u ≡ Some x → EndedBy calls t a n u x
end_then calls t a (note.Called call.EndThread) u x e =
    elim (end_set calls.ended t a u x (eqb u t) refl (ltb t (length calls.ended)) refl e) [ inl was ↦ inl was | inr now ↦ inr (refl, now.0, now.1) ]
end_then calls t a (note.Called (call.Spawn entry (Some child))) u x e = inl (sym (push_none calls.ended u) ∙ e)
end_then calls t a (note.Called (call.Spawn entry None)) u x e = inl e
end_then calls t a (note.Called (call.Exit code)) u x e = inl e
end_then calls t a (note.Called (call.Join target ok)) u x e = inl e
end_then calls t a (note.Called (call.Lock mutex true)) u x e = inl e
end_then calls t a (note.Called (call.Lock mutex false)) u x e = inl e
end_then calls t a (note.Called (call.Unlock mutex true)) u x e = inl e
end_then calls t a (note.Called (call.Unlock mutex false)) u x e = inl e
end_then calls t a (note.Called (call.TryLock mutex true)) u x e = inl e
end_then calls t a (note.Called (call.TryLock mutex false)) u x e = inl e
end_then calls t a (note.Called (call.Write bytes)) u x e = inl e
end_then calls t a (note.Called call.WriteBad) u x e = inl e
end_then calls t a (note.Called (call.Read want bytes)) u x e = inl e
end_then calls t a (note.Called call.ReadBad) u x e = inl e
end_then calls t a (note.Called call.SelfId) u x e = inl e
end_then calls t a (note.Called call.Yield) u x e = inl e
end_then calls t a (note.Called (call.Unknown number)) u x e = inl e
end_then calls t a note.Nothing u x e = inl e
end_then calls t a (note.Branch taken) u x e = inl e
end_then calls t a (note.Jump target) u x e = inl e
end_then calls t a (note.Faulted fault) u x e = inl e

pub none_first : (u x : ℕ) → get_or (None ∷ []) u None ≡ Some x → ⊥
none_first zero x e = none-some x e
none_first (suc u) x e = none-some x e

-- a thread ended with its a0 before the step by which it is recorded to have ended
pub ended_is : (told : Told) (v : Visits) (tape : List ℕ) (done : List Pos) → Sound told → ((p : Pos) → In p done → IsPlace told p)
    → (u x : ℕ) → end_value (calls_along told (value_of v) tape done) u ≡ Some x → x ≡ ended_with v (told.ender u)
ended_is told v tape [] sound places u x e = absurd (none_first u x e)
ended_is told v tape (p ∷ done) sound places u x e =
    elim (end_then (calls_along told (value_of v) tape done) p.thread (value_of v p) (noted told p) u x e) [
      | inl was ↦ ended_is told v tape done sound (λ (q : Pos) (i : In q done). places q (inr i)) u x was
      | inr now ↦ now.2 ∙ ap (ended_with v) (sym (ap told.ender now.1 ∙ sound.one_ender p (places p (inl refl)) now.0))
    ]

-- ---- what a join is answered

pub joins_is : (n : Note) (target : ℕ) → joins n ≡ Some target → n ≡ note.Called (call.Join target true)
joins_is (note.Called (call.Join other true)) target e = ap (λ (t : ℕ). note.Called (call.Join t true)) (same_Some other target e)
joins_is (note.Called (call.Join other false)) target e = absurd (none-some target e)
joins_is (note.Called (call.Exit code)) target e = absurd (none-some target e)
joins_is (note.Called call.EndThread) target e = absurd (none-some target e)
joins_is (note.Called (call.Spawn entry child)) target e = absurd (none-some target e)
joins_is (note.Called (call.Lock mutex ok)) target e = absurd (none-some target e)
joins_is (note.Called (call.Unlock mutex ok)) target e = absurd (none-some target e)
joins_is (note.Called (call.TryLock mutex got)) target e = absurd (none-some target e)
joins_is (note.Called (call.Write bytes)) target e = absurd (none-some target e)
joins_is (note.Called call.WriteBad) target e = absurd (none-some target e)
joins_is (note.Called (call.Read want bytes)) target e = absurd (none-some target e)
joins_is (note.Called call.ReadBad) target e = absurd (none-some target e)
joins_is (note.Called call.SelfId) target e = absurd (none-some target e)
joins_is (note.Called call.Yield) target e = absurd (none-some target e)
joins_is (note.Called (call.Unknown number)) target e = absurd (none-some target e)
joins_is note.Nothing target e = absurd (none-some target e)
joins_is (note.Branch taken) target e = absurd (none-some target e)
joins_is (note.Jump target') target e = absurd (none-some target e)
joins_is (note.Faulted fault) target e = absurd (none-some target e)

-- a join that is answered hands on the value with which the thread is recorded to have ended
pub joined_is : (told : Told) (v : Visits) (tape : List ℕ) (done : List Pos) (t target : ℕ) (n : Note) → Sound told → ((p : Pos) → In p done → IsPlace told p)
    → reply_to (calls_along told (value_of v) tape done) t (asked_noted n) ≡ reply_noted n → joins n ≡ Some target
    → join_value (calls_along told (value_of v) tape done) (asked_noted n) ≡ joined_from told v (joins n)
joined_is told v tape done t target n sound places answered e =
    let calls : Calls = calls_along told (value_of v) tape done in
    let is : n ≡ note.Called (call.Join target true) = joins_is n target e in
    let here : reply_to calls t (Some (asked.Join target)) ≡ says true =
    subst (λ (m : Note). reply_to calls t (asked_noted m) ≡ reply_noted m) is answered in
    let has : (x : ℕ) × (end_value calls target ≡ Some x) =
    some_by (end_value calls target) (and_parts (not (nat_eq target t)) (is_some (end_value calls target)) (ap (λ (r : Reply). r.ok) here)).1 in
    ap (λ (m : Note). join_value calls (asked_noted m)) is
    ∙ ap (λ (o : Option ℕ). unwrap_or o 0) has.1
    ∙ ended_is told v tape done sound places target has.0 has.1
    ∙ ap (joined_from told v) (sym e)

-- ---- what a step makes

made_end : (calls : Calls) (t a : ℕ) → made (calls_after calls t a call.EndThread) ≡ made calls
made_end calls t a = length-set calls.ended t (Some a)

-- a spawn that is answered as it is recorded makes the next thread
pub makes_next : (calls : Calls) (t : ℕ) (n : Note) → reply_to calls t (asked_noted n) ≡ reply_noted n → MakesNext (made calls) n
makes_next calls t (note.Called (call.Spawn entry (Some child))) e =
    MakesOne refl (sym (next_child (nat_eq (entry % 4) 0 && nat_lt (made calls) 8) (made calls) child (ap (λ (r : Reply). r.child) e)))
makes_next calls t (note.Called (call.Spawn entry None)) e = MakesNone (λ (l : Local). refl) (λ (c : Calls) (a u : ℕ). refl)
makes_next calls t (note.Called call.EndThread) e = MakesNone (λ (l : Local). refl) (λ (c : Calls) (a u : ℕ). made_end c u a)
makes_next calls t (note.Called (call.Exit code)) e = MakesNone (λ (l : Local). refl) (λ (c : Calls) (a u : ℕ). refl)
makes_next calls t (note.Called (call.Join target ok)) e = MakesNone (λ (l : Local). refl) (λ (c : Calls) (a u : ℕ). refl)
makes_next calls t (note.Called (call.Lock mutex true)) e = MakesNone (λ (l : Local). refl) (λ (c : Calls) (a u : ℕ). refl)
makes_next calls t (note.Called (call.Lock mutex false)) e = MakesNone (λ (l : Local). refl) (λ (c : Calls) (a u : ℕ). refl)
makes_next calls t (note.Called (call.Unlock mutex true)) e = MakesNone (λ (l : Local). refl) (λ (c : Calls) (a u : ℕ). refl)
makes_next calls t (note.Called (call.Unlock mutex false)) e = MakesNone (λ (l : Local). refl) (λ (c : Calls) (a u : ℕ). refl)
makes_next calls t (note.Called (call.TryLock mutex true)) e = MakesNone (λ (l : Local). refl) (λ (c : Calls) (a u : ℕ). refl)
makes_next calls t (note.Called (call.TryLock mutex false)) e = MakesNone (λ (l : Local). refl) (λ (c : Calls) (a u : ℕ). refl)
makes_next calls t (note.Called (call.Write bytes)) e = MakesNone (λ (l : Local). refl) (λ (c : Calls) (a u : ℕ). refl)
makes_next calls t (note.Called call.WriteBad) e = MakesNone (λ (l : Local). refl) (λ (c : Calls) (a u : ℕ). refl)
makes_next calls t (note.Called (call.Read want bytes)) e = MakesNone (λ (l : Local). refl) (λ (c : Calls) (a u : ℕ). refl)
makes_next calls t (note.Called call.ReadBad) e = MakesNone (λ (l : Local). refl) (λ (c : Calls) (a u : ℕ). refl)
makes_next calls t (note.Called call.SelfId) e = MakesNone (λ (l : Local). refl) (λ (c : Calls) (a u : ℕ). refl)
makes_next calls t (note.Called call.Yield) e = MakesNone (λ (l : Local). refl) (λ (c : Calls) (a u : ℕ). refl)
makes_next calls t (note.Called (call.Unknown number)) e = MakesNone (λ (l : Local). refl) (λ (c : Calls) (a u : ℕ). refl)
makes_next calls t note.Nothing e = MakesNone (λ (l : Local). refl) (λ (c : Calls) (a u : ℕ). refl)
makes_next calls t (note.Branch taken) e = MakesNone (λ (l : Local). refl) (λ (c : Calls) (a u : ℕ). refl)
makes_next calls t (note.Jump target) e = MakesNone (λ (l : Local). refl) (λ (c : Calls) (a u : ℕ). refl)
makes_next calls t (note.Faulted fault) e = MakesNone (λ (l : Local). refl) (λ (c : Calls) (a u : ℕ). refl)
