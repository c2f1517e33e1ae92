-- What has been met of a log, before and after a step.
use Rattle.std.specs.Prelude.{◌≡◌, ◌≢◌, ℕ, zero, suc, ◌+◌, ◌<◌, ◌≤◌, Bool, true, false, ◌&&◌, cond, List, [], ◌∷◌, ◌++◌, length, take, nat_eq, replicate, slice_get, Option, Some, None, refl}
use Rattle.std.proofs.Common.{sym, ◌∙◌, ap, subst, arith, get_or, set, eq-eqb}
use Rattle.std.proofs.lemmas.Bool.{and_parts, ltb-true, eqb-true, false≢true}
use Rattle.std.proofs.lemmas.List.{append-nil, length-take-le, length-set, get_or-set_same, get_or-set_other}
use Rattle.odr_log.specs.declared.log.Log.{Log}
use Rattle.odr_log.specs.declared.log.PathItem.{PathItem}
use Rattle.odr_log.specs.declared.log.PathItem.TheVariants as item
use Rattle.odr_log.specs.declared.log.CallRec.{CallRec}
use Rattle.odr_log.specs.Same.{same_item, same_rec}
use Rattle.odr_log.specs.SameLaws.{same_item-exact, same_rec-exact}
use Rattle.rv_model.specs.declared.state.Event.{Event}
use Rattle.rv_model.specs.declared.state.Note.{Note}
use Rattle.rv_model.specs.declared.state.Note.TheVariants as note
use Rattle.rv_model.specs.Run.{item_of, cons_some, path_of, record_in, records_of, logged, is_counted, option_test, agrees_by}
use Rattle.rv_model.proofs.LogParts.{path_of-append, records_of-append}
use Rattle.replay_check.specs.declared.met.Met.{Met}
use Rattle.replay_check.specs.Met.{IsFront, HasMet, is_next, past_item, past_call, past}

-- fronts of lists

pub front_count : {A : Type 0} (done : List A) (count : ℕ) (whole : List A) → IsFront done count whole → length done ≡ count
front_count done count whole front = ap length front.is ∙ length-take-le count whole front.within

some_within : {A : Type 0} (xs : List A) (k : ℕ) (x : A) → slice_get xs k ≡ Some x → k < length xs
some_within [] k x e = absurd (let f : None ≡ Some x = e in cc)
some_within (y ∷ ys) zero x e = omega arith
some_within (y ∷ ys) (suc k) x e = let within : k < length ys = some_within ys k x e in omega arith

take_next : {A : Type 0} (xs : List A) (k : ℕ) (x : A) → slice_get xs k ≡ Some x → take (suc k) xs ≡ take k xs ++ x ∷ []
take_next [] k x e = absurd (let f : None ≡ Some x = e in cc)
take_next {A} (y ∷ ys) zero x e = let same : y ≡ x = let f : Some y ≡ Some x = e in cc in ap (λ (z : A). z ∷ []) same
take_next {A} (y ∷ ys) (suc k) x e = ap (λ (zs : List A). y ∷ zs) (take_next ys k x e)

front_more : {A : Type 0} (done : List A) (k : ℕ) (whole : List A) (x : A) → IsFront done k whole → slice_get whole k ≡ Some x → IsFront (done ++ x ∷ []) (k + 1) whole
front_more {A} done k whole x front e = record {
  within = let within : k < length whole = some_within whole k x e in omega arith;
  is =
      ap (λ (zs : List A). zs ++ x ∷ []) front.is
      ∙ (sym (take_next whole k x e)
      ∙ ap (λ (n : ℕ). take n whole) (let more : suc k ≡ k + 1 = omega arith in more));
}

front_of : {A : Type 0} (done now : List A) (count then : ℕ) (whole : List A) → IsFront done count whole → now ≡ done → then ≡ count → IsFront now then whole
front_of done now count then whole front same again = record { within = let within : count ≤ length whole = front.within in omega arith; is = same ∙ (front.is ∙ ap (λ (n : ℕ). take n whole) (sym again)) }

-- the first step

zeros : (n t : ℕ) → get_or {A = ℕ} (replicate n 0) t 0 ≡ 0
zeros zero t = refl
zeros (suc n) zero = refl
zeros (suc n) (suc t) = zeros n t

pub met_nothing : (log : Log) → HasMet log [] (record { items = replicate 8 0; calls = 0 })
met_nothing log = record {
  eight = refl;
  items = λ (t : ℕ). record { within = let none : get_or (replicate 8 0) t 0 ≡ 0 = zeros 8 t in omega arith; is = ap (λ (n : ℕ). take n (logged log t).path) (sym (zeros 8 t)) };
  calls = record { within = omega arith; is = refl };
}

-- what the next step is

pub next_met : (log : Log) (happened : List Event) (met : Met) (event : Event) (shown : Note) → HasMet log happened met → agrees_by log happened event shown ≡ is_next log met event shown
next_met log happened met event note.Nothing has = refl
next_met log happened met event (note.Branch taken) has =
    ap (λ (k : ℕ). is_counted log event && option_test (same_item (item.Branch taken)) (slice_get (logged log event.thread).path k))
    (front_count (path_of event.thread happened) (get_or met.items event.thread 0) (logged log event.thread).path (has.items event.thread))
next_met log happened met event (note.Jump target) has =
    ap (λ (k : ℕ). is_counted log event && option_test (same_item (item.Jump target)) (slice_get (logged log event.thread).path k))
    (front_count (path_of event.thread happened) (get_or met.items event.thread 0) (logged log event.thread).path (has.items event.thread))
next_met log happened met event (note.Called call) has =
    ap (λ (k : ℕ). is_counted log event && option_test (same_rec (record { tid = event.thread; at = event.at; call = call })) (slice_get log.calls k))
    (front_count (records_of happened) met.calls log.calls has.calls)
next_met log happened met event (note.Faulted fault) has = refl

item_is : (x : PathItem) (o : Option PathItem) → option_test (same_item x) o ≡ true → o ≡ Some x
item_is x None e = absurd (false≢true e)
item_is x (Some y) e = ap Some (sym ((same_item-exact x y).0 e))

record_is : (x : CallRec) (o : Option CallRec) → option_test (same_rec x) o ≡ true → o ≡ Some x
record_is x None e = absurd (false≢true e)
record_is x (Some y) e = ap Some (sym ((same_rec-exact x y).0 e))

-- the path of a thread, and the calls, after one event more

none_either : (b : Bool) → cond {A = List PathItem} b [] [] ≡ []
none_either true = refl
none_either false = refl

path_same : (t : ℕ) (happened : List Event) (event : Event) → item_of event.note ≡ None → path_of t (happened ++ event ∷ []) ≡ path_of t happened
path_same t happened event none =
    path_of-append t happened (event ∷ [])
    ∙ (ap (λ (o : Option PathItem). path_of t happened ++ cond (nat_eq event.thread t) (cons_some o []) []) none
    ∙ (ap (λ (p : List PathItem). path_of t happened ++ p) (none_either (nat_eq event.thread t)) ∙ append-nil (path_of t happened)))

path_other : (t : ℕ) (happened : List Event) (event : Event) → nat_eq event.thread t ≡ false → path_of t (happened ++ event ∷ []) ≡ path_of t happened
path_other t happened event other =
    path_of-append t happened (event ∷ [])
    ∙ (ap (λ (b : Bool). path_of t happened ++ cond b (cons_some (item_of event.note) []) []) other ∙ append-nil (path_of t happened))

path_own : (happened : List Event) (event : Event) (x : PathItem) → item_of event.note ≡ Some x → path_of event.thread (happened ++ event ∷ []) ≡ path_of event.thread happened ++ x ∷ []
path_own happened event x is =
    path_of-append event.thread happened (event ∷ [])
    ∙ (ap (λ (b : Bool). path_of event.thread happened ++ cond b (cons_some (item_of event.note) []) []) (eq-eqb event.thread event.thread refl)
    ∙ ap (λ (o : Option PathItem). path_of event.thread happened ++ cons_some o []) is)

records_then : (happened : List Event) (event : Event) (o : Option CallRec) → record_in event ≡ o → records_of (happened ++ event ∷ []) ≡ records_of happened ++ cons_some o []
records_then happened event o is =
    records_of-append happened (event ∷ []) ∙ ap (λ (r : Option CallRec). records_of happened ++ cons_some r []) is

records_same : (happened : List Event) (event : Event) → record_in event ≡ None → records_of (happened ++ event ∷ []) ≡ records_of happened
records_same happened event none = records_then happened event None none ∙ append-nil (records_of happened)

-- a step that is the log's next is met

quiet_past : (log : Log) (happened : List Event) (met : Met) (event : Event) → item_of event.note ≡ None → record_in event ≡ None → HasMet log happened met
    → HasMet log (happened ++ event ∷ []) met
quiet_past log happened met event no_item no_call has = record {
  eight = has.eight;
  items = λ (t : ℕ). front_of (path_of t happened) _ (get_or met.items t 0) _ (logged log t).path (has.items t) (path_same t happened event no_item) refl;
  calls = front_of (records_of happened) _ met.calls _ log.calls has.calls (records_same happened event no_call) refl;
}

call_past : (log : Log) (happened : List Event) (met : Met) (event : Event) (x : CallRec) → item_of event.note ≡ None → record_in event ≡ Some x
    → slice_get log.calls met.calls ≡ Some x → HasMet log happened met → HasMet log (happened ++ event ∷ []) (past_call met)
call_past log happened met event x no_item is next has = record {
  eight = has.eight;
  items = λ (t : ℕ). front_of (path_of t happened) _ (get_or met.items t 0) _ (logged log t).path (has.items t) (path_same t happened event no_item) refl;
  calls =
      front_of (records_of happened ++ x ∷ []) _ (met.calls + 1) _ log.calls (front_more (records_of happened) met.calls log.calls x has.calls next)
      (records_then happened event (Some x) is) refl;
}

item_front : (log : Log) (happened : List Event) (met : Met) (event : Event) (x : PathItem) → item_of event.note ≡ Some x → event.thread < 8
    → slice_get (logged log event.thread).path (get_or met.items event.thread 0) ≡ Some x → HasMet log happened met
    → (t : ℕ) (b : Bool) → nat_eq event.thread t ≡ b
    → IsFront (path_of t (happened ++ event ∷ [])) (get_or (set met.items event.thread (get_or met.items event.thread 0 + 1)) t 0) (logged log t).path
item_front log happened met event x is few next has t true same =
    let P : ℕ → Type 0 = λ u. IsFront (path_of u (happened ++ event ∷ [])) (get_or (set met.items event.thread (get_or met.items event.thread 0 + 1)) u 0) (logged log u).path in
    subst P (eqb-true event.thread t same)
    (front_of (path_of event.thread happened ++ x ∷ []) _ (get_or met.items event.thread 0 + 1) _ (logged log event.thread).path
    (front_more (path_of event.thread happened) (get_or met.items event.thread 0) (logged log event.thread).path x (has.items event.thread) next)
    (path_own happened event x is)
    (get_or-set_same met.items event.thread (get_or met.items event.thread 0 + 1) 0 (let eight : length met.items ≡ 8 = has.eight in omega arith)))
item_front log happened met event x is few next has t false other =
    let ne : t ≢ event.thread = λ (e : t ≡ event.thread). false≢true (sym other ∙ eq-eqb event.thread t (sym e)) in
    front_of (path_of t happened) _ (get_or met.items t 0) _ (logged log t).path (has.items t) (path_other t happened event other)
    (get_or-set_other met.items event.thread t (get_or met.items event.thread 0 + 1) 0 ne)

item_past : (log : Log) (happened : List Event) (met : Met) (event : Event) (x : PathItem) → item_of event.note ≡ Some x → record_in event ≡ None → event.thread < 8
    → slice_get (logged log event.thread).path (get_or met.items event.thread 0) ≡ Some x → HasMet log happened met
    → HasMet log (happened ++ event ∷ []) (past_item met event.thread)
item_past log happened met event x is no_call few next has = record {
  eight = length-set met.items event.thread (get_or met.items event.thread 0 + 1) ∙ has.eight;
  items = λ (t : ℕ). item_front log happened met event x is few next has t (nat_eq event.thread t) refl;
  calls = front_of (records_of happened) _ met.calls _ log.calls has.calls (records_same happened event no_call) refl;
}

counted_few : (log : Log) (event : Event) (b : Bool) → length log.threads ≤ 8 → (is_counted log event && b) ≡ true → event.thread < 8
counted_few log event b few e =
    let within : event.thread < length log.threads = ltb-true event.thread (length log.threads) (and_parts _ _ (and_parts _ _ e).0).0 in omega arith

pub met_past : (log : Log) (happened : List Event) (met : Met) (thread at : ℕ) (shown : Note) → length log.threads ≤ 8 → HasMet log happened met
    → is_next log met (record { thread = thread; at = at; note = shown }) shown ≡ true
    → HasMet log (happened ++ record { thread = thread; at = at; note = shown } ∷ []) (past met thread shown)
met_past log happened met thread at note.Nothing few has next = quiet_past log happened met _ refl refl has
met_past log happened met thread at (note.Branch taken) few has next =
    item_past log happened met (record { thread = thread; at = at; note = note.Branch taken }) (item.Branch taken) refl refl
    (counted_few log (record { thread = thread; at = at; note = note.Branch taken }) _ few next) (item_is (item.Branch taken) _ (and_parts _ _ next).1) has
met_past log happened met thread at (note.Jump target) few has next =
    item_past log happened met (record { thread = thread; at = at; note = note.Jump target }) (item.Jump target) refl refl
    (counted_few log (record { thread = thread; at = at; note = note.Jump target }) _ few next) (item_is (item.Jump target) _ (and_parts _ _ next).1) has
met_past log happened met thread at (note.Called call) few has next =
    call_past log happened met (record { thread = thread; at = at; note = note.Called call }) (record { tid = thread; at = at; call = call }) refl refl
    (record_is (record { tid = thread; at = at; call = call }) _ (and_parts _ _ next).1) has
met_past log happened met thread at (note.Faulted fault) few has next = quiet_past log happened met _ refl refl has
