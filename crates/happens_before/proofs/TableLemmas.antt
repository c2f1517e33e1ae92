-- What the table of an order says of the calls of its log.
use Rattle.std.specs.Prelude.{◌≡◌, ℕ, zero, suc, ◌+◌, ◌-◌, ◌<◌, ◌≤◌, ◌⊎◌, max, Bool, true, false, cond, List, [], ◌∷◌, ◌++◌, length, map, take, filter, fold, nat_eq, slice_get, Option, Some, None, All, Contains, refl}
use Rattle.std.specs.List.{enumerate_from, range_with_len}
use Rattle.std.specs.List.Sorted.{IsNonDecreasingBy, IsPartitionPoint}
use Rattle.std.proofs.Common.{sym, ◌∙◌, ap, subst, inl, inr, arith, get_or}
use Rattle.std.proofs.lemmas.Bool.{cases_lt, and_parts, and_from, eqb-true, eq-eqb, ltb-true, lt-ltb, false≢true}
use Rattle.std.proofs.lemmas.Option.{none-some, same_Some, slice_get_within, slice_get-get_or, get_or_from_slice_get}
use Rattle.std.proofs.lemmas.List.{length-map, get_or-map, get_or_default, get_or_past, map-append, take_all}
use Rattle.std.proofs.lemmas.List.Elements.{All-filter, filter_passes, filter_more}
use Rattle.std.proofs.lemmas.List.FromFn.{length-enumerate_from, get_or-enumerate_from, get_or-map-range_with_len, map-range_with_len_more}
use Rattle.std.proofs.lemmas.List.Kept.{IsNonDecreasingBy-filter}
use Rattle.std.proofs.lemmas.List.Sums.{fold_more}
use Rattle.odr_log.specs.declared.log.Call.{Call}
use Rattle.odr_log.specs.declared.log.Call.TheVariants as call
use Rattle.odr_log.specs.declared.log.CallRec.{CallRec}
use Rattle.odr_log.specs.declared.log.Log.{Log}
use Rattle.odr_log.specs.declared.log.Pos.{Pos}
use Rattle.odr_log.specs.declared.log.ThreadLog.{ThreadLog}
use Rattle.rv_model.specs.Run.{logged}
use Rattle.rv_model.specs.Walk.{makes}
use Rattle.rv_model.specs.CallsFit.{CallsFit}
use Rattle.rv_model.specs.RecordedOrder.{Counted}
use Rattle.happens_before.specs.declared.table.Mark.{Mark}
use Rattle.happens_before.specs.declared.table.ThreadCalls.{ThreadCalls}
use Rattle.happens_before.specs.Table.{is_counted_record, numbered, mark_of, is_call_of, is_maker, calls_of, maker_after, maker_number, calls_of_thread, IsOrderOf, thread_calls}
use Rattle.happens_before.specs.Reach.{IsCallAt, Leaves, Called, Made, IsLeast, IsGreatest, greater}
use Rattle.happens_before.proofs.ClosedForm.{at, calls_rise, same_step}

abbrev pub is_mark_of : Log → ℕ → ℕ × CallRec → Bool
is_mark_of log thread r = is_call_of log thread r.1

no_record : ℕ × CallRec
no_record = (0, record { tid = 0; at = 0; call = call.Yield })

-- the numbers of the records

numbered_at : (log : Log) (k : ℕ) (d : ℕ × CallRec) → k < length (numbered log) → get_or (numbered log) k d ≡ (k, get_or log.calls k d.1)
numbered_at log k d within =
    let count : k < length log.calls = omega (arith, within, length-enumerate_from 0 log.calls) in
    let zero_more : 0 + k ≡ k = omega arith in
    get_or-enumerate_from 0 log.calls k d count ∙ ap (λ (n : ℕ). let made : ℕ × CallRec = (n, get_or log.calls k d.1) in made) zero_more

numbered_all : (log : Log) → All (λ x. slice_get log.calls x.0 ≡ Some x.1) (numbered log)
numbered_all log k d within =
    subst (λ (x : ℕ × CallRec). slice_get log.calls x.0 ≡ Some x.1) (sym (numbered_at log k d within))
    (slice_get-get_or log.calls k d.1 (omega (arith, within, length-enumerate_from 0 log.calls)))

numbered_has : (log : Log) (n : ℕ) (r : CallRec) → slice_get log.calls n ≡ Some r → Contains (numbered log) (n, r)
numbered_has log n r is =
    let within : n < length (numbered log) = omega (arith, slice_get_within log.calls n r is, length-enumerate_from 0 log.calls) in
    (n, within, numbered_at log n (n, r) within ∙ ap (λ (x : CallRec). let made : ℕ × CallRec = (n, x) in made) (get_or_from_slice_get log.calls n r r is))

numbered_rise : (log : Log) → IsNonDecreasingBy (λ x. x.0) (numbered log)
numbered_rise log i j d le within =
    let first : (get_or (numbered log) i d).0 ≡ i = ap (λ (x : ℕ × CallRec). x.0) (numbered_at log i d (omega (arith, le, within))) in
    let second : (get_or (numbered log) j d).0 ≡ j = ap (λ (x : ℕ × CallRec). x.0) (numbered_at log j d within) in
    omega (arith, first, second, le)

-- filters and maps keep members

contains_cons : {A : Type 0} (b : Bool) (y x : A) (zs : List A) → Contains zs x → Contains (cond b (y ∷ zs) zs) x
contains_cons true y x zs has = (suc has.0, omega (arith, has.1), has.2)
contains_cons false y x zs has = has

contains_here : {A : Type 0} (b : Bool) (y x : A) (zs : List A) → b ≡ true → y ≡ x → Contains (cond b (y ∷ zs) zs) x
contains_here true y x zs is same = (0, omega arith, same)
contains_here false y x zs is same = absurd (false≢true is)

contains_filter : {A : Type 0} (p : A → Bool) (xs : List A) (x : A) (k : ℕ) → k < length xs → get_or xs k x ≡ x → p x ≡ true → Contains (filter p xs) x
contains_filter p [] x k within is passes = absurd (omega (arith, within))
contains_filter p (y ∷ ys) x zero within is passes = contains_here (p y) y x (filter p ys) (ap p is ∙ passes) is
contains_filter p (y ∷ ys) x (suc k) within is passes = contains_cons (p y) y x (filter p ys) (contains_filter p ys x k (omega (arith, within)) is passes)

contains_map : {A B : Type 0} (f : A → B) (xs : List A) (x : A) → Contains xs x → Contains (map f xs) (f x)
contains_map f xs x has = (has.0, omega (arith, has.1, length-map xs f), get_or-map f xs has.0 x (f x) has.1 ∙ ap f has.2)

rise_map : {A B : Type 0} (f : A → B) (n : B → ℕ) (xs : List A) (e : A) → IsNonDecreasingBy (λ x. n (f x)) xs → IsNonDecreasingBy n (map f xs)
rise_map f n xs e rises i j d le within =
    let count : j < length xs = omega (arith, within, length-map xs f) in
    omega (
      arith,
      ap n (get_or-map f xs i e d (omega (arith, count, le))),
      ap n (get_or-map f xs j e d count),
      rises i j e le count,
    )

-- the calls of a thread

call_at : (log : Log) (t n : ℕ) (r : CallRec) → slice_get log.calls n ≡ Some r → r.tid ≡ t → is_counted_record log r ≡ true → IsCallAt log t r.at n
call_at log t n r is same counted =
    subst (λ (u : ℕ). IsCallAt log u r.at n) same (ltb-true r.at (logged log r.tid).steps counted, record { made = r.call; is = is })

pub mark_is_call : (log : Log) (t k : ℕ) (d : Mark) → k < length (calls_of log t) → IsCallAt log t (get_or (calls_of log t) k d).step (get_or (calls_of log t) k d).number
unfolding no_record
mark_is_call log t k d within =
    let marks : List (ℕ × CallRec) = filter (is_mark_of log t) (numbered log) in
    let count : k < length marks = omega (arith, within, length-map marks mark_of) in
    let is : slice_get log.calls (get_or marks k no_record).0 ≡ Some (get_or marks k no_record).1 =
    All-filter (is_mark_of log t) (λ x. slice_get log.calls x.0 ≡ Some x.1) (numbered log) (numbered_all log) k no_record count in
    let parts : (nat_eq (get_or marks k no_record).1.tid t ≡ true) × (is_counted_record log (get_or marks k no_record).1 ≡ true) =
    and_parts _ _ (filter_passes (is_mark_of log t) (numbered log) k no_record count) in
    subst (λ (m : Mark). IsCallAt log t m.step m.number) (sym (get_or-map mark_of marks k no_record d count))
    (call_at log t (get_or marks k no_record).0 (get_or marks k no_record).1 is (eqb-true (get_or marks k no_record).1.tid t parts.0) parts.1)

pub call_is_mark : (log : Log) (t s n : ℕ) → IsCallAt log t s n → Contains (calls_of log t) (record { step = s; number = n })
call_is_mark log t s n called =
    let r : CallRec = record { tid = t; at = s; call = called.1.made } in
    let has : Contains (numbered log) (n, r) = numbered_has log n r called.1.is in
    let passes : is_mark_of log t (n, r) ≡ true = and_from _ _ (eq-eqb t t refl) (lt-ltb s (logged log t).steps called.0) in
    contains_map mark_of (filter (is_mark_of log t) (numbered log)) (n, r)
    (contains_filter (is_mark_of log t) (numbered log) (n, r) has.0 has.1 has.2 passes)

pub numbers_rise : (log : Log) (t : ℕ) → IsNonDecreasingBy (λ m. m.number) (calls_of log t)
numbers_rise log t =
    rise_map mark_of (λ m. m.number) (filter (is_mark_of log t) (numbered log)) no_record
    (IsNonDecreasingBy-filter (λ x. x.0) (is_mark_of log t) (numbered log) (numbered_rise log))

pub steps_rise : (log : Log) → CallsFit log → (t : ℕ) → IsNonDecreasingBy (λ m. m.step) (calls_of log t)
steps_rise log fit t i j d le within =
    let first : Mark = get_or (calls_of log t) i d in
    let second : Mark = get_or (calls_of log t) j d in
    let one : IsCallAt log t first.step first.number = mark_is_call log t i d (omega (arith, le, within)) in
    let two : IsCallAt log t second.step second.number = mark_is_call log t j d within in
    let rises : first.number ≤ second.number = numbers_rise log t i j d le within in
    elim (cases_lt first.number second.number) [
      | inl less ↦ omega (arith, calls_rise log fit t first.step second.step first.number second.number one.1 two.1 less)
      | inr past ↦
          let same : first.number ≡ second.number = omega (arith, rises, past) in
          omega (arith, ap (λ (p : Pos). p.step) (same_step log first.number second.number (at t first.step) (at t second.step) same one.1 two.1))
    ]

-- the table at a thread of a counted step

counted_within : (log : Log) (p : Pos) → Counted log p → p.thread < length log.threads
counted_within log p counted =
    elim (cases_lt p.thread (length log.threads)) [
      | inl within ↦ within
      | inr past ↦
          let none : logged log p.thread ≡ record { steps = 0; path = [] } = get_or_past log.threads p.thread (record { steps = 0; path = [] }) past in
          absurd (omega (arith, counted, ap (λ (l : ThreadLog). l.steps) none))
    ]

pub table_at : (order : List ThreadCalls) (log : Log) (p : Pos) → IsOrderOf order log → Counted log p → thread_calls order p.thread ≡ calls_of_thread log p.thread
table_at order log p is counted =
    ap (λ (o : List ThreadCalls). thread_calls o p.thread) is.table
    ∙ get_or-map-range_with_len (calls_of_thread log) 0 (length log.threads) p.thread p.thread (record { maker = None; calls = [] }) (counted_within log p counted) (omega arith)

-- the first call at a step or after it, and the last at a step or before it, by a partition of the calls

module _ (log : Log) (p : Pos) (marks : List Mark) (is : marks ≡ calls_of log p.thread) (i : ℕ) where
  call_there : (k : ℕ) (d : Mark) → k < length marks → IsCallAt log p.thread (get_or marks k d).step (get_or marks k d).number
  call_there k d within =
      subst (λ (ms : List Mark). IsCallAt log p.thread (get_or ms k d).step (get_or ms k d).number) (sym is)
      (mark_is_call log p.thread k d (omega (arith, within, ap (λ (ms : List Mark). length ms) is)))

  there_call : (s n : ℕ) → IsCallAt log p.thread s n → Contains marks (record { step = s; number = n })
  there_call s n called = subst (λ (ms : List Mark). Contains ms (record { step = s; number = n })) (sym is) (call_is_mark log p.thread s n called)

  number_at : (k : ℕ) (d e : Mark) → k < length marks → (get_or marks k d).number ≡ (get_or marks k e).number
  number_at k d e within = ap (λ (m : Mark). m.number) (get_or_default marks k d e within)

  rise_there : IsNonDecreasingBy (λ m. m.number) marks
  rise_there = subst (λ (ms : List Mark). IsNonDecreasingBy (λ m. m.number) ms) (sym is) (numbers_rise log p.thread)

  module _ (point : IsPartitionPoint (λ m. m.step < p.step) (λ m. p.step ≤ m.step) marks i) where
    not_left : (s n : ℕ) → p.step ≤ s → (has : Contains marks (record { step = s; number = n })) → i ≤ has.0
    not_left s n late has =
        elim (cases_lt has.0 i) [
          | inl before ↦ absurd (omega (arith, point.0 has.0 (record { step = s; number = n }) (omega arith) before, late, ap (λ (m : Mark). m.step) has.2))
          | inr past ↦ past
        ]

    pub leaves_first : (d : Mark) → i < length marks → IsLeast (Leaves log p) (Some (get_or marks i d).number)
    leaves_first d within = (
      ((get_or marks i d).step, point.1 i d (omega arith) within, call_there i d within),
      λ n leaves.
          let mark : Mark = record { step = leaves.0; number = n } in
          let has : Contains marks mark = there_call leaves.0 n leaves.2 in
          let place : i ≤ has.0 = not_left leaves.0 n leaves.1 has in
          omega (arith, rise_there i has.0 mark place has.1, ap (λ (m : Mark). m.number) has.2, number_at i d mark within),
    )

    pub leaves_none : length marks ≤ i → IsLeast (Leaves log p) None
    leaves_none past n leaves =
        let has : Contains marks (record { step = leaves.0; number = n }) = there_call leaves.0 n leaves.2 in
        omega (arith, not_left leaves.0 n leaves.1 has, has.1, past)

  module _ (point : IsPartitionPoint (λ m. m.step < p.step + 1) (λ m. p.step + 1 ≤ m.step) marks i) where
    in_front : (s n : ℕ) → s ≤ p.step → (has : Contains marks (record { step = s; number = n })) → has.0 < i
    in_front s n early has =
        elim (cases_lt has.0 i) [
          | inl before ↦ before
          | inr past ↦ absurd (omega (arith, point.1 has.0 (record { step = s; number = n }) past has.1, early, ap (λ (m : Mark). m.step) has.2))
        ]

    pub called_last : (d : Mark) → 0 < i → i ≤ length marks → IsGreatest (Called log p) (Some (get_or marks (i - 1) d).number)
    called_last d some within =
        let last_within : i - 1 < length marks = omega (arith, some, within) in (
          ((get_or marks (i - 1) d).step, omega (arith, point.0 (i - 1) d (omega arith) (omega (arith, some))), call_there (i - 1) d last_within),
          λ n called.
              let mark : Mark = record { step = called.0; number = n } in
              let has : Contains marks mark = there_call called.0 n called.2 in
              let place : has.0 < i = in_front called.0 n called.1 has in
              omega (arith, rise_there has.0 (i - 1) mark (omega (arith, place)) last_within, ap (λ (m : Mark). m.number) has.2, number_at (i - 1) d mark last_within),
        )

    pub called_none : i ≡ 0 → IsGreatest (Called log p) None
    called_none none n called =
        let has : Contains marks (record { step = called.0; number = n }) = there_call called.0 n called.2 in
        omega (arith, in_front called.0 n called.1 has, none)

-- the spawn that made a thread

greatest_as : (P Q : ℕ → Type 0) (o : Option ℕ) → ((n : ℕ) → P n → Q n) → ((n : ℕ) → Q n → P n) → IsGreatest P o → IsGreatest Q o
greatest_as P Q None to from greatest = λ n q. greatest n (from n q)
greatest_as P Q (Some m) to from greatest = (to m greatest.0, λ n q. greatest.1 n (from n q))

-- the greater of two greatest numbers is the greatest with either property
pub greatest_either : (P Q : ℕ → Type 0) (a b : Option ℕ) → IsGreatest P a → IsGreatest Q b → IsGreatest (λ n. P n ⊎ Q n) (greater a b)
greatest_either P Q None None p q = λ n e. elim e [ inl x ↦ p n x | inr y ↦ q n y ]
greatest_either P Q None (Some b) p q = (inr q.0, λ n e. elim e [ inl x ↦ absurd (p n x) | inr y ↦ q.1 n y ])
greatest_either P Q (Some a) None p q = (inl p.0, λ n e. elim e [ inl x ↦ p.1 n x | inr y ↦ absurd (q n y) ])
greatest_either P Q (Some a) (Some b) p q = (
  elim (cases_lt a b) [
    | inl less ↦ inr (subst Q (let same : b ≡ max a b = omega (arith, less) in same) q.0)
    | inr past ↦ inl (subst P (let same : a ≡ max a b = omega (arith, past) in same) p.0)
  ],
  λ n e. elim e [ inl x ↦ omega (arith, p.1 n x) | inr y ↦ omega (arith, q.1 n y) ],
)

-- the number, from n on, of a record that is a counted spawn of the thread
abbrev MadeFrom : Log → ℕ → ℕ → List CallRec → ℕ → Type 0
MadeFrom log t n records k = (i : ℕ) × (r : CallRec) × (n + i ≡ k) × (slice_get records i ≡ Some r) × (is_maker log t r ≡ true)

made_here : (b : Bool) (P : ℕ → Type 0) (n : ℕ) (acc : Option ℕ) → ((k : ℕ) → P k → k < n) → IsGreatest P acc
    → IsGreatest (λ k. P k ⊎ ((k ≡ n) × (b ≡ true))) (cond b (Some n) acc)
made_here true P n acc below greatest = (inr (refl, refl), λ k e. elim e [ inl x ↦ omega (arith, below k x) | inr y ↦ omega (arith, y.0) ])
made_here false P n acc below greatest =
    greatest_as P (λ k. P k ⊎ ((k ≡ n) × (false ≡ true))) acc (λ k x. inl x)
    (λ k e. elim e [ inl x ↦ x | inr y ↦ absurd (false≢true y.1) ]) greatest

made_cons : (log : Log) (t n k : ℕ) (x : CallRec) (xs : List CallRec) → MadeFrom log t n (x ∷ xs) k → ((k ≡ n) × (is_maker log t x ≡ true)) ⊎ MadeFrom log t (n + 1) xs k
made_cons log t n k x xs (zero, r, same, is, maker) =
    inl (omega (arith, same), ap (is_maker log t) (same_Some x r is) ∙ maker)
made_cons log t n k x xs (suc i, r, same, is, maker) = inr (i, r, omega (arith, same), is, maker)

makers : (log : Log) (t n : ℕ) (records : List CallRec) (acc : Option ℕ) (P : ℕ → Type 0) → ((k : ℕ) → P k → k < n) → IsGreatest P acc
    → IsGreatest (λ k. P k ⊎ MadeFrom log t n records k) (fold (maker_after log t) acc (enumerate_from n records))
makers log t n [] acc P below greatest =
    greatest_as P (λ k. P k ⊎ MadeFrom log t n [] k) acc (λ k x. inl x)
    (λ k e. elim e [ inl x ↦ x | inr made ↦ absurd (none-some made.1 made.3) ]) greatest
makers log t n (x ∷ xs) acc P below greatest =
    let Q : ℕ → Type 0 = λ (k : ℕ). P k ⊎ ((k ≡ n) × (is_maker log t x ≡ true)) in
    let start : IsGreatest Q (cond (is_maker log t x) (Some n) acc) = made_here (is_maker log t x) P n acc below greatest in
    let more : IsGreatest (λ k. Q k ⊎ MadeFrom log t (n + 1) xs k) (fold (maker_after log t) (cond (is_maker log t x) (Some n) acc) (enumerate_from (n + 1) xs)) =
    makers log t (n + 1) xs (cond (is_maker log t x) (Some n) acc) Q
    (λ k e. elim e [ inl p ↦ omega (arith, below k p) | inr y ↦ omega (arith, y.0) ]) start in
    greatest_as (λ k. Q k ⊎ MadeFrom log t (n + 1) xs k) (λ k. P k ⊎ MadeFrom log t n (x ∷ xs) k)
    (fold (maker_after log t) (cond (is_maker log t x) (Some n) acc) (enumerate_from (n + 1) xs))
    (λ k e. elim e [
      | inl q ↦ elim q [ inl p ↦ inl p | inr y ↦ inr (0, x, omega (arith, y.0), refl, y.1) ]
      | inr made ↦ inr (made.0 + 1, made.1, omega (arith, made.2), subst (λ (j : ℕ). slice_get (x ∷ xs) j ≡ Some made.1) (let next : suc made.0 ≡ made.0 + 1 = omega arith in next) made.3, made.4)
    ])
    (λ k e. elim e [
      | inl p ↦ inl (inl p)
      | inr made ↦ elim (made_cons log t n k x xs made) [ inl y ↦ inl (inr y) | inr later ↦ inr later ]
    ])
    more

spawn_of : (t : ℕ) (c : Call) → makes t c ≡ true → (entry : ℕ) × (c ≡ call.Spawn entry (Some t))
spawn_of t (call.Spawn entry (Some child)) is = (entry, ap (λ (u : ℕ). call.Spawn entry (Some u)) (eqb-true child t is))
spawn_of t (call.Spawn entry None) is = absurd (false≢true is)
spawn_of t other is = absurd (false≢true is)

made_from : (log : Log) (t k : ℕ) → MadeFrom log t 0 log.calls k → Made log t k
made_from log t k (i, r, same, is, maker) =
    let parts : (makes t r.call ≡ true) × (is_counted_record log r ≡ true) = and_parts _ _ maker in
    let spawn : (entry : ℕ) × (r.call ≡ call.Spawn entry (Some t)) = spawn_of t r.call parts.0 in
    let place : i ≡ k = omega (arith, same) in (
      at r.tid r.at,
      spawn.0,
      ltb-true r.at (logged log r.tid).steps parts.1,
      ap (slice_get log.calls) (sym place) ∙ is
          ∙ ap (λ (c : Call). let made : Option CallRec = Some (record { tid = r.tid; at = r.at; call = c }) in made) spawn.1,
    )

from_made : (log : Log) (t k : ℕ) → Made log t k → MadeFrom log t 0 log.calls k
from_made log t k made = (
  k,
  record { tid = made.0.thread; at = made.0.step; call = call.Spawn made.1 (Some t) },
  omega arith,
  made.3,
  and_from _ _ (eq-eqb t t refl) (lt-ltb made.0.step (logged log made.0.thread).steps made.2),
)

pub maker_greatest : (log : Log) (t : ℕ) → IsGreatest (Made log t) (maker_number log t)
maker_greatest log t =
    greatest_as (λ k. ⊥ ⊎ MadeFrom log t 0 log.calls k) (Made log t) (maker_number log t)
    (λ k e. elim e [ inl never ↦ absurd never | inr made ↦ made_from log t k made ])
    (λ k made. inr (from_made log t k made))
    (makers log t 0 log.calls None (λ k. ⊥) (λ k never. absurd never) (λ k never. never))

-- one record more, in the loops that gather

map_cond : (b : Bool) (x : ℕ × CallRec) → map mark_of (cond b (x ∷ []) []) ≡ cond b (mark_of x ∷ []) []
map_cond true x = refl
map_cond false x = refl

-- the calls of a thread, and the spawn that made it, among the first records
abbrev pub calls_among : Log → ℕ → ℕ → List Mark
calls_among log t i = map mark_of (filter (is_mark_of log t) (take i (numbered log)))

abbrev pub maker_among : Log → ℕ → ℕ → Option ℕ
maker_among log t i = fold (maker_after log t) None (take i (numbered log))

numbered_next : (log : Log) (items : List CallRec) (i : ℕ) (r : CallRec) → items ≡ log.calls → i < length items → r ≡ get_or items i r
    → (i < length (numbered log)) × (get_or (numbered log) i (i, r) ≡ (i, r))
numbered_next log items i r same within is =
    let count : i < length (numbered log) = omega (arith, within, ap (λ (l : List CallRec). length l) same, length-enumerate_from 0 log.calls) in
    let there : r ≡ get_or log.calls i r = is ∙ ap (λ (l : List CallRec). get_or l i r) same in
    (count, numbered_at log i (i, r) count ∙ ap (λ (x : CallRec). let made : ℕ × CallRec = (i, x) in made) (sym there))

pub calls_more : (log : Log) (t : ℕ) (items : List CallRec) (i : ℕ) (r : CallRec) → items ≡ log.calls → i < length items → r ≡ get_or items i r
    → calls_among log t (i + 1) ≡ calls_among log t i ++ cond (is_call_of log t r) (record { step = r.at; number = i } ∷ []) []
calls_more log t items i r same within is =
    let next : (i < length (numbered log)) × (get_or (numbered log) i (i, r) ≡ (i, r)) = numbered_next log items i r same within is in
    ap (map mark_of) (filter_more (is_mark_of log t) (numbered log) i (i, r) next.0
    ∙ ap (λ (x : ℕ × CallRec). filter (is_mark_of log t) (take i (numbered log)) ++ cond (is_mark_of log t x) (x ∷ []) []) next.1)
    ∙ map-append mark_of (filter (is_mark_of log t) (take i (numbered log))) (cond (is_mark_of log t (i, r)) ((i, r) ∷ []) [])
    ∙ ap (λ (l : List Mark). calls_among log t i ++ l) (map_cond (is_mark_of log t (i, r)) (i, r))

pub maker_more : (log : Log) (t : ℕ) (items : List CallRec) (i : ℕ) (r : CallRec) → items ≡ log.calls → i < length items → r ≡ get_or items i r
    → maker_among log t (i + 1) ≡ cond (is_maker log t r) (Some i) (maker_among log t i)
maker_more log t items i r same within is =
    let next : (i < length (numbered log)) × (get_or (numbered log) i (i, r) ≡ (i, r)) = numbered_next log items i r same within is in
    fold_more (maker_after log t) None (numbered log) i (i, r) next.0 ∙ ap (maker_after log t (maker_among log t i)) next.1

numbered_all_taken : (log : Log) (items : List CallRec) (i : ℕ) → items ≡ log.calls → length items ≤ i → take i (numbered log) ≡ numbered log
numbered_all_taken log items i same past =
    take_all i (numbered log) (omega (arith, past, ap (λ (l : List CallRec). length l) same, length-enumerate_from 0 log.calls))

pub calls_all : (log : Log) (t : ℕ) (items : List CallRec) (i : ℕ) → items ≡ log.calls → length items ≤ i → calls_among log t i ≡ calls_of log t
calls_all log t items i same past = ap (λ (l : List (ℕ × CallRec)). map mark_of (filter (is_mark_of log t) l)) (numbered_all_taken log items i same past)

pub maker_all : (log : Log) (t : ℕ) (items : List CallRec) (i : ℕ) → items ≡ log.calls → length items ≤ i → maker_among log t i ≡ maker_number log t
maker_all log t items i same past = ap (fold (maker_after log t) None) (numbered_all_taken log items i same past)

-- the table, with one thread more
pub order_more : (log : Log) (n : ℕ) (threads : List ThreadCalls) (maker : Option ℕ) (calls : List Mark)
    → threads ≡ map (calls_of_thread log) (range_with_len 0 n) → maker ≡ maker_number log n → calls ≡ calls_of log n
    → threads ++ record { maker = maker; calls = calls } ∷ [] ≡ map (calls_of_thread log) (range_with_len 0 (n + 1))
order_more log n threads maker calls so_far maker_is calls_are =
    let last : record { maker = maker; calls = calls } ≡ calls_of_thread log n =
    ap (λ (m : Option ℕ). let made : ThreadCalls = record { maker = m; calls = calls } in made) maker_is
    ∙ ap (λ (l : List Mark). let made : ThreadCalls = record { maker = maker_number log n; calls = l } in made) calls_are in
    ap (λ (l : List ThreadCalls). l ++ record { maker = maker; calls = calls } ∷ []) so_far
    ∙ ap (λ (t : ThreadCalls). map (calls_of_thread log) (range_with_len 0 n) ++ t ∷ []) last
    ∙ sym (map-range_with_len_more (calls_of_thread log) 0 n n (omega arith))

-- what a partition of a thread's calls gives, by the table

module _ (order : List ThreadCalls) (log : Log) (p : Pos) (is : IsOrderOf order log) (counted : Counted log p)
    (marks : List Mark) (same : marks ≡ (thread_calls order p.thread).calls) (end i : ℕ)
    (points : IsNonDecreasingBy (λ m. m.step) marks → IsPartitionPoint (λ m. m.step < end) (λ m. end ≤ m.step) marks i) where
  marks_are : marks ≡ calls_of log p.thread
  marks_are = same ∙ ap (λ (t : ThreadCalls). t.calls) (table_at order log p is counted)

  point : IsPartitionPoint (λ m. m.step < end) (λ m. end ≤ m.step) marks i
  point = points (subst (λ (ms : List Mark). IsNonDecreasingBy (λ m. m.step) ms) (sym marks_are) (steps_rise log is.fit p.thread))

  point_at : (n : ℕ) → end ≡ n → IsPartitionPoint (λ m. m.step < n) (λ m. n ≤ m.step) marks i
  point_at n e = subst (λ (k : ℕ). IsPartitionPoint (λ m. m.step < k) (λ m. k ≤ m.step) marks i) e point

  pub leave_some : (d : Mark) → end ≡ p.step → i < length marks → IsLeast (Leaves log p) (Some (get_or marks i d).number)
  leave_some d e within = leaves_first log p marks marks_are i (point_at p.step e) d within

  pub leave_none : end ≡ p.step → length marks ≤ i → IsLeast (Leaves log p) None
  leave_none e past = leaves_none log p marks marks_are i (point_at p.step e) past

  pub last_some : (d : Mark) → end ≡ p.step + 1 → 0 < i → i ≤ length marks → IsGreatest (Called log p) (Some (get_or marks (i - 1) d).number)
  last_some d e some within = called_last log p marks marks_are i (point_at (p.step + 1) e) d some within

  pub last_none : end ≡ p.step + 1 → i ≡ 0 → IsGreatest (Called log p) None
  last_none e none = called_none log p marks marks_are i (point_at (p.step + 1) e) none
