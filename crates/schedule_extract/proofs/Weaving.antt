-- Weaving goes on until all steps but the exit are taken.
use Rattle.std.specs.Prelude.{◌≡◌, ◌≢◌, ℕ, zero, suc, ◌+◌, ◌-◌, ◌<◌, ◌≤◌, ◌⊎◌, Bool, true, false, cond, List, [], ◌∷◌, ◌++◌, length, replicate, slice_get, slice_set, Option, Some, None, refl}
use Rattle.std.proofs.Common.{sym, ◌∙◌, ap, subst, arith, inl, inr, get_or, eq-eqb}
use Rattle.std.proofs.lemmas.Bool.{cases_lt, cases_eq, false≢true, ne_eqb}
use Rattle.std.proofs.lemmas.List.{get_or-replicate, get_or_past, get_or-set_same, get_or-set_other, length-replicate, length-set}
use Rattle.std.proofs.lemmas.Option.{none-some, same_Some}
use Rattle.odr_log.specs.declared.log.Call.TheVariants as call
use Rattle.odr_log.specs.declared.log.CallRec.{CallRec}
use Rattle.odr_log.specs.declared.log.Log.{Log}
use Rattle.odr_log.specs.declared.log.Pos.{Pos}
use Rattle.rv_model.specs.Run.{logged}
use Rattle.rv_model.specs.CallsFit.{CallsFit}
use Rattle.rv_model.specs.RecordedOrder.{One, More, Counted, CountedEdge, Edge, InThread, ByCalls, BySpawn, IsStepOf}
use Rattle.happens_before.proofs.ClosedForm.{calls_rise}
use Rattle.guided_walk.specs.Law.{holds}
use Rattle.guided_walk.specs.Orders.{In}
use Rattle.guided_walk.specs.Ordered.{IsExit}
use Rattle.guided_walk.specs.Schedules.{places, times, next_of}
use Rattle.guided_walk.proofs.Placing.{done_after, in-append, place_in, places-append, times-append}
use Rattle.guided_walk.proofs.Records.{at_among, rec}
use Rattle.guided_walk.proofs.Table.{same_pos}
use Rattle.walk_orders.proofs.Exits.{contains_among, earlier_goes}
use Rattle.walk_orders.proofs.Lists.{stands_across, stands_left}
use Rattle.walk_orders.proofs.Weaving.{counted_after, from_counted, to_counted}
use Rattle.schedule_extract.specs.Going.{ExitsEnd, Follows, Goes, IsExitOf, IsGoing, IsReady, IsStuck, Lacks, NoRing, PairsCounted, PairsGoOn, Precedes, head}
use Rattle.schedule_extract.proofs.Standing.{counted_thread}

-- what is known of a log and of pairs that are woven
pub record Scene (log : Log) (pairs : List (Pos × Pos)) (exit : Option Pos) : Type 0 where
  pub fit : CallsFit log
  pub exit_is : IsExitOf log exit
  pub ends : ExitsEnd log
  pub counted : PairsCounted log pairs
  pub go_on : PairsGoOn log pairs
  pub ring : NoRing log pairs

pub precedes_counted : (log : Log) (pairs : List (Pos × Pos)) (exit : Option Pos) (p q : Pos) → Scene log pairs exit → Precedes log pairs p q
    → Counted log p × Counted log q
precedes_counted log pairs exit p q scene (inl order) = (from_counted log p q order, to_counted log p q order)
precedes_counted log pairs exit p q scene (inr pair) = scene.counted p q pair

-- ---- an exit stands before nothing

pub exit_by_scene : (log : Log) (pairs : List (Pos × Pos)) (exit : Option Pos) (p : Pos) → Scene log pairs exit → exit ≡ Some p → IsExit log p
exit_by_scene log pairs exit p scene e = subst (IsExitOf log) e scene.exit_is

same_number : (log : Log) → CallsFit log → (p : Pos) (m n : ℕ) → IsStepOf log m p → IsStepOf log n p → m ≡ n
same_number log fit p m n one other = elim (cases_lt m n) [
  | inl less ↦ absurd (let rise : p.step < p.step = calls_rise log fit p.thread p.step p.step m n one other less in omega (arith, rise))
  | inr le ↦ elim (cases_lt n m) [
    | inl more ↦ absurd (let rise : p.step < p.step = calls_rise log fit p.thread p.step p.step n m other one more in omega (arith, rise))
    | inr ge ↦ omega (arith, le, ge)
  ]
]

no_spawn : (code entry : ℕ) (child : Option ℕ) → call.Exit code ≡ call.Spawn entry child → ⊥
no_spawn code entry child e = cc

exit_edge : (log : Log) → CallsFit log → ExitsEnd log → (p q : Pos) → IsExit log p → CountedEdge log p q → Edge log p q → ⊥
exit_edge log fit ends p q exit edge e = by_edge e where
  made : CallRec
  made = rec p.thread p.step (call.Exit exit.0)

  at : (i : ℕ) × (slice_get log.calls i ≡ Some made)
  at = at_among log.calls made (contains_among log.calls made exit.1)

  here : IsStepOf log at.0 p
  here = record { made = call.Exit exit.0; is = at.1 }

  by_edge : Edge log p q → ⊥
  by_edge (InThread same less) =
      let last : p.step + 1 ≡ (logged log q.thread).steps = ends p exit ∙ ap (λ (t : ℕ). (logged log t).steps) same in
      let to : q.step < (logged log q.thread).steps = edge.to in
      absurd (omega (arith, last, less, to))
  by_edge (ByCalls {earlier = m} {later = n} a b less) =
      let same : m ≡ at.0 = same_number log fit p m at.0 a here in
      false≢true (sym (earlier_goes log fit at.0 n made (rec q.thread q.step b.made) at.1 b.is (omega (arith, same, less))))
  by_edge (BySpawn {entry = entry} has) =
      let other : CallRec = rec p.thread p.step (call.Spawn entry (Some q.thread)) in
      let there : (i : ℕ) × (slice_get log.calls i ≡ Some other) = at_among log.calls other (contains_among log.calls other has) in
      let same : at.0 ≡ there.0 = same_number log fit p at.0 there.0 here (record { made = call.Spawn entry (Some q.thread); is = there.1 }) in
      no_spawn exit.0 entry (Some q.thread) (ap (λ (x : CallRec). x.call) (same_Some made other (sym at.1 ∙ ap (slice_get log.calls) same ∙ there.1)))

pub exit_ends_all : (log : Log) (pairs : List (Pos × Pos)) (exit : Option Pos) (p q : Pos) → Scene log pairs exit → exit ≡ Some p → Precedes log pairs p q → ⊥
exit_ends_all log pairs exit p q scene e (inl (One edge)) = exit_edge log scene.fit scene.ends p q (exit_by_scene log pairs exit p scene e) edge edge.edge
exit_ends_all log pairs exit p q scene e (inl (More {q = x} edge rest)) =
    exit_edge log scene.fit scene.ends p x (exit_by_scene log pairs exit p scene e) edge edge.edge
exit_ends_all log pairs exit p q scene e (inr pair) = scene.go_on p q pair (exit_by_scene log pairs exit p scene e)

-- ---- steps that go

same_or : (p q : Pos) → (p ≡ q) ⊎ (p ≡ q → ⊥)
same_or p q = elim (cases_eq p.thread q.thread) [
  | inl thread ↦ elim (cases_eq p.step q.step) [
    | inl step ↦ inl (same_pos p q (sym thread) (sym step))
    | inr ne ↦ inr (λ (e : p ≡ q). ne (ap (λ (x : Pos). x.step) e))
  ]
  | inr ne ↦ inr (λ (e : p ≡ q). ne (ap (λ (x : Pos). x.thread) e))
]

pub exit_or : (exit : Option Pos) (p : Pos) → (exit ≡ Some p) ⊎ (exit ≡ Some p → ⊥)
exit_or None p = inr (λ (e : None ≡ Some p). none-some p e)
exit_or (Some x) p = elim (same_or x p) [
  | inl same ↦ inl (ap (λ (y : Pos). Some y) same)
  | inr ne ↦ inr (λ (e : Some x ≡ Some p). ne (same_Some x p e))
]

goes_or : (log : Log) (exit : Option Pos) (p : Pos) → Goes log exit p ⊎ (Goes log exit p → ⊥)
goes_or log exit p = elim (cases_lt p.step (logged log p.thread).steps) [
  | inl less ↦ elim (exit_or exit p) [
    | inl same ↦ inr (λ (goes : Goes log exit p). goes.1 same)
    | inr ne ↦ inl (less, ne)
  ]
  | inr past ↦ inr (λ (goes : Goes log exit p). absurd (let counted : p.step < (logged log p.thread).steps = goes.0 in omega (arith, past, counted)))
]

-- the next step of a thread with a step that goes and was not taken
head_goes : (log : Log) (pairs : List (Pos × Pos)) (exit : Option Pos) (next : List ℕ) (p : Pos) → Scene log pairs exit → Goes log exit p
    → get_or next p.thread 0 ≤ p.step
    → Goes log exit (head next p.thread)
head_goes log pairs exit next p scene goes past =
    let counted : p.step < (logged log p.thread).steps = goes.0 in (
      omega (arith, past, counted),
      λ (e : exit ≡ Some (head next p.thread)).
          let last : get_or next p.thread 0 + 1 ≡ (logged log p.thread).steps =
          scene.ends (head next p.thread) (exit_by_scene log pairs exit (head next p.thread) scene e) in
          let at : p.step ≡ get_or next p.thread 0 = omega (arith, past, last, counted) in
          goes.1 (e ∙ ap (λ (y : Pos). Some y) (same_pos (head next p.thread) p refl at)),
    )

head_before : (log : Log) (pairs : List (Pos × Pos)) (exit : Option Pos) (next : List ℕ) (p q : Pos) → (scene : Scene log pairs exit)
    → Precedes log pairs p q → get_or next p.thread 0 ≤ p.step
    → holds scene.ring.before (head next p.thread) q
head_before log pairs exit next p q scene precedes past =
    let counted : Counted log p × Counted log q = precedes_counted log pairs exit p q scene precedes in
    let from : p.step < (logged log p.thread).steps = counted.0 in
    let first : Counted log (head next p.thread) = omega (arith, past, from) in
    let has : holds scene.ring.before p q = scene.ring.has p q precedes in
    elim (cases_lt (get_or next p.thread 0) p.step) [
      | inl less ↦ scene.ring.transitive (head next p.thread) p q first counted.0 counted.1
          (scene.ring.has (head next p.thread) p (inl (One (record { from = first; to = counted.0; edge = InThread refl less })))) has
      | inr le ↦ subst (λ (x : Pos). holds scene.ring.before x q) (sym (same_pos (head next p.thread) p refl (omega (arith, past, le)))) has
    ]

-- ---- where all are stuck, none goes

record Earlier (log : Log) (exit : Option Pos) (next : List ℕ) (before : Pos → Pos → Bool) (t : ℕ) : Type 0 where
  pub thread : ℕ
  pub goes : Goes log exit (head next thread)
  pub earlier : holds before (head next thread) (head next t)

stuck_earlier : (log : Log) (pairs : List (Pos × Pos)) (exit : Option Pos) (next : List ℕ) → (scene : Scene log pairs exit)
    → ((t : ℕ) → t < length log.threads → IsStuck log pairs exit next t) → (t : ℕ) → Goes log exit (head next t) → Earlier log exit next scene.ring.before t
stuck_earlier log pairs exit next scene stuck t goes =
    let first : (p : Pos) × Lacks log pairs next (head next t) p = stuck t (counted_thread log (head next t) goes.0) goes in
    let p : Pos = first.0 in
    let precedes : Precedes log pairs p (head next t) = first.1.0 in
    let past : get_or next p.thread 0 ≤ p.step = first.1.1 in
    let on : Goes log exit p = (
      (precedes_counted log pairs exit p (head next t) scene precedes).0,
      λ (e : exit ≡ Some p). exit_ends_all log pairs exit p
          (head next t) scene e precedes,
    ) in
    record {
      thread = p.thread;
      goes = head_goes log pairs exit next p scene on past;
      earlier =
          head_before log pairs exit next p (head next t) scene precedes past;
    }

-- of the first n threads
record IsFirst (log : Log) (exit : Option Pos) (next : List ℕ) (before : Pos → Pos → Bool) (n : ℕ) : Type 0 where
  pub thread : ℕ
  pub goes : Goes log exit (head next thread)
  pub first : (t : ℕ) → t < n → Goes log exit (head next t) → holds before (head next t) (head next thread) → ⊥

bool_or : (b : Bool) → (b ≡ true) ⊎ (b ≡ true → ⊥)
bool_or true = inl refl
bool_or false = inr (λ (e : false ≡ true). false≢true e)

first_more : (log : Log) (pairs : List (Pos × Pos)) (exit : Option Pos) (next : List ℕ) → (scene : Scene log pairs exit) → (n : ℕ) → Goes log exit (head next n)
    → IsFirst log exit next scene.ring.before n → IsFirst log exit next scene.ring.before (suc n)
first_more log pairs exit next scene n goes first = elim (bool_or (scene.ring.before (head next n) (head next first.thread))) [
  | inl less ↦ record {
    thread = n;
    goes = goes;
    first = λ (t : ℕ) (within : t < suc n) (on : Goes log exit (head next t)) (earlier : holds scene.ring.before (head next t) (head next n)). elim
        (cases_lt t n) [
          | inl below ↦ first.first t below on
              (scene.ring.transitive (head next t) (head next n) (head next first.thread) on.0 goes.0 first.goes.0 earlier less)
          | inr past ↦ (let same : t ≡ n = omega (arith, within, past) in
              scene.ring.strict (head next n) goes.0 (subst (λ (u : ℕ). holds scene.ring.before (head next u) (head next n)) same earlier))
        ];
  }
  | inr more ↦ record {
    thread = first.thread;
    goes = first.goes;
    first = λ (t : ℕ) (within : t < suc n) (on : Goes log exit (head next t))
        (earlier : holds scene.ring.before (head next t) (head next first.thread)). elim (cases_lt t n) [
          | inl below ↦ first.first t below on earlier
          | inr past ↦ (let same : t ≡ n = omega (arith, within, past) in
              more (subst (λ (u : ℕ). holds scene.ring.before (head next u) (head next first.thread)) same earlier))
        ];
  }
]

first_alone : (log : Log) (pairs : List (Pos × Pos)) (exit : Option Pos) (next : List ℕ) → (scene : Scene log pairs exit) → (n : ℕ)
    → Goes log exit (head next n)
    → ((t : ℕ) → t < n → Goes log exit (head next t) → ⊥) → IsFirst log exit next scene.ring.before (suc n)
first_alone log pairs exit next scene n goes none = record {
  thread = n;
  goes = goes;
  first = λ (t : ℕ) (within : t < suc n) (on : Goes log exit (head next t)) (earlier : holds scene.ring.before (head next t) (head next n)). elim
      (cases_lt t n) [
        | inl below ↦ none t below on
        | inr past ↦ (let same : t ≡ n = omega (arith, within, past) in
            scene.ring.strict (head next n) goes.0 (subst (λ (u : ℕ). holds scene.ring.before (head next u) (head next n)) same earlier))
      ];
}

none_more : (log : Log) (exit : Option Pos) (next : List ℕ) (n : ℕ) → (Goes log exit (head next n) → ⊥) → ((t : ℕ) → t < n → Goes log exit (head next t) → ⊥)
    → (t : ℕ) → t < suc n → Goes log exit (head next t) → ⊥
none_more log exit next n stays none t within on = elim (cases_lt t n) [
  | inl below ↦ none t below on
  | inr past ↦ (let same : t ≡ n = omega (arith, within, past) in stays (subst (λ (u : ℕ). Goes log exit (head next u)) same on))
]

none_or_first : (log : Log) (pairs : List (Pos × Pos)) (exit : Option Pos) (next : List ℕ) → (scene : Scene log pairs exit) → (n : ℕ)
    → ((t : ℕ) → t < n → Goes log exit (head next t) → ⊥) ⊎ IsFirst log exit next scene.ring.before n
none_or_first log pairs exit next scene zero = inl (λ (t : ℕ) (within : t < 0) (on : Goes log exit (head next t)). absurd (omega (arith, within)))
none_or_first log pairs exit next scene (suc n) = elim (none_or_first log pairs exit next scene n) [
  | inl none ↦ elim (goes_or log exit (head next n)) [
    | inl goes ↦ inr (first_alone log pairs exit next scene n goes none)
    | inr stays ↦ inl (none_more log exit next n stays none)
  ]
  | inr first ↦ elim (goes_or log exit (head next n)) [
    | inl goes ↦ inr (first_more log pairs exit next scene n goes first)
    | inr stays ↦ inr (record {
      thread = first.thread;
      goes = first.goes;
      first = λ (t : ℕ) (within : t < suc n) (on : Goes log exit (head next t))
          (earlier : holds scene.ring.before (head next t) (head next first.thread)). elim (cases_lt t n) [
            | inl below ↦ first.first t below on earlier
            | inr past ↦ (let same : t ≡ n = omega (arith, within, past) in stays (subst (λ (u : ℕ). Goes log exit (head next u)) same on))
          ];
    })
  ]
]

none_goes : (log : Log) (pairs : List (Pos × Pos)) (exit : Option Pos) (next : List ℕ) → Scene log pairs exit
    → ((t : ℕ) → t < length log.threads → IsStuck log pairs exit next t) → (t : ℕ) → Goes log exit (head next t) → ⊥
none_goes log pairs exit next scene stuck t goes = elim (none_or_first log pairs exit next scene (length log.threads)) [
  | inl none ↦ none t (counted_thread log (head next t) goes.0) goes
  | inr first ↦ (let e : Earlier log exit next scene.ring.before first.thread = stuck_earlier log pairs exit next scene stuck first.thread first.goes in
      first.first e.thread (counted_thread log (head next e.thread) e.goes.0) e.goes e.earlier)
]

-- ---- the loop

-- how far weaving has come
pub record IsWeaving (log : Log) (pairs : List (Pos × Pos)) (exit : Option Pos) (next : List ℕ) (schedule : List ℕ) : Type 0 where
  pub long : length next ≡ 256
  pub counts : (t : ℕ) → get_or next t 0 ≡ times t schedule
  pub goes : (p : Pos) → In p (places schedule) → Goes log exit p
  pub follows : Follows log pairs (places schedule)

zeros : (n t : ℕ) → get_or (replicate {A = ℕ} n 0) t 0 ≡ 0
zeros n t = elim (cases_lt t n) [
  | inl less ↦ get_or-replicate n t 0 0 less
  | inr past ↦ get_or_past (replicate {A = ℕ} n 0) t 0 (omega (arith, past, length-replicate {A = ℕ} n 0))
]

pub none_woven : (log : Log) (pairs : List (Pos × Pos)) (exit : Option Pos) (schedule : List ℕ) → schedule ≡ []
    → IsWeaving log pairs exit (replicate {A = ℕ} 256 0) schedule
none_woven log pairs exit schedule is = subst (IsWeaving log pairs exit (replicate {A = ℕ} 256 0)) (sym is) (record {
  long = length-replicate {A = ℕ} 256 0;
  counts = zeros 256;
  goes = λ (p : Pos) (i : In p []). absurd i;
  follows = λ (p q : Pos) (precedes : Precedes log pairs p q) (i : In q []). absurd i;
})

-- the steps of a schedule with one more
pub places_more : (schedule : List ℕ) (t : ℕ) (p : Pos) → p.thread ≡ t → p.step ≡ times t schedule → places (schedule ++ t ∷ []) ≡ places schedule ++ p ∷ []
places_more schedule t p thread step =
    let at : next_of t (done_after [] schedule) ≡ p =
    same_pos (next_of t (done_after [] schedule)) p thread (step
    ∙ sym (counted_after t [] schedule ∙ (let e : 0 + times t schedule ≡ times t schedule = omega arith in e))) in
    places-append [] schedule (t ∷ []) ∙ ap (λ (q : Pos). places schedule ++ q ∷ []) at

-- one more step at the end
pub goes_with : (log : Log) (exit : Option Pos) (steps : List Pos) (x : Pos) → ((p : Pos) → In p steps → Goes log exit p) → Goes log exit x → (p : Pos)
    → In p (steps ++ x ∷ []) → Goes log exit p
goes_with log exit steps x all goes p i = elim (in-append p steps (x ∷ []) i) [
  | inl j ↦ all p j
  | inr j ↦ elim j [ inl e ↦ subst (Goes log exit) e goes | inr none ↦ absurd none ]
]

pub follows_with : (log : Log) (pairs : List (Pos × Pos)) (steps : List Pos) (x : Pos) → Follows log pairs steps
    → ((p : Pos) → Precedes log pairs p x → In p steps)
    → Follows log pairs (steps ++ x ∷ [])
follows_with log pairs steps x follows all p q precedes i = elim (in-append q steps (x ∷ []) i) [
  | inl j ↦ stands_left p q steps (x ∷ []) (follows p q precedes j)
  | inr j ↦ elim j [
    | inl e ↦ stands_across p q steps (x ∷ []) (all p (subst (Precedes log pairs p) (sym e) precedes)) (inl e)
    | inr none ↦ absurd none
  ]
]

counts_more : (next schedule : List ℕ) (t : ℕ) → t < length next → ((u : ℕ) → get_or next u 0 ≡ times u schedule) → (u : ℕ)
    → get_or (slice_set next t (get_or next t 0 + 1)) u 0 ≡ times u (schedule ++ t ∷ [])
counts_more next schedule t within counts u = elim (cases_eq u t) [
  | inl same ↦ subst (λ (v : ℕ). get_or (slice_set next t (get_or next t 0 + 1)) v 0 ≡ times v (schedule ++ t ∷ [])) (sym same)
      (get_or-set_same next t (get_or next t 0 + 1) 0 within ∙ ap (λ (k : ℕ). k + 1) (counts t) ∙ ap (λ (k : ℕ). times t schedule + k) (sym (one t))
      ∙ sym (times-append t schedule (t ∷ [])))
  | inr ne ↦ get_or-set_other next t u (get_or next t 0 + 1) 0 ne ∙ counts u
      ∙ (let e : times u schedule ≡ times u schedule + 0 = omega arith in e) ∙ ap (λ (k : ℕ). times u schedule + k) (sym (other u ne))
      ∙ sym (times-append u schedule (t ∷ []))
] where
  one : (v : ℕ) → times v (v ∷ []) ≡ 1
  one v = ap (λ (b : Bool). cond b 1 0) (eq-eqb v v refl)

  other : (v : ℕ) → v ≢ t → times v (t ∷ []) ≡ 0
  other v ne = ap (λ (b : Bool). cond b 1 0) (ne_eqb t v (λ (e : t ≡ v). ne (sym e)))

pub woven_more : (log : Log) (pairs : List (Pos × Pos)) (exit : Option Pos) (next schedule more : List ℕ) (t : ℕ) → t < 256 → more ≡ schedule ++ t ∷ []
    → IsReady log pairs exit next t
    → IsWeaving log pairs exit next schedule → IsWeaving log pairs exit (slice_set next t (get_or next t 0 + 1)) more
woven_more log pairs exit next schedule more t room is ready so_far =
    let at : Pos = head next t in
    let within : t < length next = omega (arith, room, so_far.long) in
    let list : places (schedule ++ t ∷ []) ≡ places schedule ++ at ∷ [] = places_more schedule t at refl (so_far.counts t) in
    subst (IsWeaving log pairs exit (slice_set next t (get_or next t 0 + 1))) (sym is) (record {
      long = length-set next t (get_or next t 0 + 1) ∙ so_far.long;
      counts = counts_more next schedule t within so_far.counts;
      goes = subst (λ (xs : List Pos). (p : Pos) → In p xs → Goes log exit p) (sym list) (goes_with log exit (places schedule) at so_far.goes ready.0);
      follows = subst (Follows log pairs) (sym list)
          (follows_with log pairs (places schedule) at so_far.follows (λ (p : Pos) (precedes : Precedes log pairs p at).
          place_in [] schedule p (omega arith) (let less : p.step < get_or next p.thread 0 = ready.1 p precedes in
          omega (arith, less, so_far.counts p.thread))));
    })

-- ---- the end

pub all_woven : (log : Log) (pairs : List (Pos × Pos)) (exit : Option Pos) (next schedule : List ℕ) → Scene log pairs exit
    → ((t : ℕ) → t < length log.threads → IsStuck log pairs exit next t) → IsWeaving log pairs exit next schedule → IsGoing log pairs exit schedule
all_woven log pairs exit next schedule scene stuck woven = record {
  all = λ (p : Pos) (goes : Goes log exit p). elim (cases_lt p.step (get_or next p.thread 0)) [
    | inl less ↦ place_in [] schedule p (omega arith) (omega (arith, less, woven.counts p.thread))
    | inr past ↦ absurd (none_goes log pairs exit next scene stuck p.thread (head_goes log pairs exit next p scene goes past))
  ];
  only = woven.goes;
  follows = woven.follows;
}

-- ---- what is left

-- the steps that the first n threads have not taken
abbrev pub left : Log → List ℕ → ℕ → ℕ
left log next zero = 0
left log next (suc n) = left log next n + ((logged log n).steps - get_or next n 0)

left_same : (log : Log) (next : List ℕ) (t k n : ℕ) → n ≤ t → left log (slice_set next t k) n ≡ left log next n
left_same log next t k zero past = refl
left_same log next t k (suc n) past =
    let one : left log (slice_set next t k) n ≡ left log next n = left_same log next t k n (omega (arith, past)) in
    let other : get_or (slice_set next t k) n 0 ≡ get_or next n 0 = get_or-set_other next t n k 0 (λ (e : n ≡ t). omega (arith, e, past)) in
    ap (λ (m : ℕ). m + ((logged log n).steps - get_or (slice_set next t k) n 0)) one ∙ ap (λ (m : ℕ). left log next n + ((logged log n).steps - m)) other

pub left_less : (log : Log) (next : List ℕ) (t n : ℕ) → t < length next → get_or next t 0 < (logged log t).steps → t < n
    → left log (slice_set next t (get_or next t 0 + 1)) n < left log next n
left_less log next t zero within goes less = absurd (omega (arith, less))
left_less log next t (suc n) within goes less = elim (cases_lt t n) [
  | inl below ↦ (let rest : left log (slice_set next t (get_or next t 0 + 1)) n < left log next n = left_less log next t n within goes below in
      let other : get_or (slice_set next t (get_or next t 0 + 1)) n 0 ≡ get_or next n 0 =
      get_or-set_other next t n (get_or next t 0 + 1) 0 (λ (e : n ≡ t). omega (arith, e, below)) in
      omega (arith, rest, ap (λ (m : ℕ). (logged log n).steps - m) other))
  | inr past ↦ (let same : t ≡ n = omega (arith, less, past) in
      subst (λ (m : ℕ). left log (slice_set next t (get_or next t 0 + 1)) (suc m) < left log next (suc m)) same
      (let rest : left log (slice_set next t (get_or next t 0 + 1)) t ≡ left log next t = left_same log next t (get_or next t 0 + 1) t (omega arith) in
      let one : get_or (slice_set next t (get_or next t 0 + 1)) t 0 ≡ get_or next t 0 + 1 = get_or-set_same next t (get_or next t 0 + 1) 0 within in
      less_by (left log (slice_set next t (get_or next t 0 + 1)) t) (left log next t) (logged log t).steps (get_or next t 0)
      (get_or (slice_set next t (get_or next t 0 + 1)) t 0) rest one goes))
] where
  less_by : (a b s k m : ℕ) → a ≡ b → m ≡ k + 1 → k < s → a + (s - m) < b + (s - k)
  less_by a b s k m e f g = omega (arith, e, f, g)
