-- An exit and a fault behind all other steps.
use Rattle.std.specs.Prelude.{◌≡◌, ◌↔◌, ℕ, ◌+◌, ◌<◌, List, [], ◌∷◌, ◌++◌, Option, Some, None, Contains, option_to_list, refl}
use Rattle.std.specs.Option.{option_map}
use Rattle.std.proofs.Common.{sym, ◌∙◌, ap, subst, arith, inl, inr}
use Rattle.std.proofs.lemmas.Bool.{cases_lt}
use Rattle.std.proofs.lemmas.List.{append-nil}
use Rattle.std.proofs.lemmas.Option.{none-some, same_Some}
use Rattle.odr_log.specs.declared.log.Log.{Log}
use Rattle.odr_log.specs.declared.log.Pos.{Pos}
use Rattle.rv_model.specs.Run.{logged}
use Rattle.rv_model.specs.RecordedOrder.{Counted, RecordedOrder}
use Rattle.guided_walk.specs.Along.{fault_by}
use Rattle.guided_walk.specs.Orders.{Distinct, In, Stands}
use Rattle.guided_walk.specs.Ordered.{ExitLast, IsExit}
use Rattle.guided_walk.specs.Schedules.{places, times}
use Rattle.guided_walk.specs.Woven.{Woven, faulting}
use Rattle.guided_walk.proofs.Placing.{distinct_places, in-append, in_left, place_below, place_in, places-append}
use Rattle.walk_orders.proofs.Exits.{exit_by, exit_keeps, no_exits_last, same_exit}
use Rattle.walk_orders.proofs.Lists.{in_right, keeps_standing, stands_across}
use Rattle.walk_orders.proofs.Weaving.{exit_last_by, fault_after}
use Rattle.schedule_extract.specs.Going.{Follows, Goes, IsExitOf, IsGoing, NoRing, PairsCounted, PairsGoOn, Precedes}
use Rattle.schedule_extract.proofs.Weaving.{Scene, exit_by_scene, exit_ends_all, exit_or, follows_with, places_more, precedes_counted}

-- the thread of the exit
abbrev pub exiting : Option Pos → List ℕ
exiting exit = option_to_list (option_map (λ p. p.thread) exit)

-- as often as it exits, the exit's thread has gone up to it
exit_step : (log : Log) (pairs : List (Pos × Pos)) (exit : Option Pos) (schedule : List ℕ) (p : Pos) → Scene log pairs exit
    → IsGoing log pairs exit schedule → exit ≡ Some p
    → p.step ≡ times p.thread schedule
exit_step log pairs exit schedule p scene going e =
    let n : ℕ = times p.thread schedule in
    let last : p.step + 1 ≡ (logged log p.thread).steps = scene.ends p (exit_by_scene log pairs exit p scene e) in
    elim (cases_lt n p.step) [
      | inl less ↦ (let q : Pos = record { thread = p.thread; step = n } in
          let goes : Goes log exit q = (
            omega (arith, less, last),
            λ (f : exit ≡ Some q). absurd
                (let same : p.step ≡ n = ap (λ (x : Pos). x.step) (same_Some p q (sym e ∙ f)) in omega (arith, less, same)),
          ) in
          let below : n < 0 + n = place_below [] schedule q (going.all q goes) in
          absurd (omega (arith, below)))
      | inr le ↦ elim (cases_lt p.step n) [
        | inl more ↦ absurd ((going.only p (place_in [] schedule p (omega arith) (omega (arith, more)))).1 e)
        | inr ge ↦ omega (arith, le, ge)
      ]
    ]

places_exit : (log : Log) (pairs : List (Pos × Pos)) (exit : Option Pos) (schedule : List ℕ) → Scene log pairs exit → IsGoing log pairs exit schedule
    → (o : Option Pos) → exit ≡ o
    → places (schedule ++ exiting o) ≡ places schedule ++ option_to_list o
places_exit log pairs exit schedule scene going None e = ap places (append-nil schedule) ∙ sym (append-nil (places schedule))
places_exit log pairs exit schedule scene going (Some p) e = places_more schedule p.thread p refl (exit_step log pairs exit schedule p scene going e)

-- ---- all counted steps

-- a list of steps with all that stands before each, the exit behind
record IsWhole (log : Log) (pairs : List (Pos × Pos)) (exit : Option Pos) (steps : List Pos) : Type 0 where
  pub all : (p : Pos) → Counted log p → In p steps
  pub only : (p : Pos) → In p steps → Counted log p
  pub follows : Follows log pairs steps
  pub last : (q p : Pos) → exit ≡ Some p → In q steps → (q ≡ p → ⊥) → Stands steps q p

whole : (log : Log) (pairs : List (Pos × Pos)) (exit : Option Pos) (steps : List Pos) → Scene log pairs exit → ((p : Pos) → Goes log exit p → In p steps)
    → ((p : Pos) → In p steps → Goes log exit p)
    → Follows log pairs steps → (o : Option Pos) → exit ≡ o → IsWhole log pairs exit (steps ++ option_to_list o)
whole log pairs exit steps scene all only follows None e = subst (IsWhole log pairs exit) (sym (append-nil steps)) (record {
  all = λ (p : Pos) (counted : Counted log p). all p (counted, λ (f : exit ≡ Some p). none-some p (sym e ∙ f));
  only = λ (p : Pos) (i : In p steps). (only p i).0;
  follows = follows;
  last = λ (q p : Pos) (f : exit ≡ Some p) (i : In q steps) (ne : q ≡ p → ⊥). absurd (none-some p (sym e ∙ f));
})
whole log pairs exit steps scene all only follows (Some x) e = record {
  all = λ (p : Pos) (counted : Counted log p). elim (exit_or exit p) [
    | inl f ↦ in_right p steps (x ∷ []) (inl (same_Some x p (sym e ∙ f)))
    | inr ne ↦ in_left p steps (x ∷ []) (all p (counted, ne))
  ];
  only = λ (p : Pos) (i : In p (steps ++ x ∷ [])). elim (in-append p steps (x ∷ []) i) [
    | inl j ↦ (only p j).0
    | inr j ↦ elim j [
      | inl same ↦ subst (Counted log) same (let last : x.step + 1 ≡ (logged log x.thread).steps = scene.ends x (exit_by_scene log pairs exit x scene e) in
          omega (arith, last))
      | inr none ↦ absurd none
    ]
  ];
  follows = follows_with log pairs steps x follows (λ (p : Pos) (precedes : Precedes log pairs p x).
      all p ((precedes_counted log pairs exit p x scene precedes).0, λ (f : exit ≡ Some p). exit_ends_all log pairs exit p x scene f precedes));
  last = λ (q p : Pos) (f : exit ≡ Some p) (i : In q (steps ++ x ∷ [])) (ne : q ≡ p → ⊥). elim (in-append q steps (x ∷ []) i) [
    | inl j ↦ stands_across q p steps (x ∷ []) j (inl (same_Some x p (sym e ∙ f)))
    | inr j ↦ elim j [
      | inl same ↦ absurd (ne (sym same ∙ same_Some x p (sym e ∙ f)))
      | inr none ↦ absurd none
    ]
  ];
}

times_counted : (log : Log) (counted : List ℕ) → ((p : Pos) → Counted log p → In p (places counted)) → ((p : Pos) → In p (places counted) → Counted log p)
    → (t : ℕ)
    → times t counted ≡ (logged log t).steps
times_counted log counted all only t =
    let n : ℕ = times t counted in
    let m : ℕ = (logged log t).steps in
    elim (cases_lt n m) [
      | inl less ↦ (let below : n < 0 + n = place_below [] counted (record { thread = t; step = n }) (all (record { thread = t; step = n }) less) in
          absurd (omega (arith, below)))
      | inr le ↦ elim (cases_lt m n) [
        | inl more ↦ (let there : m < m =
            only (record { thread = t; step = m }) (place_in [] counted (record { thread = t; step = m }) (omega arith) (omega (arith, more))) in
            absurd (omega (arith, there)))
        | inr ge ↦ omega (arith, le, ge)
      ]
    ]

-- ---- an exit is last

last_by : (log : Log) (pairs : List (Pos × Pos)) (exit : Option Pos) (steps : List Pos) → Scene log pairs exit → Distinct steps
    → IsWhole log pairs exit steps → (o : Option Pos) → exit ≡ o
    → ExitLast log steps
last_by log pairs exit steps scene once is None e = no_exits_last log steps (subst (IsExitOf log) e scene.exit_is)
last_by log pairs exit steps scene once is (Some x) e =
    exit_keeps log steps once
    (keeps_standing (λ (q p : Pos). IsExit log p × (q ≡ p → ⊥)) steps once
    (λ (q p : Pos) (i : In q steps) (j : In p steps) (r : IsExit log p × (q ≡ p → ⊥)).
    let same : x ≡ p = same_exit log scene.fit x p (exit_by log x (exit_by_scene log pairs exit x scene e)) (exit_by log p r.0) in
    is.last q p (e ∙ ap (λ (y : Pos). Some y) same) i r.1))

-- ---- the whole schedule

pub woven_by : (log : Log) (pairs : List (Pos × Pos)) (exit : Option Pos) (schedule : List ℕ) → Scene log pairs exit → IsGoing log pairs exit schedule
    → Woven log pairs ((schedule ++ exiting exit) ++ faulting log.end)
woven_by log pairs exit schedule scene going =
    let counted : List ℕ = schedule ++ exiting exit in
    let steps : List Pos = places counted in
    let list : steps ≡ places schedule ++ option_to_list exit = places_exit log pairs exit schedule scene going exit refl in
    let is : IsWhole log pairs exit steps =
    subst (IsWhole log pairs exit) (sym list) (whole log pairs exit (places schedule) scene going.all going.only going.follows exit refl) in
    let once : Distinct steps = distinct_places [] counted in
    let many : (t : ℕ) → times t counted ≡ (logged log t).steps = times_counted log counted is.all is.only in
    let with_fault : places (counted ++ faulting log.end) ≡ steps ++ fault_by log log.end =
    places-append [] counted (faulting log.end) ∙ ap (λ (xs : List Pos). steps ++ xs) (fault_after log counted log.end many) in
    record {
      counted = counted;
      whole = refl;
      steps = many;
      recorded = keeps_standing (RecordedOrder log) steps once (λ (p q : Pos) (i : In p steps) (j : In q steps)
          (order : RecordedOrder log p q). is.follows p q (inl order) j);
      paired = λ (p q : Pos) (pair : Contains pairs (p, q)). is.follows p q (inr pair) (is.all q (scene.counted p q pair).1);
      exit_last = subst (ExitLast log) (sym with_fault) (exit_last_by log steps log.end scene.fit refl (last_by log pairs exit steps scene once is exit refl));
    }

-- ---- the same pairs in another list

same_precedes : (log : Log) (pairs others : List (Pos × Pos)) → ((pair : Pos × Pos) → Contains others pair ↔ Contains pairs pair) → (p q : Pos)
    → Precedes log others p q → Precedes log pairs p q
same_precedes log pairs others same p q (inl order) = inl order
same_precedes log pairs others same p q (inr pair) = inr ((same (p, q)).0 pair)

pub same_counted : (log : Log) (pairs others : List (Pos × Pos)) → ((pair : Pos × Pos) → Contains others pair ↔ Contains pairs pair)
    → PairsCounted log pairs → PairsCounted log others
same_counted log pairs others same counted p q pair = counted p q ((same (p, q)).0 pair)

pub same_go_on : (log : Log) (pairs others : List (Pos × Pos)) → ((pair : Pos × Pos) → Contains others pair ↔ Contains pairs pair) → PairsGoOn log pairs
    → PairsGoOn log others
same_go_on log pairs others same go_on p q pair = go_on p q ((same (p, q)).0 pair)

pub same_ring : (log : Log) (pairs others : List (Pos × Pos)) → ((pair : Pos × Pos) → Contains others pair ↔ Contains pairs pair) → NoRing log pairs
    → NoRing log others
same_ring log pairs others same ring = record {
  before = ring.before;
  strict = ring.strict;
  transitive = ring.transitive;
  has = λ (p q : Pos) (precedes : Precedes log others p q). ring.has p q (same_precedes log pairs others same p q precedes);
}

pub same_woven : (log : Log) (pairs others : List (Pos × Pos)) (schedule : List ℕ) → ((pair : Pos × Pos) → Contains others pair ↔ Contains pairs pair)
    → Woven log others schedule
    → Woven log pairs schedule
same_woven log pairs others schedule same woven = record {
  counted = woven.counted;
  whole = woven.whole;
  steps = woven.steps;
  recorded = woven.recorded;
  paired = λ (p q : Pos) (pair : Contains pairs (p, q)). woven.paired p q ((same (p, q)).1 pair);
  exit_last = woven.exit_last;
}
