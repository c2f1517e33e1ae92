-- Weaving: before each chosen step, what stands before it in its thread and was not taken yet.
use Rattle.std.specs.Prelude.{◌≡◌, ℕ, zero, suc, ◌+◌, ◌≤◌, ◌⊎◌, Bool, true, false, not, cond, List, [], ◌∷◌, ◌++◌, length, map, nat_eq, nat_le, refl}
use Rattle.std.specs.List.{filter}
use Rattle.std.proofs.Common.{sym, ◌∙◌, ap, subst, arith, inl, inr, eqb, eq-eqb}
use Rattle.std.proofs.lemmas.Bool.{and_parts, and_from, eqb-true, leb-true, le-leb, false≢true}
use Rattle.std.proofs.lemmas.List.Elements.{filter-append}
use Rattle.odr_log.specs.declared.log.Pos.{Pos}
use Rattle.guided_walk.specs.Orders.{In, Stands}
use Rattle.guided_walk.specs.Schedules.{count, next_of, places_after, times}
use Rattle.guided_walk.proofs.Along.{Next, count_own, count_other}
use Rattle.guided_walk.proofs.Placing.{in_left}
use Rattle.walk_orders.specs.RecordedTest.{up_to}
use Rattle.walk_orders.proofs.Lists.{in_right, filter_in, stands_right, stands_across}

abbrev pub beyond : Pos → Pos → Bool
beyond z q = not (up_to z q)

abbrev pub weave : List Pos → List Pos → List Pos
weave all [] = all
weave all (z ∷ chosen) = filter (up_to z) all ++ weave (filter (beyond z) all) chosen

-- a step is chosen, and neither it nor a step chosen before it stands at or after another one in its thread
abbrev pub First : List Pos → Pos → Pos → Type 0
First [] p q = ⊥
First (z ∷ chosen) p q = (up_to z q ≡ false) × ((z ≡ p) ⊎ First chosen p q)

pub up_to_itself : (p : Pos) → up_to p p ≡ true
up_to_itself p = and_from _ _ (eq-eqb p.thread p.thread refl) (le-leb p.step p.step (omega arith))

beyond_by : (b : Bool) → b ≡ false → not b ≡ true
beyond_by true e = sym e
beyond_by false e = refl

-- ---- members

either : (z p : Pos) → (b : Bool) → up_to z p ≡ b → (up_to z p ≡ true) ⊎ (beyond z p ≡ true)
either z p true e = inl e
either z p false e = inr (beyond_by (up_to z p) e)

pub in_weave : (all chosen : List Pos) (p : Pos) → In p all → In p (weave all chosen)
in_weave all [] p i = i
in_weave all (z ∷ chosen) p i = elim (either z p (up_to z p) refl) [
  | inl t ↦ in_left p (filter (up_to z) all) (weave (filter (beyond z) all) chosen) (filter_in (up_to z) p all i t)
  | inr t ↦ in_right p (filter (up_to z) all) (weave (filter (beyond z) all) chosen) (in_weave (filter (beyond z) all) chosen p (filter_in (beyond z) p all i t))
]

-- ---- what stands before what

pub weave_first : (all chosen : List Pos) (p q : Pos) → First chosen p q → In p all → In q all → Stands (weave all chosen) p q
weave_first all [] p q first i j = absurd first
weave_first all (z ∷ chosen) p q first i j =
    let rest : List Pos = filter (beyond z) all in
    let later : In q rest = filter_in (beyond z) q all j (beyond_by (up_to z q) first.0) in
    elim (either z p (up_to z p) refl) [
      | inl t ↦ stands_across p q (filter (up_to z) all) (weave rest chosen) (filter_in (up_to z) p all i t) (in_weave rest chosen q later)
      | inr t ↦ stands_right p q (filter (up_to z) all) (weave rest chosen)
          (weave_first rest chosen p q (more first.1 (not_itself first.1 t)) (filter_in (beyond z) p all i t) later)
    ] where
      not_itself : (z ≡ p) ⊎ First chosen p q → beyond z p ≡ true → z ≡ p → ⊥
      not_itself f t e = false≢true (ap not (sym (ap (λ (y : Pos). up_to y p) e ∙ up_to_itself p)) ∙ t)

      more : (z ≡ p) ⊎ First chosen p q → (z ≡ p → ⊥) → First chosen p q
      more (inl e) ne = absurd (ne e)
      more (inr f) ne = f

-- ---- the steps of one thread

-- steps of a thread one after the other
abbrev pub rising : ℕ → ℕ → ℕ → List Pos
rising thread step zero = []
rising thread step (suc n) = (let p : Pos = record { thread = thread; step = step } in p) ∷ rising thread (step + 1) n

abbrev pub own : ℕ → List Pos → List Pos
own thread steps = filter (λ p. nat_eq p.thread thread) steps

-- steps of a thread that are split at one
pub record Splits (z : Pos) (thread step n : ℕ) : Type 0 where
  pub from : ℕ
  pub many : ℕ
  pub rest : filter (beyond z) (rising thread step n) ≡ rising thread from many
  pub whole : filter (up_to z) (rising thread step n) ++ rising thread from many ≡ rising thread step n

later_beyond : (z : Pos) (thread step : ℕ) → up_to z (record { thread = thread; step = step }) ≡ false → (b : Bool) → up_to z (record { thread = thread; step = step + 1 }) ≡ b → b ≡ false
later_beyond z thread step past true e =
    let parts : (nat_eq thread z.thread ≡ true) × (nat_le (step + 1) z.step ≡ true) = and_parts _ _ e in
    let le : step + 1 ≤ z.step = leb-true (step + 1) z.step parts.1 in
    absurd (false≢true (sym past ∙ and_from _ _ parts.0 (le-leb step z.step (omega (arith, le)))))
later_beyond z thread step past false e = refl

none_up_to : (z : Pos) (thread step n : ℕ) → up_to z (record { thread = thread; step = step }) ≡ false
    → (filter (up_to z) (rising thread step n) ≡ []) × (filter (beyond z) (rising thread step n) ≡ rising thread step n)
none_up_to z thread step zero past = (refl, refl)
none_up_to z thread step (suc n) past =
    let p : Pos = record { thread = thread; step = step } in
    let rest : (filter (up_to z) (rising thread (step + 1) n) ≡ []) × (filter (beyond z) (rising thread (step + 1) n) ≡ rising thread (step + 1) n) =
    none_up_to z thread (step + 1) n (later_beyond z thread step past (up_to z (record { thread = thread; step = step + 1 })) refl) in (
      ap (λ (b : Bool). cond b (p ∷ filter (up_to z) (rising thread (step + 1) n)) (filter (up_to z) (rising thread (step + 1) n))) past ∙ rest.0,
      ap (λ (b : Bool). cond (not b) (p ∷ filter (beyond z) (rising thread (step + 1) n)) (filter (beyond z) (rising thread (step + 1) n))) past
          ∙ ap (λ (xs : List Pos). p ∷ xs) rest.1,
    )

splits_by : (z : Pos) (thread step n : ℕ) → (b : Bool) → up_to z (record { thread = thread; step = step }) ≡ b → Splits z thread (step + 1) n → Splits z thread step (suc n)
splits_by z thread step n true e s =
    let p : Pos = record { thread = thread; step = step } in
    record {
      from = s.from;
      many = s.many;
      rest = ap (λ (b : Bool). cond (not b) (p ∷ filter (beyond z) (rising thread (step + 1) n)) (filter (beyond z) (rising thread (step + 1) n))) e ∙ s.rest;
      whole = ap (λ (b : Bool). cond b (p ∷ filter (up_to z) (rising thread (step + 1) n)) (filter (up_to z) (rising thread (step + 1) n)) ++ rising thread s.from s.many) e
          ∙ ap (λ (xs : List Pos). p ∷ xs) s.whole;
    }
splits_by z thread step n false e s =
    let none : (filter (up_to z) (rising thread step (suc n)) ≡ []) × (filter (beyond z) (rising thread step (suc n)) ≡ rising thread step (suc n)) = none_up_to z thread step (suc n) e in
    record {
      from = step;
      many = suc n;
      rest = none.1;
      whole = ap (λ (xs : List Pos). xs ++ rising thread step (suc n)) none.0;
    }

splits : (z : Pos) (thread step n : ℕ) → Splits z thread step n
splits z thread step zero = record { from = step; many = 0; rest = refl; whole = refl }
splits z thread step (suc n) = splits_by z thread step n (up_to z (record { thread = thread; step = step })) refl (splits z thread (step + 1) n)

filter_push : (test : Pos → Bool) (x : Pos) (b c : Bool) (xs : List Pos) → test x ≡ b
    → filter test (cond c (x ∷ xs) xs) ≡ cond c (cond b (x ∷ filter test xs) (filter test xs)) (filter test xs)
filter_push test x b true xs e = ap (λ (k : Bool). cond k (x ∷ filter test xs) (filter test xs)) e
filter_push test x b false xs e = refl

swap_tests : (b c : Bool) (x : Pos) (xs : List Pos) → cond c (cond b (x ∷ xs) xs) xs ≡ cond b (cond c (x ∷ xs) xs) xs
swap_tests true true x xs = refl
swap_tests true false x xs = refl
swap_tests false true x xs = refl
swap_tests false false x xs = refl

filter_twice : (one other : Pos → Bool) (xs : List Pos) → filter one (filter other xs) ≡ filter other (filter one xs)
filter_twice one other [] = refl
filter_twice one other (x ∷ xs) =
    filter_push one x (one x) (other x) (filter other xs) refl
    ∙ ap (λ (ys : List Pos). cond (other x) (cond (one x) (x ∷ ys) ys) ys) (filter_twice one other xs)
    ∙ swap_tests (one x) (other x) x (filter other (filter one xs))
    ∙ sym (filter_push other x (other x) (one x) (filter one xs) refl)

-- weaving leaves the steps of each thread as they were
pub own_weave : (all chosen : List Pos) (thread step n : ℕ) → own thread all ≡ rising thread step n → own thread (weave all chosen) ≡ rising thread step n
own_weave all [] thread step n is = is
own_weave all (z ∷ chosen) thread step n is =
    let s : Splits z thread step n = splits z thread step n in
    let rest : List Pos = filter (beyond z) all in
    let taken : own thread (filter (up_to z) all) ≡ filter (up_to z) (rising thread step n) =
    filter_twice (λ p. nat_eq p.thread thread) (up_to z) all ∙ ap (filter (up_to z)) is in
    let left : own thread rest ≡ rising thread s.from s.many =
    filter_twice (λ p. nat_eq p.thread thread) (beyond z) all ∙ ap (filter (beyond z)) is ∙ s.rest in
    filter-append (λ p. nat_eq p.thread thread) (filter (up_to z) all) (weave rest chosen)
    ∙ ap (λ (xs : List Pos). xs ++ own thread (weave rest chosen)) taken
    ∙ ap (λ (xs : List Pos). filter (up_to z) (rising thread step n) ++ xs) (own_weave rest chosen thread s.from s.many left)
    ∙ s.whole

-- ---- a list of steps as a schedule

-- the steps of a thread that are still to come
pub record Own (done later : List Pos) (thread : ℕ) : Type 0 where
  pub many : ℕ
  pub is : own thread later ≡ rising thread (count thread done) many

same_head : (x y : Pos) (xs ys : List Pos) → x ∷ xs ≡ y ∷ ys → x ≡ y
same_head x y xs ys e = cc

same_tail : (x y : Pos) (xs ys : List Pos) → x ∷ xs ≡ y ∷ ys → xs ≡ ys
same_tail x y xs ys e = cc

not_none : (x : Pos) (xs : List Pos) → x ∷ xs ≡ [] → ⊥
not_none x xs e = absurd (let n : suc (length xs) ≡ 0 = ap (length {A = Pos}) e in omega (arith, n))

-- the next step of a thread, and those after it
pub record Heads (done : List Pos) (p : Pos) (later : List Pos) : Type 0 where
  pub first : p ≡ next_of p.thread done
  pub many : ℕ
  pub rest : own p.thread later ≡ rising p.thread (count p.thread done + 1) many

heads_by : (done : List Pos) (p : Pos) (later : List Pos) (n : ℕ) → p ∷ own p.thread later ≡ rising p.thread (count p.thread done) n → Heads done p later
heads_by done p later zero e = absurd (not_none p (own p.thread later) e)
heads_by done p later (suc n) e = record {
  first = same_head p (next_of p.thread done) (own p.thread later) (rising p.thread (count p.thread done + 1) n) e;
  many = n;
  rest = same_tail p (next_of p.thread done) (own p.thread later) (rising p.thread (count p.thread done + 1) n) e;
}

heads : (done : List Pos) (p : Pos) (later : List Pos) → Own done (p ∷ later) p.thread → Heads done p later
heads done p later o =
    heads_by done p later o.many
    (ap (λ (b : Bool). cond b (p ∷ own p.thread later) (own p.thread later)) (sym (eq-eqb p.thread p.thread refl)) ∙ o.is)

own_on : (done : List Pos) (p : Pos) (later : List Pos) (u : ℕ) → Heads done p later → Own done (p ∷ later) u → (b : Bool) → eqb p.thread u ≡ b → Own (Next p.thread done) later u
own_on done p later u h o true e =
    let one : p.thread ≡ u = eqb-true p.thread u e in
    subst (λ (k : ℕ). Own (Next p.thread done) later k) one (record {
      many = h.many;
      is = h.rest ∙ ap (λ (k : ℕ). rising p.thread k h.many) (let z : count p.thread done + 1 ≡ suc (count p.thread done) = omega arith in z ∙ sym (count_own p.thread done));
    })
own_on done p later u h o false e = record {
  many = o.many;
  is = ap (λ (b : Bool). cond b (p ∷ own u later) (own u later)) (sym e) ∙ o.is
      ∙ ap (λ (k : ℕ). rising u k o.many) (sym (count_other p.thread u done (λ (same : u ≡ p.thread). false≢true (sym e ∙ eq-eqb p.thread u (sym same)))));
}

abbrev pub threads_of : List Pos → List ℕ
threads_of steps = map (λ p. p.thread) steps

pub placed_as : (done later : List Pos) → ((u : ℕ) → Own done later u) → places_after done (threads_of later) ≡ later
placed_as done [] owns = refl
placed_as done (p ∷ later) owns =
    let h : Heads done p later = heads done p later (owns p.thread) in
    ap (λ (xs : List Pos). next_of p.thread done ∷ xs)
    (placed_as (Next p.thread done) later (λ (u : ℕ). own_on done p later u h (owns u) (eqb p.thread u) refl))
    ∙ ap (λ (x : Pos). x ∷ later) (sym h.first)

times_own : (u : ℕ) (steps : List Pos) → times u (threads_of steps) ≡ length (own u steps)
times_own u [] = refl
times_own u (p ∷ steps) = by_test (nat_eq p.thread u) (times_own u steps) where
  by_test : (b : Bool) → times u (threads_of steps) ≡ length (own u steps)
      → cond b (suc (times u (threads_of steps))) (times u (threads_of steps)) ≡ length (cond b (p ∷ own u steps) (own u steps))
  by_test true rest = ap suc rest
  by_test false rest = rest

length_rising : (thread step n : ℕ) → length (rising thread step n) ≡ n
length_rising thread step zero = refl
length_rising thread step (suc n) = ap suc (length_rising thread (step + 1) n)

pub times_rising : (u step n : ℕ) (steps : List Pos) → own u steps ≡ rising u step n → times u (threads_of steps) ≡ n
times_rising u step n steps e = times_own u steps ∙ ap (length {A = Pos}) e ∙ length_rising u step n
