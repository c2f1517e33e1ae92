-- The steps of a schedule: each stands once, and they are as many of each thread as the schedule lists.
use Rattle.std.specs.Prelude.{◌≡◌, ℕ, suc, ◌+◌, ◌<◌, ◌≤◌, ◌⊎◌, Bool, true, false, cond, List, [], ◌∷◌, ◌++◌, nat_eq, refl}
use Rattle.std.proofs.Common.{sym, ◌∙◌, ap, subst, arith, inl, inr, eqb, eq-eqb}
use Rattle.std.proofs.lemmas.Bool.{cases_lt, eqb-true, false≢true}
use Rattle.odr_log.specs.declared.log.Pos.{Pos}
use Rattle.guided_walk.specs.Orders.{In, Keeps, Distinct}
use Rattle.guided_walk.specs.Schedules.{count, next_of, places_after, times}
use Rattle.guided_walk.proofs.Table.{same_pos}
use Rattle.guided_walk.proofs.Along.{Next, count_own}

-- a step more of one thread is none less of any
count_grows : (u t : ℕ) (done : List Pos) → (b : Bool) → count u done ≤ cond b (suc (count u done)) (count u done)
count_grows u t done true = omega arith
count_grows u t done false = omega arith

pub place_from : (done : List Pos) (schedule : List ℕ) (p : Pos) → In p (places_after done schedule) → count p.thread done ≤ p.step
place_from done [] p i = absurd i
place_from done (t ∷ schedule) p (inl e) = subst (λ (q : Pos). count q.thread done ≤ q.step) e (omega arith)
place_from done (t ∷ schedule) p (inr i) =
    let more : count p.thread done ≤ count p.thread (Next t done) = count_grows p.thread t done (nat_eq t p.thread) in
    omega (arith, more, place_from (Next t done) schedule p i)

pub distinct_places : (done : List Pos) (schedule : List ℕ) → Distinct (places_after done schedule)
distinct_places done [] = tt
distinct_places done (t ∷ schedule) = (
  λ (i : In (next_of t done) (places_after (Next t done) schedule)).
      absurd (omega (arith, place_from (Next t done) schedule (next_of t done) i, count_own t done)),
  distinct_places (Next t done) schedule,
)

step_more : (u t n m : ℕ) (done : List Pos) → (b : Bool) → n < cond b (suc (count u done)) (count u done) + m → n < count u done + cond b (suc m) m
step_more u t n m done true less = omega (arith, less)
step_more u t n m done false less = omega (arith, less)

own_more : (t m : ℕ) (done : List Pos) → (b : Bool) → b ≡ true → count t done < count t done + cond b (suc m) m
own_more t m done true e = omega arith
own_more t m done false e = absurd (false≢true e)

pub place_below : (done : List Pos) (schedule : List ℕ) (p : Pos) → In p (places_after done schedule) → p.step < count p.thread done + times p.thread schedule
place_below done [] p i = absurd i
place_below done (t ∷ schedule) p (inl e) =
    subst (λ (q : Pos). q.step < count q.thread done + times q.thread (t ∷ schedule)) e (own_more t (times t schedule) done (nat_eq t t) (eq-eqb t t refl))
place_below done (t ∷ schedule) p (inr i) =
    step_more p.thread t p.step (times p.thread schedule) done (nat_eq t p.thread) (place_below (Next t done) schedule p i)

-- each step that is counted stands in the schedule
place_on : (done : List Pos) (t : ℕ) (schedule : List ℕ) (p : Pos) → (b : Bool) → eqb t p.thread ≡ b → count p.thread done ≤ p.step
    → p.step < count p.thread done + cond b (suc (times p.thread schedule)) (times p.thread schedule)
    → (cond b (suc (count p.thread done)) (count p.thread done) ≤ p.step → p.step < cond b (suc (count p.thread done)) (count p.thread done) + times p.thread schedule → In p (places_after (Next t done) schedule))
    → In p (places_after done (t ∷ schedule))
place_on done t schedule p true e from below later =
    let same : t ≡ p.thread = eqb-true t p.thread e in
    elim (cases_lt (count p.thread done) p.step) [
      | inl less ↦ inr (later (omega (arith, less)) (omega (arith, below)))
      | inr le ↦ inl (same_pos (next_of t done) p (sym same) (let at : p.step ≡ count p.thread done = omega (arith, le, from) in at ∙ ap (λ (u : ℕ). count u done) (sym same)))
    ]
place_on done t schedule p false e from below later = inr (later from below)

pub place_in : (done : List Pos) (schedule : List ℕ) (p : Pos) → count p.thread done ≤ p.step → p.step < count p.thread done + times p.thread schedule → In p (places_after done schedule)
place_in done [] p from below = absurd (omega (arith, from, below))
place_in done (t ∷ schedule) p from below =
    place_on done t schedule p (eqb t p.thread) refl from below
    (λ (f : count p.thread (Next t done) ≤ p.step) (b : p.step < count p.thread (Next t done) + times p.thread schedule). place_in (Next t done) schedule p f b)

-- ---- two schedules, one after the other

times_step : (t u n m : ℕ) → (b : Bool) → cond b (suc (n + m)) (n + m) ≡ cond b (suc n) n + m
times_step t u n m true = omega arith
times_step t u n m false = refl

pub times-append : (u : ℕ) (one other : List ℕ) → times u (one ++ other) ≡ times u one + times u other
times-append u [] other = omega arith
times-append u (t ∷ one) other =
    ap (λ (n : ℕ). cond (nat_eq t u) (suc n) n) (times-append u one other) ∙ times_step t u (times u one) (times u other) (nat_eq t u)

-- the steps done after a schedule
abbrev pub done_after : List Pos → List ℕ → List Pos
done_after done [] = done
done_after done (t ∷ schedule) = done_after (Next t done) schedule

pub places-append : (done : List Pos) (one other : List ℕ) → places_after done (one ++ other) ≡ places_after done one ++ places_after (done_after done one) other
places-append done [] other = refl
places-append done (t ∷ one) other = ap (λ (ps : List Pos). next_of t done ∷ ps) (places-append (Next t done) one other)

-- ---- orders along lists

pub in-append : (p : Pos) (xs ys : List Pos) → In p (xs ++ ys) → In p xs ⊎ In p ys
in-append p [] ys i = inr i
in-append p (x ∷ xs) ys (inl e) = inl (inl e)
in-append p (x ∷ xs) ys (inr i) = elim (in-append p xs ys i) [ inl j ↦ inl (inr j) | inr j ↦ inr j ]

pub in_left : (p : Pos) (xs ys : List Pos) → In p xs → In p (xs ++ ys)
in_left p [] ys i = absurd i
in_left p (x ∷ xs) ys (inl e) = inl e
in_left p (x ∷ xs) ys (inr i) = inr (in_left p xs ys i)

-- a list that keeps an order keeps each one that is in it
pub keeps_by : (R S : Pos → Pos → Type 0) (xs : List Pos) → ((q p : Pos) → In q xs → In p xs → S q p → R q p) → Keeps R xs → Keeps S xs
keeps_by R S [] within keeps = tt
keeps_by R S (x ∷ xs) within keeps = (
  λ (q : Pos) (i : In q xs) (s : S q x). keeps.0 q i (within q x (inr i) (inl refl) s),
  keeps_by R S xs (λ (q p : Pos) (i : In q xs) (j : In p xs). within q p (inr i) (inr j)) keeps.1,
)

pub keeps_push : (R : Pos → Pos → Type 0) (xs : List Pos) (x : Pos) → Keeps R xs → ((y : Pos) → In y xs → R x y → ⊥) → Keeps R (xs ++ x ∷ [])
keeps_push R [] x keeps last = (λ (q : Pos) (i : In q []) (r : R q x). absurd i, tt)
keeps_push R (y ∷ xs) x keeps last = (
  λ (q : Pos) (i : In q (xs ++ x ∷ [])) (r : R q y). elim (in-append q xs (x ∷ []) i) [
    | inl j ↦ keeps.0 q j r
    | inr j ↦ elim j [ inl e ↦ last y (inl refl) (subst (λ (z : Pos). R z y) (sym e) r) | inr none ↦ absurd none ]
  ],
  keeps_push R xs x keeps.1 (λ (z : Pos) (i : In z xs). last z (inr i)),
)
