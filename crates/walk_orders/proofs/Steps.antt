-- Lists of all counted steps that have each thread's steps in order.
use Rattle.std.specs.Prelude.{◌≡◌, ℕ, zero, suc, ◌+◌, ◌<◌, ◌≤◌, Bool, cond, List, [], ◌∷◌, ◌++◌, nat_eq, refl}
use Rattle.std.proofs.Common.{sym, ◌∙◌, ap, subst, arith, inl, inr, get_or, eq-eqb}
use Rattle.std.proofs.lemmas.Bool.{ne_eqb}
use Rattle.std.proofs.lemmas.List.{append-nil}
use Rattle.std.proofs.lemmas.List.Elements.{filter-append}
use Rattle.odr_log.specs.declared.log.Log.{Log}
use Rattle.odr_log.specs.declared.log.Pos.{Pos}
use Rattle.odr_log.specs.declared.log.ThreadLog.{ThreadLog}
use Rattle.rv_model.specs.Run.{logged, nothing_logged}
use Rattle.rv_model.specs.RecordedOrder.{Counted}
use Rattle.guided_walk.specs.Orders.{In, Lists, Stands}
use Rattle.guided_walk.specs.Schedules.{count, places_after, places, times}
use Rattle.guided_walk.proofs.Along.{Next, count_own}
use Rattle.guided_walk.proofs.Placing.{place_from, place_below, place_in, distinct_places}
use Rattle.walk_orders.proofs.Weave.{rising, own, threads_of, placed_as, times_rising}

-- ---- steps of one thread

own_other : (t u step n : ℕ) → (u ≡ t → ⊥) → own t (rising u step n) ≡ []
own_other t u step zero ne = refl
own_other t u step (suc n) ne =
    ap (λ (b : Bool). cond b ((let p : Pos = record { thread = u; step = step } in p) ∷ own t (rising u (step + 1) n)) (own t (rising u (step + 1) n))) (ne_eqb u t ne)
    ∙ own_other t u (step + 1) n ne

own_same : (t step n : ℕ) → own t (rising t step n) ≡ rising t step n
own_same t step zero = refl
own_same t step (suc n) =
    let p : Pos = record { thread = t; step = step } in
    ap (λ (b : Bool). cond b (p ∷ own t (rising t (step + 1) n)) (own t (rising t (step + 1) n))) (eq-eqb t t refl)
    ∙ ap (λ (xs : List Pos). p ∷ xs) (own_same t (step + 1) n)

-- ---- thread after thread

abbrev steps_from : ℕ → List ThreadLog → List Pos
steps_from thread [] = []
steps_from thread (t ∷ threads) = rising thread 0 t.steps ++ steps_from (thread + 1) threads

abbrev pub all_steps : Log → List Pos
all_steps log = steps_from 0 log.threads

own_below : (t k : ℕ) (threads : List ThreadLog) → t < k → own t (steps_from k threads) ≡ []
own_below t k [] less = refl
own_below t k (x ∷ threads) less =
    filter-append (λ p. nat_eq p.thread t) (rising k 0 x.steps) (steps_from (k + 1) threads)
    ∙ ap (λ (xs : List Pos). xs ++ own t (steps_from (k + 1) threads)) (own_other t k 0 x.steps (λ (e : k ≡ t). absurd (omega (arith, e, less))))
    ∙ own_below t (k + 1) threads (omega (arith, less))

own_from : (t k i : ℕ) (threads : List ThreadLog) → t ≡ k + i → own t (steps_from k threads) ≡ rising t 0 (get_or threads i nothing_logged).steps
own_from t k i [] e = refl
own_from t k zero (x ∷ threads) e =
    let same : k ≡ t = omega (arith, e) in
    filter-append (λ p. nat_eq p.thread t) (rising k 0 x.steps) (steps_from (k + 1) threads)
    ∙ ap (λ (xs : List Pos). own t (rising k 0 x.steps) ++ xs) (own_below t (k + 1) threads (omega (arith, e)))
    ∙ append-nil (own t (rising k 0 x.steps))
    ∙ ap (λ (u : ℕ). own t (rising u 0 x.steps)) same
    ∙ own_same t 0 x.steps
own_from t k (suc i) (x ∷ threads) e =
    filter-append (λ p. nat_eq p.thread t) (rising k 0 x.steps) (steps_from (k + 1) threads)
    ∙ ap (λ (xs : List Pos). xs ++ own t (steps_from (k + 1) threads)) (own_other t k 0 x.steps (λ (same : k ≡ t). absurd (omega (arith, e, same))))
    ∙ own_from t (k + 1) i threads (omega (arith, e))

-- each thread has its counted steps in order
abbrev pub AreSteps : Log → List Pos → Type 0
AreSteps log steps = (thread : ℕ) → own thread steps ≡ rising thread 0 (logged log thread).steps

pub all_are : (log : Log) → AreSteps log (all_steps log)
all_are log thread = own_from thread 0 thread log.threads (omega arith)

-- ---- in a schedule each thread's steps stand in order

pub places_rise : (done : List Pos) (schedule : List ℕ) (p q : Pos) → In p (places_after done schedule) → In q (places_after done schedule) → p.thread ≡ q.thread → p.step < q.step
    → Stands (places_after done schedule) p q
places_rise done [] p q i j same less = absurd i
places_rise done (t ∷ schedule) p q (inl e) (inl f) same less = absurd (omega (arith, less, ap (λ (x : Pos). x.step) (sym e ∙ f)))
places_rise done (t ∷ schedule) p q (inl e) (inr j) same less = inl (e, j)
places_rise done (t ∷ schedule) p q (inr i) (inl f) same less =
    let from : count p.thread (Next t done) ≤ p.step = place_from (Next t done) schedule p i in
    let thread_is : t ≡ p.thread = ap (λ (x : Pos). x.thread) f ∙ sym same in
    let counted : count p.thread (Next t done) ≡ suc (count t done) = ap (λ (u : ℕ). count u (Next t done)) (sym thread_is) ∙ count_own t done in
    absurd (omega (arith, from, counted, less, ap (λ (x : Pos). x.step) f))
places_rise done (t ∷ schedule) p q (inr i) (inr j) same less = inr (places_rise (Next t done) schedule p q i j same less)

-- ---- what holds of such a list

pub steps_places : (log : Log) (steps : List Pos) → AreSteps log steps → places (threads_of steps) ≡ steps
steps_places log steps are = placed_as [] steps (λ (u : ℕ). record { many = (logged log u).steps; is = are u })

pub steps_times : (log : Log) (steps : List Pos) → AreSteps log steps → (u : ℕ) → times u (threads_of steps) ≡ (logged log u).steps
steps_times log steps are u = times_rising u 0 (logged log u).steps steps (are u)

pub steps_list : (log : Log) (steps : List Pos) → AreSteps log steps → Lists (Counted log) steps
steps_list log steps are =
    subst (Lists (Counted log)) (steps_places log steps are) (record {
      all = λ (p : Pos) (counted : Counted log p). place_in [] (threads_of steps) p (omega arith) (omega (arith, counted, steps_times log steps are p.thread));
      only = λ (p : Pos) (i : In p (places (threads_of steps))). omega (arith, place_below [] (threads_of steps) p i, steps_times log steps are p.thread);
      once = distinct_places [] (threads_of steps);
    })

pub steps_rise : (log : Log) (steps : List Pos) → AreSteps log steps → (p q : Pos) → In p steps → In q steps → p.thread ≡ q.thread → p.step < q.step → Stands steps p q
steps_rise log steps are p q i j same less =
    let is : places (threads_of steps) ≡ steps = steps_places log steps are in
    subst (λ (xs : List Pos). Stands xs p q) is
    (places_rise [] (threads_of steps) p q (subst (In p) (sym is) i) (subst (In q) (sym is) j) same less)
