-- A thread goes on: the steps that are appended stand after what they are made of.
use Rattle.std.specs.Prelude.{◌↔◌}
use Rattle.std.proofs.Common.{◌≡◌, ℕ, zero, suc, ◌+◌, ◌-◌, ◌<◌, ◌≤◌, Bool, true, false, cond, List, [], ◌∷◌, ◌++◌, length, get_or, set, ltb, eqb, eq-eqb, refl, sym, ◌∙◌, ap, subst, inl, inr, arith}
use Rattle.std.proofs.lemmas.Bool.{cases_lt, eqb-true, ltb-true, ltb-false, false≢true}
use Rattle.std.proofs.lemmas.List.{append_assoc, append-nil, get_or_past, get_or-set_same, get_or-set_other, length-set}
use Rattle.elf_image.specs.Layout.{Layout}
use Rattle.odr_log.specs.declared.log.Log.{Log}
use Rattle.odr_log.specs.declared.log.Pos.{Pos}
use Rattle.odr_log.specs.declared.log.ThreadLog.{ThreadLog}
use Rattle.rv_model.specs.RecordedOrder.{Counted}
use Rattle.rv_model.specs.Run.{logged, nothing_logged}
use Rattle.rv_model.specs.Walk.{IsWalk, Walk, notes_of}
use Rattle.guided_walk.specs.Flow.{Needs, NeedsThread, NeedsJoin}
use Rattle.guided_walk.specs.Guided.{joins}
use Rattle.guided_walk.specs.Orders.{In}
use Rattle.guided_walk.specs.Told.{Told, told, noted}
use Rattle.guided_walk.proofs.Facts.{notes_counted}
use Rattle.guided_walk.proofs.NeedsOrder.{place_counted}
use Rattle.guided_walk.proofs.Placing.{in-append, in_left}
use Rattle.guided_walk.proofs.Table.{same_pos}
use Rattle.step_order.specs.SoFar.{step_of, steps_from, steps_between, gone_to, IsFront}
use Rattle.step_order.proofs.Orders.{order_more, in_last}

-- ---- counted steps

-- a thread with a counted step is one of the log
pub counted_in : (log : Log) (t s : ℕ) → s < (logged log t).steps → t < length log.threads
counted_in log t s less = by_test (ltb t (length log.threads)) refl where
  by_test : (b : Bool) → ltb t (length log.threads) ≡ b → t < length log.threads
  by_test true e = ltb-true t (length log.threads) e
  by_test false e =
      let none : (logged log t).steps ≡ 0 = ap (λ (x : ThreadLog). x.steps) (get_or_past log.threads t nothing_logged (ltb-false t (length log.threads) e)) in
      absurd (omega (arith, less, none))

-- and a step of the walk
pub counted_within : (image : Layout) (log : Log) (walk : Walk) → IsWalk image log walk → (p : Pos) → Counted log p → p.step < length (notes_of walk p.thread)
counted_within image log walk is p less = omega (arith, less, notes_counted image log walk is p.thread (counted_in log p.thread p.step less))

-- ---- what a step is made of

-- what a step is made of beside the step before it is done
pub record Ready (told : Told) (done : List Pos) (thread step : ℕ) : Type 0 where
  pub first : (q : Pos) → NeedsThread told q thread zero → In q done
  pub joined : (q : Pos) → NeedsJoin told q (joins (noted told (step_of thread step))) → In q done

pub ready_more : (told : Told) (done later : List Pos) (thread step : ℕ) → Ready told done thread step → Ready told (done ++ later) thread step
ready_more told done later thread step ready = record {
  first = λ q need. in_left q done later (ready.first q need);
  joined = λ q need. in_left q done later (ready.joined q need);
}

needs_thread : (told : Told) (done : List Pos) (thread step s : ℕ) → ((k : ℕ) → k < s → In (step_of thread k) done) → Ready told done thread step
    → (q : Pos) → NeedsThread told q thread s → In q done
needs_thread told done thread step zero before ready q need = ready.first q need
needs_thread told done thread step (suc s) before ready q need = subst (λ (x : Pos). In x done) (sym need) (before s (omega arith))

needs_by : (told : Told) (done : List Pos) (thread step : ℕ) → ((k : ℕ) → k < step → In (step_of thread k) done) → Ready told done thread step
    → (q : Pos) → Needs told q (step_of thread step) → In q done
needs_by told done thread step before ready q (inl need) = needs_thread told done thread step step before ready q need
needs_by told done thread step before ready q (inr need) = ready.joined q need

-- ---- one step more

-- the next steps, where a thread's is another
abbrev pub moved : (ℕ → ℕ) → ℕ → ℕ → ℕ → ℕ
moved next thread to u = cond (eqb thread u) to (next u)

reached_by : (order : List Pos) (next : ℕ → ℕ) (t s : ℕ) (q : Pos) → (In q order ↔ (q.step < next q.thread)) → next t ≡ s → (b : Bool) → eqb t q.thread ≡ b
    → In q (order ++ step_of t s ∷ []) ↔ (q.step < cond b (suc s) (next q.thread))
reached_by order next t s q reached at true e =
    let same : t ≡ q.thread = eqb-true t q.thread e in
    let here : next q.thread ≡ s = ap next (sym same) ∙ at in (
      λ i. elim (in-append q order (step_of t s ∷ []) i) [
        | inl before ↦ (let h : q.step < next q.thread = reached.0 before in omega (arith, h, here))
        | inr last ↦ elim last [
          | inl is ↦ (let h : s ≡ q.step = ap (λ (x : Pos). x.step) is in omega (arith, h))
          | inr none ↦ absurd none
        ]
      ],
      λ less. elim (cases_lt q.step s) [
        | inl before ↦ (let h : q.step < next q.thread = omega (arith, before, here) in in_left q order (step_of t s ∷ []) (reached.1 h))
        | inr ge ↦ (let h : q.step ≡ s = omega (arith, less, ge) in subst (λ (x : Pos). In x (order ++ step_of t s ∷ [])) (same_pos (step_of t s) q (sym same) h) (in_last (step_of t s) order))
      ],
    )
reached_by order next t s q reached at false e = (
  λ i. elim (in-append q order (step_of t s ∷ []) i) [
    | inl before ↦ reached.0 before
    | inr last ↦ elim last [
      | inl is ↦ absurd (false≢true (sym e ∙ eq-eqb t q.thread (ap (λ (x : Pos). x.thread) is)))
      | inr none ↦ absurd none
    ]
  ],
  λ less. in_left q order (step_of t s ∷ []) (reached.1 less),
)

counted_by : (log : Log) (next : ℕ → ℕ) (t s u : ℕ) → next u ≤ (logged log u).steps → s < (logged log t).steps → (b : Bool) → eqb t u ≡ b
    → cond b (suc s) (next u) ≤ (logged log u).steps
counted_by log next t s u le less true e = subst (λ (k : ℕ). suc s ≤ (logged log k).steps) (eqb-true t u e) (omega (arith, less))
counted_by log next t s u le less false e = le

front_step : (image : Layout) (log : Log) (walk : Walk) → IsWalk image log walk → (order : List Pos) (next : ℕ → ℕ) (t s : ℕ) → IsFront log walk order next
    → next t ≡ s
    → s < (logged log t).steps → Ready (told log walk) order t s → IsFront log walk (order ++ step_of t s ∷ []) (moved next t (suc s))
front_step image log walk is order next t s front at less ready = record {
  counted = λ u. counted_by log next t s u (front.counted u) less (eqb t u) refl;
  stands = order_more (told log walk) [] order (step_of t s) front.stands (record {
    place = place_counted log walk (step_of t s) (counted_within image log walk is (step_of t s) less);
    new = λ i. let h : s < next t = (front.reached (step_of t s)).0 i in absurd (omega (arith, h, at));
    needs = needs_by (told log walk) order t s (λ k before. let h : k < next t = omega (arith, before, at) in (front.reached (step_of t k)).1 h) ready;
  });
  reached = λ q. reached_by order next t s q (front.reached q) at (eqb t q.thread) refl;
}

-- ---- more steps

pub front_to : (log : Log) (walk : Walk) (order : List Pos) (next later : ℕ → ℕ) → IsFront log walk order next → ((u : ℕ) → next u ≡ later u)
    → IsFront log walk order later
front_to log walk order next later front same = record {
  counted = λ u. subst (λ (n : ℕ). n ≤ (logged log u).steps) (same u) (front.counted u);
  stands = front.stands;
  reached = λ p. subst (λ (n : ℕ). In p order ↔ (p.step < n)) (same p.thread) (front.reached p);
}

moved_none : (next : ℕ → ℕ) (t s u : ℕ) → next t ≡ s → (b : Bool) → eqb t u ≡ b → next u ≡ cond b (s + 0) (next u)
moved_none next t s u at true e = let h : next u ≡ s = ap next (sym (eqb-true t u e)) ∙ at in omega (arith, h)
moved_none next t s u at false e = refl

moved_twice : (s n m : ℕ) → (b : Bool) → cond b (suc s + n) (cond b (suc s) m) ≡ cond b (s + suc n) m
moved_twice s n m true = omega arith
moved_twice s n m false = refl

front_steps : (image : Layout) (log : Log) (walk : Walk) → IsWalk image log walk → (n : ℕ) (order : List Pos) (next : ℕ → ℕ) (t s : ℕ)
    → IsFront log walk order next → next t ≡ s
    → s + n ≤ (logged log t).steps → ((k : ℕ) → s ≤ k → k < s + n → Ready (told log walk) order t k)
    → IsFront log walk (order ++ steps_from t s n) (moved next t (s + n))
front_steps image log walk is zero order next t s front at le ready =
    front_to log walk (order ++ []) next (moved next t (s + 0)) (subst (λ (l : List Pos). IsFront log walk l next) (sym (append-nil order)) front) (λ u. moved_none next t s u at (eqb t u) refl)
front_steps image log walk is (suc n) order next t s front at le ready =
    let one : IsFront log walk (order ++ step_of t s ∷ []) (moved next t (suc s)) = front_step image log walk is order next t s front at (omega (arith, le)) (ready s (omega arith) (omega arith)) in
    let rest : IsFront log walk ((order ++ step_of t s ∷ []) ++ steps_from t (suc s) n) (moved (moved next t (suc s)) t (suc s + n)) =
    front_steps image log walk is n (order ++ step_of t s ∷ []) (moved next t (suc s)) t (suc s) one
    (ap (λ (b : Bool). cond b (suc s) (next t)) (eq-eqb t t refl)) (omega (arith, le))
    (λ k from to. ready_more (told log walk) order (step_of t s ∷ []) t k (ready k (omega (arith, from)) (omega (arith, to)))) in
    front_to log walk (order ++ steps_from t s (suc n)) (moved (moved next t (suc s)) t (suc s + n)) (moved next t (s + suc n))
    (subst (λ (l : List Pos). IsFront log walk l (moved (moved next t (suc s)) t (suc s + n))) (append_assoc order (step_of t s ∷ []) (steps_from t (suc s) n)) rest)
    (λ u. moved_twice s n (next u) (eqb t u))

-- ---- up to a step

pub get_set : (next : List ℕ) (t v u : ℕ) → t < length next → (b : Bool) → eqb t u ≡ b → get_or (set next t v) u 0 ≡ cond b v (get_or next u 0)
get_set next t v u within true e = ap (λ (k : ℕ). get_or (set next t v) k 0) (sym (eqb-true t u e)) ∙ get_or-set_same next t v 0 within
get_set next t v u within false e = get_or-set_other next t u v 0 (λ (same : u ≡ t). false≢true (sym e ∙ eq-eqb t u (sym same)))

none_from : (t s n : ℕ) → n ≡ 0 → steps_from t s n ≡ []
none_from t s n e = ap (steps_from t s) e

gone_by : (image : Layout) (log : Log) (walk : Walk) → IsWalk image log walk → (order : List Pos) (next : List ℕ) (t to : ℕ) → t < length next
    → to ≤ (logged log t).steps
    → IsFront log walk order (λ u. get_or next u 0) → ((k : ℕ) → k < to → Ready (told log walk) order t k) → (b : Bool) → ltb (get_or next t 0) to ≡ b
    → IsFront log walk (order ++ steps_between t (get_or next t 0) to) (λ u. get_or (cond b (set next t to) next) u 0)
gone_by image log walk is order next t to within le front ready true e =
    let from : ℕ = get_or next t 0 in
    let less : get_or next t 0 < to = ltb-true (get_or next t 0) to e in
    let up : get_or next t 0 + (to - get_or next t 0) ≡ to = omega (arith, less) in
    front_to log walk (order ++ steps_between t (get_or next t 0) to) (moved (λ u. get_or next u 0) t (get_or next t 0 + (to - get_or next t 0))) (λ u. get_or (set next t to) u 0)
    (front_steps image log walk is (to - get_or next t 0) order (λ u. get_or next u 0) t (get_or next t 0) front refl (omega (arith, up, le)) (λ k above below. ready k (omega (arith, below, up))))
    (λ u. ap (λ (v : ℕ). cond (eqb t u) v (get_or next u 0)) up ∙ sym (get_set next t to u within (eqb t u) refl))
gone_by image log walk is order next t to within le front ready false e =
    let ge : to ≤ get_or next t 0 = ltb-false (get_or next t 0) to e in
    let none : to - get_or next t 0 ≡ 0 = omega (arith, ge) in
    subst (λ (l : List Pos). IsFront log walk l (λ u. get_or next u 0)) (sym (ap (λ (l : List Pos). order ++ l) (none_from t (get_or next t 0) (to - get_or next t 0) none) ∙ append-nil order)) front

-- A thread goes on up to a step, where what the steps up to there are made of is done.
pub front_gone : (image : Layout) (log : Log) (walk : Walk) → IsWalk image log walk → (order : List Pos) (next : List ℕ) (t to : ℕ) → t < length next
    → to ≤ (logged log t).steps
    → IsFront log walk order (λ u. get_or next u 0) → ((k : ℕ) → k < to → Ready (told log walk) order t k)
    → IsFront log walk (order ++ steps_between t (get_or next t 0) to) (λ u. get_or (gone_to next t to) u 0)
front_gone image log walk is order next t to within le front ready = gone_by image log walk is order next t to within le front ready (ltb (get_or next t 0) to) refl

-- ---- numbers

length_by : (next : List ℕ) (t to : ℕ) → (b : Bool) → length (cond b (set next t to) next) ≡ length next
length_by next t to true = length-set next t to
length_by next t to false = refl

pub gone_length : (next : List ℕ) (t to : ℕ) → length (gone_to next t to) ≡ length next
gone_length next t to = length_by next t to (ltb (get_or next t 0) to)

reach_by : (next : List ℕ) (t to : ℕ) → t < length next → (b : Bool) → ltb (get_or next t 0) to ≡ b → to ≤ get_or (cond b (set next t to) next) t 0
reach_by next t to within true e = omega (arith, get_or-set_same next t to 0 within)
reach_by next t to within false e = ltb-false (get_or next t 0) to e

-- the thread is there
pub gone_reaches : (next : List ℕ) (t to : ℕ) → t < length next → to ≤ get_or (gone_to next t to) t 0
gone_reaches next t to within = reach_by next t to within (ltb (get_or next t 0) to) refl

more_by : (next : List ℕ) (t to u : ℕ) → t < length next → get_or next t 0 < to → (b : Bool) → eqb t u ≡ b → get_or next u 0 ≤ get_or (set next t to) u 0
more_by next t to u within less true e =
    let same : t ≡ u = eqb-true t u e in
    let h : get_or next t 0 ≤ get_or (set next t to) t 0 = omega (arith, less, get_or-set_same next t to 0 within) in
    subst (λ (k : ℕ). get_or next k 0 ≤ get_or (set next t to) k 0) same h
more_by next t to u within less false e = omega (arith, get_set next t to u within false e)

grows_by : (next : List ℕ) (t to u : ℕ) → t < length next → (b : Bool) → ltb (get_or next t 0) to ≡ b
    → get_or next u 0 ≤ get_or (cond b (set next t to) next) u 0
grows_by next t to u within true e = more_by next t to u within (ltb-true (get_or next t 0) to e) (eqb t u) refl
grows_by next t to u within false e = omega arith

-- and no thread is before where it was
pub gone_grows : (next : List ℕ) (t to u : ℕ) → t < length next → get_or next u 0 ≤ get_or (gone_to next t to) u 0
gone_grows next t to u within = grows_by next t to u within (ltb (get_or next t 0) to) refl

-- ---- lists of steps

pub steps_last : (t s n : ℕ) → steps_from t s n ++ step_of t (s + n) ∷ [] ≡ steps_from t s (suc n)
steps_last t s zero = ap (λ (k : ℕ). step_of t k ∷ []) (let h : s + 0 ≡ s = omega arith in h)
steps_last t s (suc n) =
    ap (λ (l : List Pos). step_of t s ∷ l)
    (ap (λ (k : ℕ). steps_from t (suc s) n ++ step_of t k ∷ []) (let h : s + suc n ≡ suc s + n = omega arith in h) ∙ steps_last t (suc s) n)

-- one step more is appended
pub pushed_more : (base order : List Pos) (t from step : ℕ) → from ≤ step → order ≡ base ++ steps_between t from step
    → order ++ step_of t step ∷ [] ≡ base ++ steps_between t from (step + 1)
pushed_more base order t from step le e =
    let n : ℕ = step - from in
    ap (λ (l : List Pos). l ++ step_of t step ∷ []) e
    ∙ append_assoc base (steps_from t from (step - from)) (step_of t step ∷ [])
    ∙ ap (λ (l : List Pos). base ++ l)
    (ap (λ (k : ℕ). steps_from t from (step - from) ++ step_of t k ∷ []) (let h : step ≡ from + (step - from) = omega (arith, le) in h)
    ∙ steps_last t from (step - from)
    ∙ ap (steps_from t from) (let h : suc (step - from) ≡ step + 1 - from = omega (arith, le) in h))

-- none, where the thread is there already
pub nothing_between : (order : List Pos) (t from to : ℕ) → to ≤ from → order ≡ order ++ steps_between t from to
nothing_between order t from to le =
    let none : to - from ≡ 0 = omega (arith, le) in
    sym (ap (λ (l : List Pos). order ++ l) (none_from t from (to - from) none) ∙ append-nil order)
