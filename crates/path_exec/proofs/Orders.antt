-- The next step of a thread along such a list.
use Rattle.std.proofs.Common.{◌≡◌, ℕ, zero, suc, ◌<◌, List, [], ◌∷◌, ◌++◌, refl, sym, ◌∙◌, ap, subst, inl, inr, arith}
use Rattle.std.specs.Prelude.{Some}
use Rattle.std.proofs.lemmas.Bool.{cases_lt}
use Rattle.odr_log.specs.declared.log.Pos.{Pos}
use Rattle.guided_walk.specs.Flow.{NeedsThread}
use Rattle.guided_walk.specs.Orders.{In}
use Rattle.guided_walk.specs.Told.{Told}
use Rattle.guided_walk.proofs.Placing.{in-append, in_left}
pub use Rattle.step_order.proofs.Orders.{below, distinct_by, in_last, needs_done, next_follows, order_more}
use Rattle.walk_lists.specs.Order.{Follows, IsOrder}
use Rattle.path_exec.specs.Progress.{IsNext, step_of}

not_later : (told : Told) (done : List Pos) (thread s t : ℕ) → IsOrder told [] done → IsNext told done thread s → IsNext told done thread t → s < t → ⊥
not_later told done thread s zero order one other less = absurd (omega (arith, less))
not_later told done thread s (suc t) order one other less = one.new (below told done thread t s order (other.needs (step_of thread t) refl) (omega (arith, less)))

-- a thread has one such step
pub one_next : (told : Told) (done : List Pos) (thread s t : ℕ) → IsOrder told [] done → IsNext told done thread s → IsNext told done thread t → s ≡ t
one_next told done thread s t order one other = elim (cases_lt s t) [
  | inl less ↦ absurd (not_later told done thread s t order one other less)
  | inr le ↦ elim (cases_lt t s) [
    | inl more ↦ absurd (not_later told done thread t s order other one more)
    | inr ge ↦ omega (arith, le, ge)
  ]
]

pub follows_next : (told : Told) (done : List Pos) (p : Pos) → Follows told done p → IsNext told done p.thread p.step
follows_next told done p follows = record { needs = λ q need. follows.needs q (inl need); new = follows.new }

pub last_cases : (p q : Pos) (done : List Pos) → In q (done ++ p ∷ []) → (In q done → ⊥) → p ≡ q
last_cases p q done i new = elim (in-append q done (p ∷ []) i) [
  | inl before ↦ absurd (new before)
  | inr here ↦ elim here [ inl e ↦ e | inr none ↦ absurd none ]
]

-- after a step the next one of its thread
pub next_after : (told : Told) (done : List Pos) (p : Pos) → IsOrder told [] done → Follows told done p → IsNext told (done ++ p ∷ []) p.thread (suc p.step)
next_after told done p order follows = record {
  needs = λ q e. subst (λ (x : Pos). In x (done ++ p ∷ [])) (sym e) (in_last p done);
  new = λ i. elim (in-append (step_of p.thread (suc p.step)) done (p ∷ []) i) [
    | inl before ↦ follows.new (below told done p.thread (suc p.step) p.step order before (omega arith))
    | inr here ↦ elim here [
      | inl e ↦ absurd (omega (arith, ap (λ (x : Pos). x.step) e))
      | inr none ↦ absurd none
    ]
  ];
}

pub then_next : (told : Told) (done : List Pos) (p : Pos) (s : ℕ) → IsOrder told [] done → Follows told done p → IsNext told (done ++ p ∷ []) p.thread s → s ≡ suc p.step
then_next told done p s order follows open_ = one_next told (done ++ p ∷ []) p.thread s (suc p.step) (order_more told [] done p order follows) open_ (next_after told done p order follows)

-- another thread's next step stays, where the step doesn't make the thread
pub other_next : (told : Told) (done : List Pos) (p : Pos) (thread s : ℕ) → (p.thread ≡ thread → ⊥) → (told.maker thread ≡ Some p → ⊥) → IsNext told (done ++ p ∷ []) thread s → IsNext told done thread s
other_next told done p thread s apart unmade open_ = record {
  needs = λ q need. elim (in-append q done (p ∷ []) (open_.needs q need)) [
    | inl before ↦ before
    | inr here ↦ elim here [ inl e ↦ absurd (is_not s need e) | inr none ↦ absurd none ]
  ];
  new = λ i. open_.new (in_left (step_of thread s) done (p ∷ []) i);
}
  where
    is_first : (t : ℕ) (q : Pos) → NeedsThread told q t zero → told.maker t ≡ Some q
    is_first zero q need = absurd need
    is_first (suc t) q need = need

    is_not : {q : Pos} (n : ℕ) → NeedsThread told q thread n → p ≡ q → ⊥
    is_not (suc n) need e = apart (ap (λ (x : Pos). x.thread) (e ∙ need))
    is_not {q} zero need e = unmade (is_first thread q need ∙ ap (λ (x : Pos). Some x) (sym e))

maker_needed : (told : Told) (p : Pos) (t : ℕ) → told.maker t ≡ Some p → (t ≡ 0 → ⊥) → NeedsThread told p t zero
maker_needed told p zero e child = absurd (child refl)
maker_needed told p (suc t) e child = e

-- a thread that the step makes has its first step next
pub first_next : (told : Told) (done : List Pos) (p : Pos) (thread s : ℕ) → IsOrder told [] done → Follows told done p → (p.thread ≡ thread → ⊥) → told.maker thread ≡ Some p → (thread ≡ 0 → ⊥)
    → IsNext told (done ++ p ∷ []) thread s → s ≡ 0
first_next told done p thread zero order follows apart made child open_ = refl
first_next told done p thread (suc s) order follows apart made child open_ = elim (in-append (step_of thread s) done (p ∷ []) (open_.needs (step_of thread s) refl)) [
  | inl before ↦ absurd (follows.new (needs_done told done (step_of thread 0) p order (below told done thread s 0 order before (omega arith)) (inl (maker_needed told p thread made child))))
  | inr here ↦ elim here [ inl e ↦ absurd (apart (ap (λ (x : Pos). x.thread) e)) | inr none ↦ absurd none ]
]

-- no step makes its own thread
pub not_own : (told : Told) (done : List Pos) (p : Pos) → IsOrder told [] done → Follows told done p → told.maker p.thread ≡ Some p → (p.thread ≡ 0 → ⊥) → ⊥
not_own told done p order follows made child = by_step p.step refl
  where
    by_step : (n : ℕ) → p.step ≡ n → ⊥
    by_step zero e = follows.new (follows.needs p (inl (subst (NeedsThread told p p.thread) (sym e) (maker_needed told p p.thread made child))))
    by_step (suc n) e =
        let earlier : In (step_of p.thread n) done = follows.needs (step_of p.thread n) (inl (subst (NeedsThread told (step_of p.thread n) p.thread) (sym e) refl)) in
        follows.new (needs_done told done (step_of p.thread 0) p order (below told done p.thread n 0 order earlier (omega arith)) (inl (maker_needed told p p.thread made child)))
