-- Lists of steps in which each stands after what it is made of.
use Rattle.std.proofs.Common.{◌≡◌, ℕ, zero, suc, ◌≤◌, List, [], ◌∷◌, ◌++◌, refl, sym, subst, inl, inr, arith}
use Rattle.std.proofs.lemmas.Bool.{cases_lt}
use Rattle.std.proofs.lemmas.List.{append_assoc, append-nil}
use Rattle.odr_log.specs.declared.log.Pos.{Pos}
use Rattle.guided_walk.specs.Flow.{Needs}
use Rattle.guided_walk.specs.Orders.{Distinct, In}
use Rattle.guided_walk.specs.Told.{Told}
use Rattle.guided_walk.proofs.Placing.{in_left}
use Rattle.walk_lists.specs.Order.{Follows, IsOrder}
use Rattle.step_order.specs.SoFar.{step_of}

pub order_more : (told : Told) (done steps : List Pos) (p : Pos) → IsOrder told done steps → Follows told (done ++ steps) p
    → IsOrder told done (steps ++ p ∷ [])
order_more told done [] p order follows = (subst (λ l. Follows told l p) (append-nil done) follows, tt)
order_more told done (q ∷ steps) p order follows = (order.0, order_more told (done ++ q ∷ []) steps p order.1 (subst (λ l. Follows told l p) (sym (append_assoc done (q ∷ []) steps)) follows))

-- what a step of the list is made of is in the list, or was done before
pub needs_in : (told : Told) (done steps : List Pos) (p q : Pos) → IsOrder told done steps → In p steps → Needs told q p → In q (done ++ steps)
needs_in told done [] p q order i need = absurd i
needs_in told done (x ∷ later) p q order (inl e) need = in_left q done (x ∷ later) (order.0.needs q (subst (λ (y : Pos). Needs told q y) (sym e) need))
needs_in told done (x ∷ later) p q order (inr i) need = subst (In q) (append_assoc done (x ∷ []) later) (needs_in told (done ++ x ∷ []) later p q order.1 i need)

pub needs_done : (told : Told) (done : List Pos) (p q : Pos) → IsOrder told [] done → In p done → Needs told q p → In q done
needs_done told done p q order i need = needs_in told [] done p q order i need

-- with a step of a thread all earlier ones are done
pub below : (told : Told) (done : List Pos) (thread n s : ℕ) → IsOrder told [] done → In (step_of thread n) done → s ≤ n → In (step_of thread s) done
below told done thread zero s order i le = let same : 0 ≡ s = omega (arith, le) in subst (λ k. In (step_of thread k) done) same i
below told done thread (suc n) s order i le = elim (cases_lt s (suc n)) [
  | inl less ↦ below told done thread n s order (needs_done told done (step_of thread (suc n)) (step_of thread n) order i (inl refl)) (omega (arith, less))
  | inr ge ↦ (let same : suc n ≡ s = omega (arith, le, ge) in subst (λ k. In (step_of thread k) done) same i)
]

pub in_last : (p : Pos) (done : List Pos) → In p (done ++ p ∷ [])
in_last p [] = inl refl
in_last p (q ∷ done) = inr (in_last p done)

-- ---- each step once

pub not_again : (told : Told) (done steps : List Pos) (q : Pos) → IsOrder told done steps → In q done → In q steps → ⊥
not_again told done [] q order there i = i
not_again told done (p ∷ later) q order there (inl e) = order.0.new (subst (λ (x : Pos). In x done) (sym e) there)
not_again told done (p ∷ later) q order there (inr i) = not_again told (done ++ p ∷ []) later q order.1 (in_left q done (p ∷ []) there) i

pub distinct_by : (told : Told) (done steps : List Pos) → IsOrder told done steps → Distinct steps
distinct_by told done [] order = tt
distinct_by told done (p ∷ later) order = (λ i. not_again told (done ++ p ∷ []) later p order.1 (in_last p done) i, distinct_by told (done ++ p ∷ []) later order.1)

-- a front of such a list is one, and the step behind it follows it
pub front_order : (told : Told) (done steps later : List Pos) → IsOrder told done (steps ++ later) → IsOrder told done steps
front_order told done [] later order = tt
front_order told done (p ∷ steps) later order = (order.0, front_order told (done ++ p ∷ []) steps later order.1)

pub next_follows : (told : Told) (done steps later : List Pos) (p : Pos) → IsOrder told done (steps ++ p ∷ later) → Follows told (done ++ steps) p
next_follows told done [] later p order = subst (λ l. Follows told l p) (sym (append-nil done)) order.0
next_follows told done (q ∷ steps) later p order = subst (λ l. Follows told l p) (append_assoc done (q ∷ []) steps) (next_follows told (done ++ q ∷ []) steps later p order.1)
