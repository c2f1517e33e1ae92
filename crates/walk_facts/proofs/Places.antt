-- The steps of a woven schedule.
use Rattle.std.specs.Prelude.{◌≡◌, ℕ, suc, ◌<◌, ◌≤◌, Bool, true, false, cond, List, [], ◌∷◌, refl}
use Rattle.std.proofs.Common.{sym, ◌∙◌, ap, arith, inl, inr, eqb}
use Rattle.std.proofs.lemmas.Bool.{cases_lt, eqb-true}
use Rattle.odr_log.specs.declared.log.Pos.{Pos}
use Rattle.guided_walk.specs.Orders.{In, Stands}
use Rattle.guided_walk.specs.Schedules.{count, next_of, places, places_after}
use Rattle.guided_walk.proofs.Along.{Next, count_own}
use Rattle.guided_walk.proofs.Placing.{distinct_places, place_from}
use Rattle.guided_walk.proofs.ScheduleLaw.{IsPlaced, placed}
use Rattle.guided_walk.proofs.Table.{same_pos}
use Rattle.walk_facts.specs.Law.{PlacesLaw}

rises : (done : List Pos) (schedule : List ℕ) (q p : Pos) → Stands (places_after done schedule) q p → q.thread ≡ p.thread → q.step < p.step
rises done [] q p s same = absurd s
rises done (t ∷ schedule) q p (inl s) same =
    let own : t ≡ p.thread = ap (λ (x : Pos). x.thread) s.0 ∙ same in
    let from : count p.thread (Next t done) ≤ p.step = place_from (Next t done) schedule p s.1 in
    let first : q.step ≡ count t done = ap (λ (x : Pos). x.step) (sym s.0) in
    let next : count p.thread (Next t done) ≡ suc (count t done) = ap (λ (u : ℕ). count u (Next t done)) (sym own) ∙ count_own t done in
    omega (arith, from, first, next)
rises done (t ∷ schedule) q p (inr s) same = rises (Next t done) schedule q p s same

-- a step that isn't done, before one that is to come
before : (done : List Pos) (schedule : List ℕ) (q p : Pos) → count q.thread done ≤ q.step → In p (places_after done schedule) → q.thread ≡ p.thread → q.step < p.step
    → Stands (places_after done schedule) q p
before done [] q p from i same less = absurd i
before done (t ∷ schedule) q p from (inl e) same less =
    let at : p.step ≡ count t done = ap (λ (x : Pos). x.step) (sym e) in
    let own : t ≡ q.thread = ap (λ (x : Pos). x.thread) e ∙ sym same in
    let here : count t done ≡ count q.thread done = ap (λ (u : ℕ). count u done) own in
    absurd (omega (arith, from, less, at, here))
before done (t ∷ schedule) q p from (inr i) same less = by_thread (eqb t q.thread) refl (before (Next t done) schedule q p) where
  by_thread : (b : Bool) → eqb t q.thread ≡ b
      → (cond b (suc (count q.thread done)) (count q.thread done) ≤ q.step → In p (places_after (Next t done) schedule) → q.thread ≡ p.thread → q.step < p.step → Stands (places_after (Next t done) schedule) q p)
      → Stands (places_after done (t ∷ schedule)) q p
  by_thread true e rest = elim (cases_lt (count q.thread done) q.step) [
    | inl more ↦ inr (rest (omega (arith, more)) i same less)
    | inr few ↦ (
        let own : q.thread ≡ t = sym (eqb-true t q.thread e) in
        let at : q.step ≡ count t done = (let z : q.step ≡ count q.thread done = omega (arith, few, from) in z) ∙ ap (λ (u : ℕ). count u done) own in
        inl (same_pos (next_of t done) q own at, i))
  ]
  by_thread false e rest = inr (rest from i same less)

pub places_law : PlacesLaw
places_law image log walk pairs schedule is fit woven =
    let there : IsPlaced image log walk schedule = placed image log walk pairs schedule is fit woven in
    record {
      once = distinct_places [] schedule;
      all = there.all;
      only = there.come.only;
      earlier = λ (q p : Pos) (i : In p (places schedule)) (same : q.thread ≡ p.thread) (less : q.step < p.step). before [] schedule q p (omega arith) i same less;
      rises = rises [] schedule;
    }
