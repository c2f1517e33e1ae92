-- A store-conditional has its reservation along steps exactly where its address is the LR's and no other thread wrote between.
use Rattle.std.specs.Prelude.{◌≡◌, ◌≢◌, ◌↔◌, ℕ, ◌<◌, Bool, true, false, List, ◌∷◌, nat_eq, Option, Some, refl}
use Rattle.std.proofs.Common.{sym, ◌∙◌, ap, subst, inl, inr, eq-eqb}
use Rattle.std.proofs.lemmas.Bool.{eqb-true, false≢true}
use Rattle.elf_image.specs.declared.write.Write.{Write}
use Rattle.elf_image.specs.Layout.{Layout}
use Rattle.odr_log.specs.declared.log.Pos.{Pos}
use Rattle.rv_model.specs.Thread.{touches}
use Rattle.rv_model.specs.Instruction.{wins}
use Rattle.guided_walk.specs.Guided.{Visits, at, instr_of}
use Rattle.guided_walk.specs.Orders.{In, Stands}
use Rattle.guided_walk.specs.Fits.{reserved}
use Rattle.walk_orders.proofs.Lists.{stands_first}
use Rattle.walk_facts.specs.Links.{access_address}
use Rattle.access_fits.specs.Fitting.{is_linking, LooksBack, IsUndisturbed}
use Rattle.access_fits.specs.Law.{AreSteps}
use Rattle.access_fits.proofs.Front.{Front, done_before, before_next, done_stands}
use Rattle.access_fits.proofs.Reserved.{reserves_at, keeps_at, own_after, IsKept, IsLost, KeptOrLost, kept_or_lost}

same_bool : (a b : Bool) → (a ≡ true → b ≡ true) → (b ≡ true → a ≡ true) → a ≡ b
same_bool true b to from = sym (to refl)
same_bool false true to from = from refl
same_bool false false to from = refl

-- the LR that a step looks back to is done, and nothing of the thread since then is an LR or an SC
since_lr : (image : Layout) (visits : Visits) (accesses steps done later : List Pos) (lr p : Pos) → AreSteps image visits accesses steps
    → Front steps done (p ∷ later) → LooksBack image visits lr p → (q : Pos) → Stands done q lr → q.thread ≡ p.thread → (x : Option ℕ) → own_after image visits q x ≡ x
since_lr image visits accesses steps done later lr p are front looks q s same x =
    let above : lr.step < q.step = are.rises lr q (front.older lr q s) (looks.thread ∙ sym same) in
    let below : q.step < p.step = are.rises q p (before_next steps done later p q front (stands_first q lr done s)) same in
    keeps_at (at visits q).seen.local (instr_of image (at visits q).seen) x
    (subst (λ (t : ℕ). is_linking (instr_of image (visits t q.step).seen) ≡ false) (sym same) (looks.last q.step above below))

state_at : (image : Layout) (visits : Visits) (accesses steps done later : List Pos) (lr p : Pos) → AreSteps image visits accesses steps → Front steps done (p ∷ later)
    → In p steps → LooksBack image visits lr p → KeptOrLost image visits p.thread lr (access_address image visits lr) done
state_at image visits accesses steps done later lr p are front there looks =
    kept_or_lost image visits p.thread lr (access_address image visits lr) done front.done_once
    (done_before steps done later p lr front (are.earlier lr p there looks.thread looks.earlier)) looks.thread
    (λ (x : Option ℕ). reserves_at (at visits lr).seen.local (instr_of image (at visits lr).seen) x looks.reserves)
    (since_lr image visits accesses steps done later lr p are front looks)

undisturbed_where : (image : Layout) (visits : Visits) (accesses steps done later : List Pos) (lr p : Pos) (l : ℕ) → Front steps done (p ∷ later)
    → IsKept image visits p.thread lr l done → IsUndisturbed visits accesses (Stands steps) lr p l
undisturbed_where image visits accesses steps done later lr p l front kept =
    λ (q : Pos) (i : In q accesses) (differs : q.thread ≢ p.thread) (after : Stands steps lr q) (before : Stands steps q p).
    kept.none q (done_stands steps done (p ∷ later) lr q front (done_before steps done later p q front before) after) differs

disturbed_where : (image : Layout) (visits : Visits) (accesses steps done later : List Pos) (lr p : Pos) (l : ℕ) → AreSteps image visits accesses steps
    → Front steps done (p ∷ later) → IsLost image visits p.thread lr l done → IsUndisturbed visits accesses (Stands steps) lr p l → ⊥
disturbed_where image visits accesses steps done later lr p l are front lost none =
    let there : In lost.breaker done = stands_first lost.breaker lr done lost.newer in
    let before : Stands steps lost.breaker p = before_next steps done later p lost.breaker front there in
    elim (are.quiet lost.breaker (stands_first lost.breaker p steps before)) [
      | inl listed ↦ false≢true (sym (none lost.breaker listed lost.disturbs.0 (front.older lr lost.breaker lost.newer) before) ∙ lost.disturbs.1)
      | inr quiet ↦ false≢true (sym (ap (λ (ws : List Write). touches ws l) quiet.writes) ∙ lost.disturbs.1)
    ]

-- wins of one value, and success of the other
abbrev pub Succeeds : Layout → Visits → List Pos → List Pos → (lr p : Pos) → ℕ → Type 0
Succeeds image visits accesses steps lr p address =
    (access_address image visits lr ≡ address) × IsUndisturbed visits accesses (Stands steps) lr p (access_address image visits lr)

won_by : (image : Layout) (visits : Visits) (accesses steps done later : List Pos) (lr p : Pos) (address : ℕ) → AreSteps image visits accesses steps
    → Front steps done (p ∷ later) → KeptOrLost image visits p.thread lr (access_address image visits lr) done
    → (wins (Some address) (reserved image visits p.thread done) ≡ true) ↔ Succeeds image visits accesses steps lr p address
won_by image visits accesses steps done later lr p address are front (inl kept) =
    let is : wins (Some address) (reserved image visits p.thread done) ≡ nat_eq (access_address image visits lr) address = ap (wins (Some address)) kept.reservation in (
      λ (w : wins (Some address) (reserved image visits p.thread done) ≡ true). (
        eqb-true (access_address image visits lr) address (sym is ∙ w),
        undisturbed_where image visits accesses steps done later lr p (access_address image visits lr) front kept,
      ),
      λ (both : Succeeds image visits accesses steps lr p address). is ∙ eq-eqb (access_address image visits lr) address both.0,
    )
won_by image visits accesses steps done later lr p address are front (inr lost) =
    let is : wins (Some address) (reserved image visits p.thread done) ≡ false = ap (wins (Some address)) lost.reservation in (
      λ (w : wins (Some address) (reserved image visits p.thread done) ≡ true). absurd (false≢true (sym is ∙ w)),
      λ (both : Succeeds image visits accesses steps lr p address).
          absurd (disturbed_where image visits accesses steps done later lr p (access_address image visits lr) are front lost both.1),
    )

pub won_where : (image : Layout) (visits : Visits) (accesses steps done later : List Pos) (lr p : Pos) (address : ℕ) → AreSteps image visits accesses steps
    → Front steps done (p ∷ later) → In p steps → LooksBack image visits lr p
    → (wins (Some address) (reserved image visits p.thread done) ≡ true) ↔ Succeeds image visits accesses steps lr p address
won_where image visits accesses steps done later lr p address are front there looks =
    won_by image visits accesses steps done later lr p address are front (state_at image visits accesses steps done later lr p are front there looks)

-- a value that is true exactly where one wins is that one
pub won_is : (won : Bool) (address : ℕ) (reservation : Option ℕ) (S : Type 0) → (wins (Some address) reservation ≡ true) ↔ S → (won ≡ true) ↔ S
    → won ≡ wins (Some address) reservation
won_is won address reservation S one other =
    same_bool won (wins (Some address) reservation) (λ (w : won ≡ true). one.1 (other.0 w)) (λ (w : wins (Some address) reservation ≡ true). other.1 (one.0 w))

pub won_iff : (won : Bool) (address : ℕ) (reservation : Option ℕ) (S : Type 0) → (wins (Some address) reservation ≡ true) ↔ S → won ≡ wins (Some address) reservation
    → (won ≡ true) ↔ S
won_iff won address reservation S one is = (λ (w : won ≡ true). one.0 (sym is ∙ w), λ (s : S). is ∙ one.1 s)
