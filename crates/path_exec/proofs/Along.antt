-- The walk along a list of steps, one step more at its end.
use Rattle.std.proofs.Common.{◌≡◌, ◌↔◌, ℕ, suc, ◌+◌, List, [], ◌∷◌, ◌++◌, refl, sym, ◌∙◌, ap, subst, inl, inr, arith}
use Rattle.elf_image.specs.Layout.{Layout}
use Rattle.odr_log.specs.declared.log.Pos.{Pos}
use Rattle.rv_model.specs.Noted.{note_in}
use Rattle.guided_walk.specs.Along.{HoldsAlong, put_at, walk_along}
use Rattle.guided_walk.specs.Flow.{NeedsThread}
use Rattle.guided_walk.specs.Guided.{Given, Visit, Visits, at, seen_before, visit, went}
use Rattle.guided_walk.specs.Orders.{In}
use Rattle.guided_walk.specs.Told.{Told, noted}
use Rattle.guided_walk.proofs.Placing.{in-append, in_left}
use Rattle.guided_walk.proofs.Table.{at_other, at_put, same_seen}

along_last : (image : Layout) (told : Told) (given : Given) (done : List Pos) (p : Pos) (v : Visits)
    → walk_along image told given (done ++ p ∷ []) v ≡ put_at p (visit image told given (walk_along image told given done v) p.thread p.step) (walk_along image told given done v)
along_last image told given [] p v = refl
along_last image told given (q ∷ done) p v = along_last image told given done p (put_at q (visit image told given v q.thread q.step) v)

-- the visit of the last step
pub at_last : (image : Layout) (told : Told) (given : Given) (done : List Pos) (p : Pos) (v : Visits)
    → at (walk_along image told given (done ++ p ∷ []) v) p ≡ visit image told given (walk_along image told given done v) p.thread p.step
at_last image told given done p v =
    ap (λ (x : Visits). at x p) (along_last image told given done p v) ∙ at_put p (visit image told given (walk_along image told given done v) p.thread p.step) (walk_along image told given done v)

-- those of the steps before it stay
pub at_before : (image : Layout) (told : Told) (given : Given) (done : List Pos) (p q : Pos) (v : Visits) → (In p done → ⊥) → In q done
    → at (walk_along image told given (done ++ p ∷ []) v) q ≡ at (walk_along image told given done v) q
at_before image told given done p q v new i =
    ap (λ (x : Visits). at x q) (along_last image told given done p v)
    ∙ at_other p q (visit image told given (walk_along image told given done v) p.thread p.step) (walk_along image told given done v) (λ e. new (subst (λ (r : Pos). In r done) (sym e) i))

in_last : (p : Pos) (done : List Pos) → In p (done ++ p ∷ [])
in_last p [] = inl refl
in_last p (q ∷ done) = inr (in_last p done)

pub holds_more : (image : Layout) (told : Told) (given : Given) (done : List Pos) (p : Pos) (v : Visits) → (In p done → ⊥)
    → HoldsAlong image told given (done ++ p ∷ []) v
    ↔ (HoldsAlong image told given done v × (note_in (visit image told given (walk_along image told given done v) p.thread p.step).outcome ≡ noted told p))
holds_more image told given done p v new =
    let last = ap (λ (x : Visit). note_in x.outcome) (at_last image told given done p v) in (
      λ holds. (
        λ q i. sym (ap (λ (x : Visit). note_in x.outcome) (at_before image told given done p q v new i)) ∙ holds q (in_left q done (p ∷ []) i),
        sym last ∙ holds p (in_last p done),
      ),
      λ both q i. elim (in-append q done (p ∷ []) i) [
        | inl before ↦ ap (λ (x : Visit). note_in x.outcome) (at_before image told given done p q v new before) ∙ both.0 q before
        | inr here ↦ elim here [ inl e ↦ subst (λ (r : Pos). note_in (at (walk_along image told given (done ++ p ∷ []) v) r).outcome ≡ noted told r) e (last ∙ both.1) | inr none ↦ absurd none ]
      ],
    )

-- a thread after the last step
pub seen_after : (image : Layout) (told : Told) (given : Given) (done : List Pos) (p : Pos) (v : Visits)
    → seen_before image told (walk_along image told given (done ++ p ∷ []) v) p.thread (p.step + 1)
    ≡ went image (seen_before image told (walk_along image told given done v) p.thread p.step) (visit image told given (walk_along image told given done v) p.thread p.step).outcome
seen_after image told given done p v =
    let next : p.step + 1 ≡ suc p.step = omega arith in
    ap (seen_before image told (walk_along image told given (done ++ p ∷ []) v) p.thread) next
    ∙ ap (λ (x : Visit). went image x.seen x.outcome) (at_last image told given done p v)

-- a thread before a step that needs only what is done
pub seen_kept : (image : Layout) (told : Told) (given : Given) (done : List Pos) (p : Pos) (v : Visits) (thread step : ℕ) → (In p done → ⊥)
    → ((q : Pos) → NeedsThread told q thread step → In q done)
    → seen_before image told (walk_along image told given (done ++ p ∷ []) v) thread step ≡ seen_before image told (walk_along image told given done v) thread step
seen_kept image told given done p v thread step new needs =
    same_seen image told (walk_along image told given (done ++ p ∷ []) v) (walk_along image told given done v) thread step
    (λ q need. record { same = at_before image told given done p q v new (needs q need) })
