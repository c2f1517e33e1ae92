-- Threads that no spawn began.
use Rattle.std.specs.Prelude.{◌≡◌, ℕ, zero, suc, Option, Some, None, IfNone, refl}
use Rattle.std.proofs.Common.{sym, ◌∙◌, subst}
use Rattle.std.proofs.lemmas.Option.{same_Some}
use Rattle.odr_log.specs.declared.log.Pos.{Pos}
use Rattle.guided_walk.specs.Told.{Told, noted}
use Rattle.plain_walk.specs.Begun.{HandsOn, Begun}

not_begun : (told : Told) (thread : ℕ) (q : Pos) → told.maker thread ≡ Some q → (HandsOn (noted told q) → ⊥) → Begun told thread → thread ≡ 0
not_begun told zero q made never begun = refl
not_begun told (suc before) q made never begun =
    let same : begun.0 ≡ q = same_Some begun.0 q (sym begun.1 ∙ made) in
    absurd (never (subst (λ (x : Pos). HandsOn (noted told x)) same begun.2))

none_map : {A : Type 0} {P Q : Type 0} (o : Option A) → (P → Q) → IfNone o P → IfNone o Q
none_map None f p = f p
none_map (Some x) f p = p

pub handed_none : {A : Type 0} (o : Option A) (told : Told) (thread : ℕ) (q : Pos) → told.maker thread ≡ Some q → IfNone o (HandsOn (noted told q) → ⊥)
    → IfNone o (Begun told thread → thread ≡ 0)
handed_none o told thread q made none = none_map o (not_begun told thread q made) none
