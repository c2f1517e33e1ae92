-- Whether a write ends a reservation, as one condition.
use Rattle.std.proofs.Common.{◌≡◌, ℕ, ◌<◌, ◌≤◌, ◌⊎◌, Bool, true, false, ◌&&◌, refl, sym, ◌∙◌, inl, inr}
use Rattle.std.specs.Prelude.{◌↔◌, IsSome}
use Rattle.std.proofs.lemmas.Bool.{false≢true, cases_lt, and_parts, and_from}
use Rattle.clause_store.specs.Literals.{Assignment}
use Rattle.clause_store.specs.UnitRule.{Partial, AllAtRest}
use Rattle.clause_store.specs.Formula.{Formula, Extension}
use Rattle.clause_store.proofs.Agreement.{composed}
use Rattle.clause_store.proofs.Growth.{growth_then, older_satisfied, older_at_rest}
use Rattle.order_clauses.specs.declared.order_lit.OrderLit.{OrderLit}
use Rattle.order_clauses.specs.Literals.{spelled}
use Rattle.source_clauses.specs.Conditions.{IsDecided, IsBoth}
use Rattle.outcome_clauses.specs.declared.store_conditional.Ender.{Ender}
use Rattle.outcome_clauses.specs.Succeeds.{Ends}
use Rattle.outcome_clauses.specs.Contract.{HasValue, IsPlaced}
use Rattle.outcome_clauses.specs.Failures.{IsEnding}

ends_is : (w : Assignment) (ender : Ender) (between ending : Bool) → between ≡ spelled w ender.after && spelled w ender.before
    → ending ≡ between && spelled w ender.hit → (ending ≡ true) ↔ Ends w ender
ends_is w ender between ending one two = (
  λ e. ends e,
  λ s.
      two
      ∙ and_from between (spelled w ender.hit) (one ∙ and_from (spelled w ender.after) (spelled w ender.before) s.between.after s.between.before) s.hits,
)
  where
    ends : ending ≡ true → Ends w ender
    ends e =
        let outer : (between ≡ true) × (spelled w ender.hit ≡ true) = and_parts between (spelled w ender.hit) (sym two ∙ e) in
        let inner : (spelled w ender.after ≡ true) × (spelled w ender.before ≡ true) =
        and_parts (spelled w ender.after) (spelled w ender.before) (sym one ∙ outer.0)
        in
        record { between = record { after = inner.0; before = inner.1 }; hits = outer.1 }

-- where the write is placed, it is known whether it stands between, and if so whether it hits
record IsMiddle (v : Partial) (ender : Ender) (between : OrderLit) : Type 0 where
  stands : Bool
  decided : IsDecided v between stands
  hit : stands ≡ true → HasValue v ender.hit

middle_of : (old new : Formula) (ender : Ender) (between : OrderLit) → IsBoth old new ender.after ender.before between
    → (v : Partial) → AllAtRest v new.clauses → IsPlaced v ender → IsMiddle v ender between
middle_of old new ender between both v rest placed = by_after placed.after.0 placed.after.1
  where
    by_before : (b : Bool) → IsDecided v ender.after true → IsDecided v ender.before b → IsMiddle v ender between
    by_before true g h = record { stands = true; decided = both.given v true true rest g (λ e. h); hit = λ e. placed.hit g h }
    by_before false g h = record { stands = false; decided = both.given v true false rest g (λ e. h); hit = λ e. absurd (false≢true e) }

    by_after : (a : Bool) → IsDecided v ender.after a → IsMiddle v ender between
    by_after true g = by_before (placed.before g).0 g (placed.before g).1
    by_after false g =
        record { stands = false; decided = both.given v false false rest g (λ e. absurd (false≢true e)); hit = λ e. absurd (false≢true e) }

ending_decided : (old new : Formula) (ender : Ender) (between ending : OrderLit) → IsBoth old new between ender.hit ending
    → (v : Partial) → AllAtRest v new.clauses → IsMiddle v ender between → HasValue v ending
ending_decided old new ender between ending both v rest middle = go middle.stands middle.decided middle.hit
  where
    go : (m : Bool) → IsDecided v between m → (m ≡ true → HasValue v ender.hit) → HasValue v ending
    go true g hit = ((hit refl).0, both.given v true (hit refl).0 rest g (λ e. (hit refl).1))
    go false g hit = (false, both.given v false false rest g (λ e. absurd (false≢true e)))

pub ending_of : (old middle new : Formula) (ender : Ender) (between ending : OrderLit) → IsBoth old middle ender.after ender.before between
    → IsBoth middle new between ender.hit ending → IsEnding old new ender ending
ending_of old middle new ender between ending one two =
    record {
      grows = growth_then old middle new one.grows two.grows;
      known = two.known;
      has_value =
          λ w sat.
          ends_is w ender (spelled w between) (spelled w ending) (one.has_value w (older_satisfied middle new w two.grows sat)) (two.has_value w sat);
      extends =
          λ w sat.
          let first : Extension old.vars w middle.clauses = one.extends w sat in
          composed old.vars middle.vars w middle.clauses new.clauses first one.grows.vars (two.extends first.extended first.satisfies);
      decided = λ v rest placed. ending_decided middle new ender between ending two v rest (in_middle v rest placed);
      decides = λ v rest placed x from to. by_place v rest placed x from to (cases_lt x middle.vars);
    }
  where
    in_middle : (v : Partial) → AllAtRest v new.clauses → IsPlaced v ender → IsMiddle v ender between
    in_middle v rest placed = middle_of old middle ender between one v (older_at_rest middle new v two.grows rest) placed

    by_place : (v : Partial) → AllAtRest v new.clauses → IsPlaced v ender → (x : ℕ) → old.vars ≤ x → x < new.vars
        → (x < middle.vars) ⊎ (middle.vars ≤ x) → IsSome (v x)
    by_place v rest placed x from to (inl h) =
        let m : IsMiddle v ender between = in_middle v rest placed in
        one.decides v m.stands m.decided x from h
    by_place v rest placed x from to (inr h) =
        let out : HasValue v ending = ending_decided middle new ender between ending two v rest (in_middle v rest placed) in
        two.decides v out.0 out.1 x h to
