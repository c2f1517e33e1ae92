-- The conditions under which a store-conditional fails, one write after another.
use Rattle.std.proofs.Common.{◌≡◌, ℕ, ◌<◌, ◌≤◌, ◌+◌, ◌⊎◌, Bool, true, false, not, List, [], ◌∷◌, ◌++◌}
use Rattle.std.proofs.Common.{length, take, get_or, refl, sym, ◌∙◌, ap, subst, inl, inr, arith}
use Rattle.std.specs.Prelude.{IsSome, All}
use Rattle.std.proofs.lemmas.Bool.{false≢true, cases_lt}
use Rattle.std.proofs.lemmas.List.{take_all, take_more}
use Rattle.std.proofs.lemmas.List.Elements.{All-nil, All-cons, All-head, All-push, All-contains, All-weaker}
use Rattle.clause_store.specs.Literals.{Assignment, Satisfies}
use Rattle.clause_store.specs.UnitRule.{Partial, AllAtRest}
use Rattle.clause_store.specs.Formula.{Formula, Grows, Extension}
use Rattle.clause_store.proofs.Agreement.{composed}
use Rattle.clause_store.proofs.Growth.{growth_then, older_satisfied, older_at_rest}
use Rattle.clause_store.proofs.Members.{All-left, All-right, Contains-head}
use Rattle.clause_store.proofs.Rest.{given-opposite, literal_value-opposite}
use Rattle.order_clauses.specs.declared.order_lit.OrderLit.{OrderLit}
use Rattle.order_clauses.specs.declared.order_lit.OrderLit.TheVariants as order_lit
use Rattle.order_clauses.specs.Literals.{spelled}
use Rattle.order_clauses.specs.Grid.{IsKnownOrder}
use Rattle.order_clauses.proofs.Known.{never_is}
use Rattle.clause_store.specs.Literals.{opposite}
use Rattle.source_clauses.specs.Conditions.{IsDecided}
use Rattle.source_clauses.proofs.Alike.{always_is}
use Rattle.source_clauses.proofs.Gathered.{grows_self, itself, none_new, is_known_order}
use Rattle.outcome_clauses.specs.declared.store_conditional.Ender.{Ender}
use Rattle.outcome_clauses.specs.Succeeds.{Ends}
use Rattle.outcome_clauses.specs.Contract.{KnowsEnder, HasValue, IsPlaced}
use Rattle.outcome_clauses.specs.NoneOf.{NoneHolds}
use Rattle.outcome_clauses.specs.Failures.{negated, IsEnding, AreFailures}

-- the opposite condition

negated_value : (w : Assignment) (condition : OrderLit) → spelled w (negated condition) ≡ not (spelled w condition)
negated_value w order_lit.Always = refl
negated_value w order_lit.Never = refl
negated_value w (order_lit.Is l) = literal_value-opposite w l

negated_decided : (v : Partial) (condition : OrderLit) (b : Bool) → IsDecided v condition b → IsDecided v (negated condition) (not b)
negated_decided v order_lit.Always b g = ap (λ (p : Bool). not p) g
negated_decided v order_lit.Never b g = ap (λ (p : Bool). not p) g
negated_decided v (order_lit.Is l) b g = given-opposite v l b g

negated_known : (vars : ℕ) (condition : OrderLit) → IsKnownOrder vars condition → IsKnownOrder vars (negated condition)
negated_known vars order_lit.Always known = λ l e. absurd (never_is l e)
negated_known vars order_lit.Never known = λ l e. absurd (always_is l e)
negated_known vars (order_lit.Is m) known = is_known_order vars (opposite m) (known m refl)

true_of_not : (b : Bool) → not b ≡ false → b ≡ true
true_of_not true e = refl
true_of_not false e = absurd (false≢true (sym e))

-- what is known stays known
pub known_later : (vars more : ℕ) → vars ≤ more → (condition : OrderLit) → IsKnownOrder vars condition → IsKnownOrder more condition
known_later vars more le condition known l e = later l.var vars more (known l e) le
  where
    later : (x m n : ℕ) → x < m → m ≤ n → x < n
    later x m n h g = omega (arith, h, g)

pub ender_later : (vars more : ℕ) → vars ≤ more → (ender : Ender) → KnowsEnder vars ender → KnowsEnder more ender
ender_later vars more le ender knows =
    record {
      after = known_later vars more le ender.after knows.after;
      before = known_later vars more le ender.before knows.before;
      hit = known_later vars more le ender.hit knows.hit;
    }

-- the address alone

same_alone : (f : Formula) (same : OrderLit) → IsKnownOrder f.vars same → AreFailures f f same [] (negated same ∷ [])
same_alone f same known =
    record {
      grows = grows_self f;
      known = All-cons (IsKnownOrder f.vars) (negated same) [] (negated_known f.vars same known) (All-nil (IsKnownOrder f.vars));
      none = λ w sat. (λ none. (there w none, All-nil (λ ender. Ends w ender → ⊥)), λ p. back w p.0);
      extends = λ w sat. itself f.vars w f.clauses sat;
      decided =
          λ v rest value placed.
          All-cons (HasValue v) (negated same) [] (not value.0, negated_decided v same value.0 value.1) (All-nil (HasValue v));
      decides = λ v rest placed x from to. absurd (none_new f x from to);
    }
  where
    there : (w : Assignment) → NoneHolds w (negated same ∷ []) → spelled w same ≡ true
    there w none = true_of_not (spelled w same) (sym (negated_value w same) ∙ All-head (λ c. spelled w c ≡ false) (negated same) [] none)

    back : (w : Assignment) → spelled w same ≡ true → NoneHolds w (negated same ∷ [])
    back w e =
        All-cons (λ c. spelled w c ≡ false) (negated same) [] (negated_value w same ∙ ap (λ (b : Bool). not b) e)
        (All-nil (λ c. spelled w c ≡ false))

pub failures_begin : (f : Formula) (same condition : OrderLit) (failures : List OrderLit) → IsKnownOrder f.vars same → condition ≡ negated same
    → failures ≡ [] ++ condition ∷ [] → AreFailures f f same [] failures
failures_begin f same condition failures known is pushed =
    subst (λ (cs : List OrderLit). AreFailures f f same [] cs) (sym pushed)
    (subst (λ (c : OrderLit). AreFailures f f same [] (c ∷ [])) (sym is) (same_alone f same known))

-- one write more

last_of : {X : Type 0} (P : X → Type 0) (xs : List X) (x : X) → All P (xs ++ x ∷ []) → P x
last_of P xs x all = All-contains P (x ∷ []) x (All-right P xs (x ∷ []) all) (Contains-head x [])

failures_push : (old between new : Formula) (same : OrderLit) (enders : List Ender) (ender : Ender) (failures : List OrderLit) (ending : OrderLit)
    → AreFailures old between same enders failures → IsEnding between new ender ending
    → AreFailures old new same (enders ++ ender ∷ []) (failures ++ ending ∷ [])
failures_push old between new same enders ender failures ending first last =
    record {
      grows = growth_then old between new first.grows last.grows;
      known =
          All-push (IsKnownOrder new.vars) failures ending
          (All-weaker (IsKnownOrder between.vars) (IsKnownOrder new.vars) (known_later between.vars new.vars last.grows.vars) failures first.known) last.known;
      none = λ w sat. (there w sat, back w sat);
      extends =
          λ w sat.
          let one : Extension old.vars w between.clauses = first.extends w sat in
          composed old.vars between.vars w between.clauses new.clauses one first.grows.vars (last.extends one.extended one.satisfies);
      decided =
          λ v rest value placed.
          All-push (HasValue v) failures ending
          (first.decided v (older_at_rest between new v last.grows rest) value (All-left (IsPlaced v) enders (ender ∷ []) placed))
          (last.decided v rest (last_of (IsPlaced v) enders ender placed));
      decides = λ v rest placed x from to. by_place v rest placed x from to (cases_lt x between.vars);
    }
  where
    there : (w : Assignment) → Satisfies w new.clauses → NoneHolds w (failures ++ ending ∷ [])
        → (spelled w same ≡ true) × All (λ e. Ends w e → ⊥) (enders ++ ender ∷ [])
    there w sat none =
        let before = (first.none w (older_satisfied between new w last.grows sat)).0 (All-left (λ c. spelled w c ≡ false) failures (ending ∷ []) none) in (
          before.0,
          All-push (λ e. Ends w e → ⊥) enders ender before.1
              (λ ends. false≢true (sym (last_of (λ c. spelled w c ≡ false) failures ending none) ∙ (last.has_value w sat).1 ends)),
        )

    unended : (w : Assignment) → Satisfies w new.clauses → (Ends w ender → ⊥) → (b : Bool) → spelled w ending ≡ b → spelled w ending ≡ false
    unended w sat kept true e = absurd (kept ((last.has_value w sat).0 e))
    unended w sat kept false e = e

    back : (w : Assignment) → Satisfies w new.clauses → (spelled w same ≡ true) × All (λ e. Ends w e → ⊥) (enders ++ ender ∷ [])
        → NoneHolds w (failures ++ ending ∷ [])
    back w sat p =
        All-push (λ c. spelled w c ≡ false) failures ending
        ((first.none w (older_satisfied between new w last.grows sat)).1 (p.0, All-left (λ e. Ends w e → ⊥) enders (ender ∷ []) p.1))
        (unended w sat (last_of (λ e. Ends w e → ⊥) enders ender p.1) (spelled w ending) refl)

    by_place : (v : Partial) → AllAtRest v new.clauses → All (IsPlaced v) (enders ++ ender ∷ []) → (x : ℕ) → old.vars ≤ x → x < new.vars
        → (x < between.vars) ⊎ (between.vars ≤ x) → IsSome (v x)
    by_place v rest placed x from to (inl h) =
        first.decides v (older_at_rest between new v last.grows rest) (All-left (IsPlaced v) enders (ender ∷ []) placed) x from h
    by_place v rest placed x from to (inr h) = last.decides v rest (last_of (IsPlaced v) enders ender placed) x h to

pub failures_more : (old between new : Formula) (same : OrderLit) (enders items : List Ender) → items ≡ enders → (i : ℕ) (d : Ender)
    (failures more : List OrderLit) (ending : OrderLit) → i < length items → AreFailures old between same (take i enders) failures
    → IsEnding between new (get_or items i d) ending → more ≡ failures ++ ending ∷ [] → AreFailures old new same (take (i + 1) enders) more
failures_more old between new same enders items equal i d failures more ending within first last pushed =
    subst (λ (es : List Ender). AreFailures old new same (take (i + 1) es) more) equal
    (subst (λ (es : List Ender). AreFailures old new same es more) (sym (take_more items i d within))
    (subst (λ (cs : List OrderLit). AreFailures old new same (take i items ++ get_or items i d ∷ []) cs) (sym pushed)
    (failures_push old between new same (take i items) (get_or items i d) failures ending
    (subst (λ (es : List Ender). AreFailures old between same (take i es) failures) (sym equal) first) last)))

-- a write of the list is known, now and later
pub ender_known : (vars more : ℕ) → vars ≤ more → (enders items : List Ender) → items ≡ enders → All (KnowsEnder vars) enders → (i : ℕ) (d : Ender)
    → i < length items → KnowsEnder more (get_or items i d)
ender_known vars more le enders items equal knows i d within =
    ender_later vars more le (get_or items i d) ((subst (λ (es : List Ender). All (KnowsEnder vars) es) (sym equal) knows) i d within)

pub failures_all : (old new : Formula) (same : OrderLit) (enders : List Ender) (i : ℕ) (failures : List OrderLit) → length enders ≤ i
    → AreFailures old new same (take i enders) failures → AreFailures old new same enders failures
failures_all old new same enders i failures end are =
    subst (λ (es : List Ender). AreFailures old new same es failures) (take_all i enders end) are

pub failures_grow : (old new : Formula) (same : OrderLit) (enders : List Ender) (failures : List OrderLit)
    → AreFailures old new same enders failures → Grows old new
failures_grow old new same enders failures are = are.grows
