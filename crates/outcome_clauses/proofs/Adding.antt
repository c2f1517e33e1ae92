-- All that the clauses of a store-conditional promise.
use Rattle.std.proofs.Common.{◌≡◌, ℕ, ◌<◌, ◌≤◌, List, sym, ◌∙◌, subst, arith}
use Rattle.std.specs.Prelude.{◌↔◌}
use Rattle.std.proofs.lemmas.List.Elements.{All-contains, All-weaker}
use Rattle.clause_store.specs.Literals.{Assignment, literal_value, Satisfies}
use Rattle.clause_store.specs.Formula.{Formula, Extension}
use Rattle.clause_store.proofs.Agreement.{literal_value-agree}
use Rattle.clause_store.proofs.Growth.{growth_then, older_satisfied, older_at_rest}
use Rattle.clause_store.proofs.Members.{All-from_contains}
use Rattle.order_clauses.specs.declared.order_lit.OrderLit.{OrderLit}
use Rattle.source_clauses.proofs.Alike.{Agree, spelled_alike}
use Rattle.outcome_clauses.specs.declared.store_conditional.Ender.{Ender}
use Rattle.outcome_clauses.specs.declared.store_conditional.StoreConditional.{StoreConditional}
use Rattle.outcome_clauses.specs.Succeeds.{Ends, Succeeds, HasOutcome}
use Rattle.outcome_clauses.specs.Contract.{KnowsEnder, KnowsConditional, AddsOutcome}
use Rattle.outcome_clauses.specs.NoneOf.{NoneHolds, IsNoneOf}
use Rattle.outcome_clauses.specs.Failures.{AreFailures}
use Rattle.outcome_clauses.proofs.Gathering.{known_later, ender_later}

-- assignments that agree on what is known

turned : (vars : ℕ) (w u : Assignment) → Agree vars w u → Agree vars u w
turned vars w u agree x below = sym (agree x below)

ends_alike : (vars : ℕ) (w u : Assignment) → Agree vars w u → (ender : Ender) → KnowsEnder vars ender → Ends w ender → Ends u ender
ends_alike vars w u agree ender knows ends =
    record {
      between =
          record {
            after = spelled_alike vars w u agree ender.after knows.after ∙ ends.between.after;
            before = spelled_alike vars w u agree ender.before knows.before ∙ ends.between.before;
          };
      hits = spelled_alike vars w u agree ender.hit knows.hit ∙ ends.hits;
    }

succeeds_alike : (vars : ℕ) (w u : Assignment) → Agree vars w u → (sc : StoreConditional) → KnowsConditional vars sc → Succeeds w sc → Succeeds u sc
succeeds_alike vars w u agree sc knows succeeds =
    record {
      same = spelled_alike vars w u agree sc.same knows.same ∙ succeeds.same;
      kept =
          All-from_contains (λ ender. Ends u ender → ⊥) sc.enders
          (λ ender listed ends.
          All-contains (λ e. Ends w e → ⊥) sc.enders ender succeeds.kept listed
          (ends_alike vars u w (turned vars w u agree) ender (All-contains (KnowsEnder vars) sc.enders ender knows.enders listed) ends));
    }

pub has_alike : (vars : ℕ) (w u : Assignment) → Agree vars w u → (sc : StoreConditional) → KnowsConditional vars sc → HasOutcome w sc → HasOutcome u sc
has_alike vars w u agree sc knows has =
    let same : literal_value u sc.outcome ≡ literal_value w sc.outcome = literal_value-agree w u sc.outcome (agree sc.outcome.var knows.outcome) in (
      λ t. succeeds_alike vars w u agree sc knows (has.0 (sym same ∙ t)),
      λ s. same ∙ has.1 (succeeds_alike vars u w (turned vars w u agree) sc knows s),
    )

pub conditional_later : (vars more : ℕ) → vars ≤ more → (sc : StoreConditional) → KnowsConditional vars sc → KnowsConditional more sc
conditional_later vars more le sc knows =
    record {
      same = known_later vars more le sc.same knows.same;
      enders = All-weaker (KnowsEnder vars) (KnowsEnder more) (ender_later vars more le) sc.enders knows.enders;
      outcome = later sc.outcome.var vars more knows.outcome le;
    }
  where
    later : (x m n : ℕ) → x < m → m ≤ n → x < n
    later x m n h g = omega (arith, h, g)

-- the clauses

-- none of the failures holds exactly where the store-conditional succeeds
succeeds_is : (old between : Formula) (sc : StoreConditional) (failures : List OrderLit) → AreFailures old between sc.same sc.enders failures
    → (w : Assignment) → Satisfies w between.clauses → NoneHolds w failures ↔ Succeeds w sc
succeeds_is old between sc failures are w sat =
    let none = are.none w sat in
    (λ all. record { same = (none.0 all).0; kept = (none.0 all).1 }, λ s. none.1 (s.same, s.kept))

pub outcome_added : (old between new : Formula) (sc : StoreConditional) (failures : List OrderLit) → KnowsConditional old.vars sc
    → AreFailures old between sc.same sc.enders failures → IsNoneOf between new sc.outcome failures → AddsOutcome old new sc
outcome_added old between new sc failures knows are is =
    record {
      grows = growth_then old between new are.grows is.grows;
      sound =
          λ w sat.
          let one = is.sound w sat in
          let other = succeeds_is old between sc failures are w (older_satisfied between new w is.grows sat) in
          (λ t. other.0 (one.0 t), λ s. one.1 (other.1 s));
      extends = λ w sat has. extended w sat has;
      decides =
          λ v rest placed x from to.
          are.decides v (older_at_rest between new v is.grows rest) placed x from (subst (λ (n : ℕ). x < n) is.vars to);
      settles = λ v rest placed same. is.settles v rest (are.decided v (older_at_rest between new v is.grows rest) same placed);
    }
  where
    extended : (w : Assignment) → Satisfies w old.clauses → HasOutcome w sc → Extension old.vars w new.clauses
    extended w sat has =
        let first : Extension old.vars w between.clauses = are.extends w sat in
        let u : Assignment = first.extended in
        let has_too : HasOutcome u sc = has_alike old.vars w u first.agrees sc knows has in
        let same : NoneHolds u failures ↔ Succeeds u sc = succeeds_is old between sc failures are u first.satisfies in
        record {
          extended = u;
          agrees = first.agrees;
          satisfies = is.complete u first.satisfies (λ t. same.1 (has_too.0 t), λ none. has_too.1 (same.0 none));
        }
