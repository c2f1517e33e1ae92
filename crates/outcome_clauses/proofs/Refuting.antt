-- Clauses that make a literal false where a condition holds.
use Rattle.std.proofs.Common.{◌≡◌, ℕ, ◌<◌, ◌≤◌, ◌+◌, ◌⊎◌, Bool, true, false, not, List, [], ◌∷◌, ◌++◌}
use Rattle.std.proofs.Common.{length, take, get_or, refl, sym, ◌∙◌, subst, inl, inr, arith}
use Rattle.std.specs.Prelude.{Contains}
use Rattle.std.proofs.lemmas.Bool.{false≢true}
use Rattle.std.proofs.lemmas.List.{take_more}
use Rattle.std.proofs.lemmas.List.Elements.{All-nil, All-cons, All-append, All-push, All-contains, Contains-push_cases}
use Rattle.clause_store.specs.declared.lit.Lit.{Lit}
use Rattle.clause_store.specs.Literals.{Assignment, opposite, literal_value, IsTrueUnder, Satisfies}
use Rattle.clause_store.specs.UnitRule.{Partial, MakesTrue, MakesFalse, IsAtRest, AllAtRest}
use Rattle.clause_store.specs.Formula.{Formula, Grows}
use Rattle.clause_store.proofs.Growth.{growth_then, older_satisfied}
use Rattle.clause_store.proofs.Members.{All-left, All-right, Contains-nil, Contains-head, Contains-cons_cases, Any-from_contains}
use Rattle.clause_store.proofs.Rest.{decided, rest-decided, true_decided, true_not_false, given-opposite, literal_value-opposite, forced, last_of_two}
use Rattle.order_clauses.specs.declared.order_lit.OrderLit.{OrderLit}
use Rattle.order_clauses.specs.declared.order_lit.OrderLit.TheVariants as order_lit
use Rattle.order_clauses.specs.Literals.{spelled}
use Rattle.source_clauses.specs.Conditions.{IsDecided}
use Rattle.source_clauses.proofs.Conditional.{spelled_decided, two_true, true_of_opposite}
use Rattle.source_clauses.proofs.Gathered.{grows_self}
use Rattle.outcome_clauses.specs.NoneOf.{NoneHolds, refutation, Refutes}

-- the formula with more clauses behind it
pub appended : (f : Formula) (more : List (List Lit)) → Grows f (record f { clauses = f.clauses ++ more })
appended f more = record { vars = same f.vars; more = more; clauses = refl }
  where
    same : (n : ℕ) → n ≤ n
    same n = omega arith

-- at rest

sole : (v : Partial) (l : Lit) → IsAtRest v (l ∷ []) → MakesTrue v l
sole v l rest = forced v (l ∷ []) l rest (λ k listed. go k (Contains-cons_cases l [] k listed))
  where
    go : (k : Lit) → (l ≡ k) ⊎ Contains [] k → (k ≡ l) ⊎ MakesFalse v k
    go k (inl e) = inl (sym e)
    go k (inr none) = absurd (Contains-nil k none)

at_rest : (v : Partial) (clause : List Lit) → AllAtRest v (clause ∷ []) → IsAtRest v clause
at_rest v clause rest = All-contains (IsAtRest v) (clause ∷ []) clause rest (Contains-head clause [])

refutation_gives : (v : Partial) (literal : Lit) (condition : OrderLit) → AllAtRest v (refutation literal condition) → IsDecided v condition true
    → MakesFalse v literal
refutation_gives v literal order_lit.Never rest g = absurd (false≢true (sym g))
refutation_gives v literal order_lit.Always rest g = sole v (opposite literal) (at_rest v (opposite literal ∷ []) rest)
refutation_gives v literal (order_lit.Is l) rest g =
    last_of_two v (opposite l) (opposite literal) (at_rest v (opposite l ∷ opposite literal ∷ []) rest) (given-opposite v l true g)

-- where all is decided

refutation_false : (w : Assignment) (literal : Lit) (condition : OrderLit) → Satisfies w (refutation literal condition) → literal_value w literal ≡ true
    → spelled w condition ≡ false
refutation_false w literal condition sat t = go (spelled w condition) (spelled_decided w condition)
  where
    go : (b : Bool) → IsDecided (decided w) condition b → b ≡ false
    go true g =
        absurd
        (true_not_false (decided w) literal (true_decided w literal t)
        (refutation_gives (decided w) literal condition (rest-decided w (refutation literal condition) sat) g))
    go false g = refl

not_true : (b : Bool) → (b ≡ true → ⊥) → not b ≡ true
not_true true f = absurd (f refl)
not_true false f = refl

pub opposite_true : (w : Assignment) (l : Lit) → (literal_value w l ≡ true → ⊥) → literal_value w (opposite l) ≡ true
opposite_true w l f = literal_value-opposite w l ∙ not_true (literal_value w l) f

one_clause : (w : Assignment) (clause : List Lit) → IsTrueUnder w clause → Satisfies w (clause ∷ [])
one_clause w clause holds = All-cons (IsTrueUnder w) clause [] holds (All-nil (IsTrueUnder w))

refutation_true : (w : Assignment) (literal : Lit) (condition : OrderLit) → (literal_value w literal ≡ true → spelled w condition ≡ false)
    → Satisfies w (refutation literal condition)
refutation_true w literal order_lit.Never holds = All-nil (IsTrueUnder w)
refutation_true w literal order_lit.Always holds =
    one_clause w (opposite literal ∷ [])
    (Any-from_contains (λ l. literal_value w l ≡ true) (opposite literal ∷ []) (opposite literal) (Contains-head (opposite literal) [])
    (opposite_true w literal (λ t. false≢true (sym (holds t)))))
refutation_true w literal (order_lit.Is l) holds =
    one_clause w (opposite l ∷ opposite literal ∷ [])
    (two_true w (opposite l) (opposite literal)
    (λ e. opposite_true w literal (λ t. false≢true (sym (holds t) ∙ true_of_opposite w l e))))

-- one condition after another

pub refutes_none : (f : Formula) (literal : Lit) → Refutes f f literal []
refutes_none f literal =
    record {
      grows = grows_self f;
      vars = refl;
      sound = λ w sat t. All-nil (λ condition. spelled w condition ≡ false);
      complete = λ w sat holds. sat;
      gives = λ v rest condition listed g. absurd (Contains-nil condition listed);
    }

refutes_one_more : (old between : Formula) (literal : Lit) (conditions : List OrderLit) (condition : OrderLit) → Refutes old between literal conditions
    → Refutes old (record between { clauses = between.clauses ++ refutation literal condition }) literal (conditions ++ condition ∷ [])
refutes_one_more old between literal conditions condition first =
    let more : List (List Lit) = refutation literal condition in
    let new : Formula = record between { clauses = between.clauses ++ more } in
    let grows : Grows between new = appended between more in
    record {
      grows = growth_then old between new first.grows grows;
      vars = first.vars;
      sound =
          λ w sat t.
          All-push (λ c. spelled w c ≡ false) conditions condition (first.sound w (older_satisfied between new w grows sat) t)
          (refutation_false w literal condition (All-right (IsTrueUnder w) between.clauses more sat) t);
      complete =
          λ w sat holds.
          All-append (IsTrueUnder w) between.clauses more
          (first.complete w sat (λ t. All-left (λ c. spelled w c ≡ false) conditions (condition ∷ []) (holds t)))
          (refutation_true w literal condition (λ t. last w (holds t)));
      gives =
          λ v rest one listed g.
          given v rest one g (Contains-push_cases conditions condition one listed);
    }
  where
    last : (w : Assignment) → NoneHolds w (conditions ++ condition ∷ []) → spelled w condition ≡ false
    last w none =
        All-contains (λ c. spelled w c ≡ false) (condition ∷ []) condition
        (All-right (λ c. spelled w c ≡ false) conditions (condition ∷ []) none) (Contains-head condition [])

    given : (v : Partial) → AllAtRest v (between.clauses ++ refutation literal condition) → (one : OrderLit) → IsDecided v one true
        → Contains conditions one ⊎ (condition ≡ one) → MakesFalse v literal
    given v rest one g (inl listed) = first.gives v (All-left (IsAtRest v) between.clauses (refutation literal condition) rest) one listed g
    given v rest one g (inr e) =
        refutation_gives v literal condition (All-right (IsAtRest v) between.clauses (refutation literal condition) rest)
        (subst (λ (c : OrderLit). IsDecided v c true) (sym e) g)

pub refutes_more : (old between new : Formula) (literal : Lit) (conditions : List OrderLit) (i : ℕ) (d : OrderLit) → i < length conditions
    → Refutes old between literal (take i conditions) → new ≡ record between { clauses = between.clauses ++ refutation literal (get_or conditions i d) }
    → Refutes old new literal (take (i + 1) conditions)
refutes_more old between new literal conditions i d within first is =
    subst (λ (cs : List OrderLit). Refutes old new literal cs) (sym (take_more conditions i d within))
    (subst (λ (f : Formula). Refutes old f literal (take i conditions ++ get_or conditions i d ∷ [])) (sym is)
    (refutes_one_more old between literal (take i conditions) (get_or conditions i d) first))
