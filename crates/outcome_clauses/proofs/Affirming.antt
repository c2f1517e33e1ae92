-- The clause that makes a literal true where no condition holds.
use Rattle.std.proofs.Common.{◌≡◌, ℕ, ◌<◌, ◌+◌, ◌⊎◌, Bool, true, false, List, [], ◌∷◌, ◌++◌, length, take, get_or, refl, sym, ◌∙◌, ap, subst, inl, inr}
use Rattle.std.specs.Prelude.{IsSome, All, Contains}
use Rattle.std.proofs.lemmas.Bool.{false≢true}
use Rattle.std.proofs.lemmas.List.{take_more}
use Rattle.std.proofs.lemmas.List.Elements.{All-nil, All-cons, All-append, All-contains, Contains-push, Contains-push_cases, Contains-append_left}
use Rattle.clause_store.specs.declared.lit.Lit.{Lit}
use Rattle.clause_store.specs.Literals.{Assignment, literal_value, IsTrueUnder}
use Rattle.clause_store.specs.UnitRule.{Partial, MakesTrue, MakesFalse, IsAtRest, AllAtRest}
use Rattle.clause_store.specs.Formula.{Formula, IsKnown}
use Rattle.clause_store.proofs.Growth.{growth_then, older_satisfied, older_at_rest}
use Rattle.clause_store.proofs.Members.{All-from_contains, All-right, Contains-head, Contains-tail, Contains-nil, Contains-cons_cases, Any-from_contains}
use Rattle.clause_store.proofs.Rest.{forced}
use Rattle.clause_store.proofs.Rooting.{value_from_given}
use Rattle.order_clauses.specs.declared.order_lit.OrderLit.{OrderLit}
use Rattle.order_clauses.specs.declared.order_lit.OrderLit.TheVariants as order_lit
use Rattle.order_clauses.specs.Literals.{spelled}
use Rattle.order_clauses.specs.Grid.{IsKnownOrder}
use Rattle.source_clauses.specs.Conditions.{IsDecided}
use Rattle.source_clauses.proofs.Gathered.{grows_self}
use Rattle.outcome_clauses.specs.Contract.{HasValue}
use Rattle.outcome_clauses.specs.NoneOf.{NoneHolds, Refutes, IsEither, Affirms, IsNoneOf}
use Rattle.outcome_clauses.proofs.Refuting.{appended}

-- the clause, literal by literal

pub either_none : (literal : Lit) → IsEither literal [] (literal ∷ [])
either_none literal =
    record {
      own = Contains-head literal [];
      each = λ l listed. absurd (Contains-nil (order_lit.Is l) listed);
      only = λ l listed. go l (Contains-cons_cases literal [] l listed);
    }
  where
    go : (l : Lit) → (literal ≡ l) ⊎ Contains [] l → (l ≡ literal) ⊎ Contains [] (order_lit.Is l)
    go l (inl e) = inl (sym e)
    go l (inr none) = absurd (Contains-nil l none)

-- a literal of the conditions so far is one of those with one more
later : (conditions : List OrderLit) (condition : OrderLit) (literal l : Lit) → (l ≡ literal) ⊎ Contains conditions (order_lit.Is l)
    → (l ≡ literal) ⊎ Contains (conditions ++ condition ∷ []) (order_lit.Is l)
later conditions condition literal l (inl e) = inl e
later conditions condition literal l (inr listed) = inr (Contains-append_left conditions (condition ∷ []) (order_lit.Is l) listed)

abbrev variable_or : Lit → OrderLit → Lit
variable_or d order_lit.Always = d
variable_or d order_lit.Never = d
variable_or d (order_lit.Is l) = l

either_push : (literal : Lit) (conditions : List OrderLit) (l : Lit) (clause : List Lit) → IsEither literal conditions clause
    → IsEither literal (conditions ++ order_lit.Is l ∷ []) (clause ++ l ∷ [])
either_push literal conditions l clause is =
    record {
      own = Contains-append_left clause (l ∷ []) literal is.own;
      each = λ k listed. each_of k (Contains-push_cases conditions (order_lit.Is l) (order_lit.Is k) listed);
      only = λ k listed. only_of k (Contains-push_cases clause l k listed);
    }
  where
    each_of : (k : Lit) → Contains conditions (order_lit.Is k) ⊎ (order_lit.Is l ≡ order_lit.Is k) → Contains (clause ++ l ∷ []) k
    each_of k (inl listed) = Contains-append_left clause (l ∷ []) k (is.each k listed)
    each_of k (inr e) = subst (λ (m : Lit). Contains (clause ++ l ∷ []) m) (ap (λ (o : OrderLit). variable_or l o) e) (Contains-push clause l)

    only_of : (k : Lit) → Contains clause k ⊎ (l ≡ k) → (k ≡ literal) ⊎ Contains (conditions ++ order_lit.Is l ∷ []) (order_lit.Is k)
    only_of k (inl listed) = later conditions (order_lit.Is l) literal k (is.only k listed)
    only_of k (inr e) =
        inr (subst (λ (m : Lit). Contains (conditions ++ order_lit.Is l ∷ []) (order_lit.Is m)) e (Contains-push conditions (order_lit.Is l)))

-- a condition that is no literal
either_same : (literal : Lit) (conditions : List OrderLit) (condition : OrderLit) (clause : List Lit) → ((l : Lit) → condition ≡ order_lit.Is l → ⊥)
    → IsEither literal conditions clause → IsEither literal (conditions ++ condition ∷ []) clause
either_same literal conditions condition clause none is =
    record {
      own = is.own;
      each = λ k listed. each_of k (Contains-push_cases conditions condition (order_lit.Is k) listed);
      only = λ k listed. later conditions condition literal k (is.only k listed);
    }
  where
    each_of : (k : Lit) → Contains conditions (order_lit.Is k) ⊎ (condition ≡ order_lit.Is k) → Contains clause k
    each_of k (inl listed) = is.each k listed
    each_of k (inr e) = absurd (none k e)

pub either_more : (literal : Lit) (conditions : List OrderLit) (i : ℕ) (d : OrderLit) (l : Lit) (clause new : List Lit) → i < length conditions
    → get_or conditions i d ≡ order_lit.Is l → new ≡ clause ++ l ∷ [] → IsEither literal (take i conditions) clause
    → IsEither literal (take (i + 1) conditions) new
either_more literal conditions i d l clause new within is added so_far =
    subst (λ (cs : List OrderLit). IsEither literal cs new) (sym (take_more conditions i d within))
    (subst (λ (c : OrderLit). IsEither literal (take i conditions ++ c ∷ []) new) (sym is)
    (subst (λ (k : List Lit). IsEither literal (take i conditions ++ order_lit.Is l ∷ []) k) (sym added)
    (either_push literal (take i conditions) l clause so_far)))

pub either_other : (literal : Lit) (conditions : List OrderLit) (i : ℕ) (d : OrderLit) (clause : List Lit) → i < length conditions
    → ((l : Lit) → get_or conditions i d ≡ order_lit.Is l → ⊥) → IsEither literal (take i conditions) clause
    → IsEither literal (take (i + 1) conditions) clause
either_other literal conditions i d clause within none so_far =
    subst (λ (cs : List OrderLit). IsEither literal cs clause) (sym (take_more conditions i d within))
    (either_same literal (take i conditions) (get_or conditions i d) clause none so_far)

-- its literals are known where the conditions are
pub either_known : (vars : ℕ) (literal : Lit) (conditions : List OrderLit) (clause items : List Lit) → literal.var < vars
    → All (IsKnownOrder vars) conditions → IsEither literal conditions clause → items ≡ clause → IsKnown vars items
either_known vars literal conditions clause items literal_known known is equal =
    subst (λ (ls : List Lit). IsKnown vars ls) (sym equal)
    (All-from_contains (λ l. l.var < vars) clause (λ l listed. go l (is.only l listed)))
  where
    go : (l : Lit) → (l ≡ literal) ⊎ Contains conditions (order_lit.Is l) → l.var < vars
    go l (inl e) = subst (λ (k : Lit). k.var < vars) (sym e) literal_known
    go l (inr listed) = (All-contains (IsKnownOrder vars) conditions (order_lit.Is l) known listed) l refl

-- some condition holds, or none

record Holds (w : Assignment) (conditions : List OrderLit) : Type 0 where
  condition : OrderLit
  listed : Contains conditions condition
  holds : spelled w condition ≡ true

some_or_none : (w : Assignment) (conditions : List OrderLit) → Holds w conditions ⊎ NoneHolds w conditions
some_or_none w [] = inr (All-nil (λ c. spelled w c ≡ false))
some_or_none w (condition ∷ conditions) = go (spelled w condition) refl (some_or_none w conditions)
  where
    go : (b : Bool) → spelled w condition ≡ b → Holds w conditions ⊎ NoneHolds w conditions
        → Holds w (condition ∷ conditions) ⊎ NoneHolds w (condition ∷ conditions)
    go true e rest = inl (record { condition = condition; listed = Contains-head condition conditions; holds = e })
    go false e (inl some) =
        inl (record { condition = some.condition; listed = Contains-tail condition conditions some.condition some.listed; holds = some.holds })
    go false e (inr none) = inr (All-cons (λ c. spelled w c ≡ false) condition conditions e none)

-- the clause of a formula

either_holds : (w : Assignment) (literal : Lit) (conditions : List OrderLit) (clause : List Lit) → IsEither literal conditions clause
    → IsTrueUnder w clause → NoneHolds w conditions → literal_value w literal ≡ true
either_holds w literal conditions clause is some none = go (is.only some.1 (some.0, some.2, some.3))
  where
    go : (some.1 ≡ literal) ⊎ Contains conditions (order_lit.Is some.1) → literal_value w literal ≡ true
    go (inl e) = subst (λ (l : Lit). literal_value w l ≡ true) e some.4
    go (inr listed) =
        absurd (false≢true (sym (All-contains (λ c. spelled w c ≡ false) conditions (order_lit.Is some.1) none listed) ∙ some.4))

either_true : (w : Assignment) (literal : Lit) (conditions : List OrderLit) (clause : List Lit) → IsEither literal conditions clause
    → (Contains conditions order_lit.Always → ⊥) → (NoneHolds w conditions → literal_value w literal ≡ true) → IsTrueUnder w clause
either_true w literal conditions clause is unsure holds = go (some_or_none w conditions)
  where
    by : (condition : OrderLit) → Contains conditions condition → spelled w condition ≡ true → IsTrueUnder w clause
    by order_lit.Always listed e = absurd (unsure listed)
    by order_lit.Never listed e = absurd (false≢true e)
    by (order_lit.Is l) listed e = Any-from_contains (λ k. literal_value w k ≡ true) clause l (is.each l listed) e

    go : Holds w conditions ⊎ NoneHolds w conditions → IsTrueUnder w clause
    go (inl some) = by some.condition some.listed some.holds
    go (inr none) = Any-from_contains (λ k. literal_value w k ≡ true) clause literal is.own (holds none)

either_gives : (v : Partial) (literal : Lit) (conditions : List OrderLit) (clause : List Lit) → IsEither literal conditions clause → IsAtRest v clause
    → All (λ condition. IsDecided v condition false) conditions → MakesTrue v literal
either_gives v literal conditions clause is rest all = forced v clause literal rest (λ k listed. go k (is.only k listed))
  where
    go : (k : Lit) → (k ≡ literal) ⊎ Contains conditions (order_lit.Is k) → (k ≡ literal) ⊎ MakesFalse v k
    go k (inl e) = inl e
    go k (inr listed) = inr (All-contains (λ condition. IsDecided v condition false) conditions (order_lit.Is k) all listed)

affirms_appended : (f : Formula) (literal : Lit) (conditions : List OrderLit) (clause : List Lit) → IsEither literal conditions clause
    → (Contains conditions order_lit.Always → ⊥) → Affirms f (record f { clauses = f.clauses ++ clause ∷ [] }) literal conditions
affirms_appended f literal conditions clause is unsure =
    record {
      grows = appended f (clause ∷ []);
      vars = refl;
      sound =
          λ w sat none.
          either_holds w literal conditions clause is
          (All-contains (IsTrueUnder w) (clause ∷ []) clause (All-right (IsTrueUnder w) f.clauses (clause ∷ []) sat) (Contains-head clause [])) none;
      complete =
          λ w sat holds.
          All-append (IsTrueUnder w) f.clauses (clause ∷ []) sat
          (All-cons (IsTrueUnder w) clause [] (either_true w literal conditions clause is unsure holds) (All-nil (IsTrueUnder w)));
      gives =
          λ v rest all.
          either_gives v literal conditions clause is
          (All-contains (IsAtRest v) (clause ∷ []) clause (All-right (IsAtRest v) f.clauses (clause ∷ []) rest) (Contains-head clause [])) all;
    }

pub affirms_by : (old new : Formula) (literal : Lit) (conditions : List OrderLit) (clause : List Lit) → IsEither literal conditions clause
    → (Contains conditions order_lit.Always → ⊥) → new ≡ record old { clauses = old.clauses ++ clause ∷ [] } → Affirms old new literal conditions
affirms_by old new literal conditions clause is unsure added =
    subst (λ (f : Formula). Affirms old f literal conditions) (sym added) (affirms_appended old literal conditions clause is unsure)

-- no clause is needed where a condition always holds
pub affirms_surely : (f : Formula) (literal : Lit) (conditions : List OrderLit) → Contains conditions order_lit.Always → Affirms f f literal conditions
affirms_surely f literal conditions sure =
    record {
      grows = grows_self f;
      vars = refl;
      sound = λ w sat none. absurd (false≢true (sym (All-contains (λ c. spelled w c ≡ false) conditions order_lit.Always none sure)));
      complete = λ w sat holds. sat;
      gives = λ v rest all. absurd (false≢true (All-contains (λ c. IsDecided v c false) conditions order_lit.Always all sure));
    }

-- both kinds of clauses

record IsTrueNow (v : Partial) (conditions : List OrderLit) : Type 0 where
  condition : OrderLit
  listed : Contains conditions condition
  decided : IsDecided v condition true

true_or_false : (v : Partial) (conditions : List OrderLit) → ((c : OrderLit) → Contains conditions c → HasValue v c)
    → IsTrueNow v conditions ⊎ All (λ c. IsDecided v c false) conditions
true_or_false v [] each = inr (All-nil (λ c. IsDecided v c false))
true_or_false v (condition ∷ conditions) each =
    go (each condition (Contains-head condition conditions)).0 (each condition (Contains-head condition conditions)).1
    (true_or_false v conditions (λ c listed. each c (Contains-tail condition conditions c listed)))
  where
    go : (b : Bool) → IsDecided v condition b → IsTrueNow v conditions ⊎ All (λ c. IsDecided v c false) conditions
        → IsTrueNow v (condition ∷ conditions) ⊎ All (λ c. IsDecided v c false) (condition ∷ conditions)
    go true e rest = inl (record { condition = condition; listed = Contains-head condition conditions; decided = e })
    go false e (inl some) =
        inl (record { condition = some.condition; listed = Contains-tail condition conditions some.condition some.listed; decided = some.decided })
    go false e (inr all) = inr (All-cons (λ c. IsDecided v c false) condition conditions e all)

pub none_of : (old between new : Formula) (literal : Lit) (conditions : List OrderLit) → Refutes old between literal conditions
    → Affirms between new literal conditions → IsNoneOf old new literal conditions
none_of old between new literal conditions first second =
    record {
      grows = growth_then old between new first.grows second.grows;
      vars = second.vars ∙ first.vars;
      sound = λ w sat. (first.sound w (older_satisfied between new w second.grows sat), second.sound w sat);
      complete = λ w sat same. second.complete w (first.complete w sat same.0) same.1;
      settles =
          λ v rest all.
          settled v rest (true_or_false v conditions (λ c listed. All-contains (HasValue v) conditions c all listed));
    }
  where
    settled : (v : Partial) → AllAtRest v new.clauses → IsTrueNow v conditions ⊎ All (λ c. IsDecided v c false) conditions → IsSome (v literal.var)
    settled v rest (inl some) =
        value_from_given v literal false (first.gives v (older_at_rest between new v second.grows rest) some.condition some.listed some.decided)
    settled v rest (inr all) = value_from_given v literal true (second.gives v rest all)
