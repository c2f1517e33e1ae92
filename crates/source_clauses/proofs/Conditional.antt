-- Conditions and implications, where all is decided and where the unit rule has nothing to do.
use Rattle.std.proofs.Common.{◌≡◌, ◌⊎◌, Bool, true, false, not, List, [], ◌∷◌, refl, sym, ◌∙◌, ap, subst, inl, inr}
use Rattle.std.specs.Prelude.{Contains}
use Rattle.std.proofs.lemmas.Bool.{false≢true}
use Rattle.std.proofs.lemmas.List.Elements.{All-nil, All-cons, All-contains}
use Rattle.clause_store.specs.declared.lit.Lit.{Lit}
use Rattle.clause_store.specs.Literals.{Assignment, opposite, literal_value, IsTrueUnder, Satisfies}
use Rattle.clause_store.specs.UnitRule.{Partial, MakesTrue, MakesFalse, IsAtRest, AllAtRest}
use Rattle.clause_store.proofs.Members.{Contains-nil, Contains-head, Contains-tail, Contains-cons_cases, Any-from_contains}
use Rattle.clause_store.proofs.Rest.{decided, rest-decided, true_decided, given-decided, given-opposite, one_value, not-not, literal_value-opposite, rest-not_false, forced, last_of_two, last_of_three}
use Rattle.order_clauses.specs.declared.order_lit.OrderLit.{OrderLit}
use Rattle.order_clauses.specs.declared.order_lit.OrderLit.TheVariants as order_lit
use Rattle.order_clauses.specs.Literals.{spelled}
use Rattle.source_clauses.specs.Conditions.{IsDecided}
use Rattle.source_clauses.specs.Clauses.{implied}

-- conditions where all is decided

pub spelled_decided : (w : Assignment) (o : OrderLit) → IsDecided (decided w) o (spelled w o)
spelled_decided w order_lit.Always = refl
spelled_decided w order_lit.Never = refl
spelled_decided w (order_lit.Is l) = given-decided w l

pub one_decision : (v : Partial) (o : OrderLit) (p q : Bool) → IsDecided v o p → IsDecided v o q → p ≡ q
one_decision v order_lit.Always p q g h = g ∙ sym h
one_decision v order_lit.Never p q g h = g ∙ sym h
one_decision v (order_lit.Is l) p q g h = one_value v l p q g h

decided_as : (w : Assignment) (o : OrderLit) (b : Bool) → spelled w o ≡ b → IsDecided (decided w) o b
decided_as w o b e = subst (λ (p : Bool). IsDecided (decided w) o p) e (spelled_decided w o)

spelled_as : (w : Assignment) (o : OrderLit) (b : Bool) → IsDecided (decided w) o b → spelled w o ≡ b
spelled_as w o b h = one_decision (decided w) o (spelled w o) b (spelled_decided w o) h

false_of_opposite : (v : Partial) (l : Lit) → MakesTrue v (opposite l) → MakesFalse v l
false_of_opposite v l t = t

opposite_false : (v : Partial) (l : Lit) → MakesTrue v l → MakesFalse v (opposite l)
opposite_false v l t = given-opposite v l true t

-- the first literal of a clause at rest whose others are false

only_one : (v : Partial) (a : Lit) → IsAtRest v (a ∷ []) → MakesTrue v a
only_one v a rest = forced v (a ∷ []) a rest (λ k listed. go k (Contains-cons_cases a [] k listed))
  where
    go : (k : Lit) → (a ≡ k) ⊎ Contains [] k → (k ≡ a) ⊎ MakesFalse v k
    go k (inl e) = inl (sym e)
    go k (inr none) = absurd (Contains-nil k none)

first_of_two : (v : Partial) (a b : Lit) → IsAtRest v (a ∷ b ∷ []) → MakesFalse v b → MakesTrue v a
first_of_two v a b rest f = forced v (a ∷ b ∷ []) a rest (λ k listed. go k (Contains-cons_cases a (b ∷ []) k listed))
  where
    last : (k : Lit) → (b ≡ k) ⊎ Contains [] k → (k ≡ a) ⊎ MakesFalse v k
    last k (inl e) = inr (subst (λ (l : Lit). MakesFalse v l) e f)
    last k (inr none) = absurd (Contains-nil k none)

    go : (k : Lit) → (a ≡ k) ⊎ Contains (b ∷ []) k → (k ≡ a) ⊎ MakesFalse v k
    go k (inl e) = inl (sym e)
    go k (inr listed) = last k (Contains-cons_cases b [] k listed)

first_of_three : (v : Partial) (a b c : Lit) → IsAtRest v (a ∷ b ∷ c ∷ []) → MakesFalse v b → MakesFalse v c → MakesTrue v a
first_of_three v a b c rest fb fc = forced v (a ∷ b ∷ c ∷ []) a rest (λ k listed. go k (Contains-cons_cases a (b ∷ c ∷ []) k listed))
  where
    last : (k : Lit) → (c ≡ k) ⊎ Contains [] k → (k ≡ a) ⊎ MakesFalse v k
    last k (inl e) = inr (subst (λ (l : Lit). MakesFalse v l) e fc)
    last k (inr none) = absurd (Contains-nil k none)

    second : (k : Lit) → (b ≡ k) ⊎ Contains (c ∷ []) k → (k ≡ a) ⊎ MakesFalse v k
    second k (inl e) = inr (subst (λ (l : Lit). MakesFalse v l) e fb)
    second k (inr listed) = last k (Contains-cons_cases c [] k listed)

    go : (k : Lit) → (a ≡ k) ⊎ Contains (b ∷ c ∷ []) k → (k ≡ a) ⊎ MakesFalse v k
    go k (inl e) = inl (sym e)
    go k (inr listed) = second k (Contains-cons_cases b (c ∷ []) k listed)

-- implications that are among some clauses

abbrev pub HasImplied : List (List Lit) → Lit → OrderLit → OrderLit → Type 0
HasImplied clauses c g f = (k : List Lit) → Contains (implied c g f) k → Contains clauses k

at_rest : (v : Partial) (clauses : List (List Lit)) → AllAtRest v clauses → (k : List Lit) → ((m : List Lit) → Contains (k ∷ []) m → Contains clauses m) → IsAtRest v k
at_rest v clauses rest k has = All-contains (IsAtRest v) clauses k rest (has k (Contains-head k []))

pub implied_given : (v : Partial) (clauses : List (List Lit)) → AllAtRest v clauses → (c : Lit) (g f : OrderLit) → HasImplied clauses c g f
    → MakesTrue v c → IsDecided v g true → IsDecided v f true
implied_given v clauses rest c order_lit.Never f has tc g = absurd (false≢true (sym g))
implied_given v clauses rest c order_lit.Always order_lit.Always has tc g = refl
implied_given v clauses rest c order_lit.Always order_lit.Never has tc g =
    absurd
    (rest-not_false v (opposite c ∷ []) (at_rest v clauses rest (opposite c ∷ []) has)
    (All-cons (MakesFalse v) (opposite c) [] (opposite_false v c tc) (All-nil (MakesFalse v))))
implied_given v clauses rest c order_lit.Always (order_lit.Is l) has tc g =
    last_of_two v (opposite c) l (at_rest v clauses rest (opposite c ∷ l ∷ []) has) (opposite_false v c tc)
implied_given v clauses rest c (order_lit.Is x) order_lit.Always has tc g = refl
implied_given v clauses rest c (order_lit.Is x) order_lit.Never has tc g =
    absurd
    (rest-not_false v (opposite c ∷ opposite x ∷ []) (at_rest v clauses rest (opposite c ∷ opposite x ∷ []) has)
    (All-cons (MakesFalse v) (opposite c) (opposite x ∷ []) (opposite_false v c tc)
    (All-cons (MakesFalse v) (opposite x) [] (opposite_false v x g) (All-nil (MakesFalse v)))))
implied_given v clauses rest c (order_lit.Is x) (order_lit.Is l) has tc g =
    last_of_three v (opposite c) (opposite x) l (at_rest v clauses rest (opposite c ∷ opposite x ∷ l ∷ []) has) (opposite_false v c tc) (opposite_false v x g)

pub implied_not : (v : Partial) (clauses : List (List Lit)) → AllAtRest v clauses → (c : Lit) (g f : OrderLit) → HasImplied clauses c g f
    → IsDecided v g true → IsDecided v f false → MakesFalse v c
implied_not v clauses rest c order_lit.Never f has g h = absurd (false≢true (sym g))
implied_not v clauses rest c order_lit.Always order_lit.Always has g h = absurd (false≢true h)
implied_not v clauses rest c order_lit.Always order_lit.Never has g h =
    false_of_opposite v c (only_one v (opposite c) (at_rest v clauses rest (opposite c ∷ []) has))
implied_not v clauses rest c order_lit.Always (order_lit.Is l) has g h =
    false_of_opposite v c (first_of_two v (opposite c) l (at_rest v clauses rest (opposite c ∷ l ∷ []) has) h)
implied_not v clauses rest c (order_lit.Is x) order_lit.Always has g h = absurd (false≢true h)
implied_not v clauses rest c (order_lit.Is x) order_lit.Never has g h =
    false_of_opposite v c
    (first_of_two v (opposite c) (opposite x) (at_rest v clauses rest (opposite c ∷ opposite x ∷ []) has) (opposite_false v x g))
implied_not v clauses rest c (order_lit.Is x) (order_lit.Is l) has g h =
    false_of_opposite v c
    (first_of_three v (opposite c) (opposite x) l (at_rest v clauses rest (opposite c ∷ opposite x ∷ l ∷ []) has) (opposite_false v x g) h)

pub implied_true : (w : Assignment) (clauses : List (List Lit)) → Satisfies w clauses → (c : Lit) (g f : OrderLit) → HasImplied clauses c g f
    → literal_value w c ≡ true → spelled w g ≡ true → spelled w f ≡ true
implied_true w clauses sat c g f has tc tg =
    spelled_as w f true
    (implied_given (decided w) clauses (rest-decided w clauses sat) c g f has (true_decided w c tc) (decided_as w g true tg))

-- implications that hold are true

holds_one : (w : Assignment) (a : Lit) → literal_value w a ≡ true → (k : List Lit) → Contains ((a ∷ []) ∷ []) k → IsTrueUnder w k
holds_one w a e k listed = go (Contains-cons_cases (a ∷ []) [] k listed)
  where
    go : ((a ∷ []) ≡ k) ⊎ Contains [] k → IsTrueUnder w k
    go (inl same) = subst (λ (m : List Lit). IsTrueUnder w m) same (Any-from_contains (λ l. literal_value w l ≡ true) (a ∷ []) a (Contains-head a []) e)
    go (inr none) = absurd (Contains-nil k none)

pub two_true : (w : Assignment) (a b : Lit) → (literal_value w a ≡ false → literal_value w b ≡ true) → IsTrueUnder w (a ∷ b ∷ [])
two_true w a b holds = go (literal_value w a) refl
  where
    go : (p : Bool) → literal_value w a ≡ p → IsTrueUnder w (a ∷ b ∷ [])
    go true e = Any-from_contains (λ l. literal_value w l ≡ true) (a ∷ b ∷ []) a (Contains-head a (b ∷ [])) e
    go false e =
        Any-from_contains (λ l. literal_value w l ≡ true) (a ∷ b ∷ []) b (Contains-tail a (b ∷ []) b (Contains-head b [])) (holds e)

three_true : (w : Assignment) (a b c : Lit) → (literal_value w a ≡ false → literal_value w b ≡ false → literal_value w c ≡ true) → IsTrueUnder w (a ∷ b ∷ c ∷ [])
three_true w a b c holds = go (literal_value w a) refl (literal_value w b) refl
  where
    go : (p : Bool) → literal_value w a ≡ p → (q : Bool) → literal_value w b ≡ q → IsTrueUnder w (a ∷ b ∷ c ∷ [])
    go true e q f = Any-from_contains (λ l. literal_value w l ≡ true) (a ∷ b ∷ c ∷ []) a (Contains-head a (b ∷ c ∷ [])) e
    go false e true f =
        Any-from_contains (λ l. literal_value w l ≡ true) (a ∷ b ∷ c ∷ []) b (Contains-tail a (b ∷ c ∷ []) b (Contains-head b (c ∷ []))) f
    go false e false f =
        Any-from_contains (λ l. literal_value w l ≡ true) (a ∷ b ∷ c ∷ []) c
        (Contains-tail a (b ∷ c ∷ []) c (Contains-tail b (c ∷ []) c (Contains-head c []))) (holds e f)

pub sole : (w : Assignment) (m : List Lit) → IsTrueUnder w m → (k : List Lit) → Contains (m ∷ []) k → IsTrueUnder w k
sole w m holds k listed = go (Contains-cons_cases m [] k listed)
  where
    go : (m ≡ k) ⊎ Contains [] k → IsTrueUnder w k
    go (inl same) = subst (λ (n : List Lit). IsTrueUnder w n) same holds
    go (inr none) = absurd (Contains-nil k none)

pub true_of_opposite : (w : Assignment) (l : Lit) → literal_value w (opposite l) ≡ false → literal_value w l ≡ true
true_of_opposite w l e = sym (not-not (literal_value w l)) ∙ ap (λ (b : Bool). not b) (sym (literal_value-opposite w l) ∙ e)

not_true : (b : Bool) → (b ≡ true → ⊥) → not b ≡ true
not_true true f = absurd (f refl)
not_true false f = refl

pub implied_holds : (w : Assignment) (c : Lit) (g f : OrderLit) → (literal_value w c ≡ true → spelled w g ≡ true → spelled w f ≡ true)
    → (k : List Lit) → Contains (implied c g f) k → IsTrueUnder w k
implied_holds w c order_lit.Never f holds k listed = absurd (Contains-nil k listed)
implied_holds w c order_lit.Always order_lit.Always holds k listed = absurd (Contains-nil k listed)
implied_holds w c order_lit.Always order_lit.Never holds k listed =
    holds_one w (opposite c) (literal_value-opposite w c ∙ not_true (literal_value w c) (λ e. false≢true (holds e refl))) k listed
implied_holds w c order_lit.Always (order_lit.Is l) holds k listed =
    sole w (opposite c ∷ l ∷ []) (two_true w (opposite c) l (λ e. holds (true_of_opposite w c e) refl)) k listed
implied_holds w c (order_lit.Is x) order_lit.Always holds k listed = absurd (Contains-nil k listed)
implied_holds w c (order_lit.Is x) order_lit.Never holds k listed =
    sole w (opposite c ∷ opposite x ∷ [])
    (two_true w (opposite c) (opposite x)
    (λ e. literal_value-opposite w x ∙ not_true (literal_value w x) (λ t. false≢true (holds (true_of_opposite w c e) t)))) k listed
implied_holds w c (order_lit.Is x) (order_lit.Is l) holds k listed =
    sole w (opposite c ∷ opposite x ∷ l ∷ [])
    (three_true w (opposite c) (opposite x) l (λ e f. holds (true_of_opposite w c e) (true_of_opposite w x f))) k listed
