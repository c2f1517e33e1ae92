-- What is known of partial assignments at which the rule has nothing to do.
use Rattle.std.proofs.Common.{◌≡◌, ℕ, zero, suc, ◌<◌, ◌≤◌, ◌⊎◌, Bool, true, false, not, cond, Option, Some, None, List, [], ◌∷◌, ◌++◌, take, length, get_or, refl, sym, ◌∙◌, ap, subst, inl, inr, arith, add-one}
use Rattle.std.specs.Prelude.{All, Contains}
use Rattle.std.proofs.lemmas.Bool.{false≢true}
use Rattle.std.proofs.lemmas.Option.{none-some, same_Some, slice_get-get_or}
use Rattle.std.proofs.lemmas.List.{take_all}
use Rattle.std.proofs.lemmas.List.Elements.{All-nil, All-cons, All-append, All-more, All-contains}
use Rattle.clause_store.specs.declared.lit.Lit.{Lit}
use Rattle.clause_store.specs.Literals.{opposite, literal_value, Assignment, IsTrueUnder, Satisfies}
use Rattle.clause_store.specs.UnitRule.{Partial, MakesTrue, MakesFalse, LeavesOpen, IsGiven, IsAtRest, AllAtRest, Derived}
use Rattle.clause_store.specs.Laws.{FollowsIsTrue, DerivedIsTrue, SameLiterals, MoreClausesKeep, OppositesFollow}
use Rattle.clause_store.proofs.Members.{Contains-nil, Contains-cons_cases, All-from_contains, Any-from_contains}

not_self : (b : Bool) → b ≡ not b → ⊥
not_self true e = false≢true (sym e)
not_self false e = false≢true e

-- no literal is both true and false, nor either and open
pub true_not_false : (v : Partial) (l : Lit) → MakesTrue v l → MakesFalse v l → ⊥
true_not_false v l t f = not_self l.positive (same_Some l.positive (not l.positive) (sym t ∙ f))

pub open_not_true : (v : Partial) (l : Lit) → LeavesOpen v l → MakesTrue v l → ⊥
open_not_true v l o t = none-some l.positive (sym o ∙ t)

pub open_not_false : (v : Partial) (l : Lit) → LeavesOpen v l → MakesFalse v l → ⊥
open_not_false v l o f = none-some (not l.positive) (sym o ∙ f)

-- A literal is true, false or open.
pub lit_cases : (v : Partial) (l : Lit) → MakesTrue v l ⊎ MakesFalse v l ⊎ LeavesOpen v l
lit_cases v l = go (v l.var) refl
  where
    given : (b p : Bool) → v l.var ≡ Some b → p ≡ l.positive → MakesTrue v l ⊎ MakesFalse v l ⊎ LeavesOpen v l
    given true true e h = inl (e ∙ ap (λ (x : Bool). Some x) h)
    given false false e h = inl (e ∙ ap (λ (x : Bool). Some x) h)
    given true false e h = inr (inl (e ∙ ap (λ (x : Bool). Some (not x)) h))
    given false true e h = inr (inl (e ∙ ap (λ (x : Bool). Some (not x)) h))

    go : (o : Option Bool) → v l.var ≡ o → MakesTrue v l ⊎ MakesFalse v l ⊎ LeavesOpen v l
    go None e = inr (inr e)
    go (Some b) e = given b l.positive e refl

-- A clause at rest isn't false.
pub rest-not_false : (v : Partial) (clause : List Lit) → IsAtRest v clause → All (MakesFalse v) clause → ⊥
rest-not_false v clause (inl some) all_false = true_not_false v some.1 some.4 (All-contains (MakesFalse v) clause some.1 all_false (some.0, some.2, some.3))
rest-not_false v clause (inr two) all_false = open_not_false v two.one two.one_open (All-contains (MakesFalse v) clause two.one all_false two.one_listed)

-- Of a clause at rest whose other literals are false, this one is true.
pub forced : (v : Partial) (clause : List Lit) (l : Lit) → IsAtRest v clause → ((k : Lit) → Contains clause k → (k ≡ l) ⊎ MakesFalse v k) → MakesTrue v l
forced v clause l (inl some) others = go (others some.1 (some.0, some.2, some.3))
  where
    go : (some.1 ≡ l) ⊎ MakesFalse v some.1 → MakesTrue v l
    go (inl e) = subst (λ (k : Lit). MakesTrue v k) e some.4
    go (inr f) = absurd (true_not_false v some.1 some.4 f)
forced v clause l (inr two) others = go (others two.one two.one_listed) (others two.other two.other_listed)
  where
    go : (two.one ≡ l) ⊎ MakesFalse v two.one → (two.other ≡ l) ⊎ MakesFalse v two.other → MakesTrue v l
    go (inl e) (inl e') = absurd (two.differ (e ∙ sym e'))
    go (inr f) _ = absurd (open_not_false v two.one two.one_open f)
    go (inl e) (inr f) = absurd (open_not_false v two.other two.other_open f)

-- of a clause of two or three literals at rest, the last is true where the others are false
pub last_of_two : (v : Partial) (a b : Lit) → IsAtRest v (a ∷ b ∷ []) → MakesFalse v a → MakesTrue v b
last_of_two v a b rest fa = forced v (a ∷ b ∷ []) b rest (λ k listed. go k (Contains-cons_cases a (b ∷ []) k listed))
  where
    last : (k : Lit) → (b ≡ k) ⊎ Contains [] k → (k ≡ b) ⊎ MakesFalse v k
    last k (inl e) = inl (sym e)
    last k (inr none) = absurd (Contains-nil k none)

    go : (k : Lit) → (a ≡ k) ⊎ Contains (b ∷ []) k → (k ≡ b) ⊎ MakesFalse v k
    go k (inl e) = inr (subst (λ (l : Lit). MakesFalse v l) e fa)
    go k (inr listed) = last k (Contains-cons_cases b [] k listed)

pub last_of_three : (v : Partial) (a b c : Lit) → IsAtRest v (a ∷ b ∷ c ∷ []) → MakesFalse v a → MakesFalse v b → MakesTrue v c
last_of_three v a b c rest fa fb = forced v (a ∷ b ∷ c ∷ []) c rest (λ k listed. first k (Contains-cons_cases a (b ∷ c ∷ []) k listed))
  where
    last : (k : Lit) → (c ≡ k) ⊎ Contains [] k → (k ≡ c) ⊎ MakesFalse v k
    last k (inl e) = inl (sym e)
    last k (inr none) = absurd (Contains-nil k none)

    second : (k : Lit) → (b ≡ k) ⊎ Contains (c ∷ []) k → (k ≡ c) ⊎ MakesFalse v k
    second k (inl e) = inr (subst (λ (l : Lit). MakesFalse v l) e fb)
    second k (inr listed) = last k (Contains-cons_cases c [] k listed)

    first : (k : Lit) → (a ≡ k) ⊎ Contains (b ∷ c ∷ []) k → (k ≡ c) ⊎ MakesFalse v k
    first k (inl e) = inr (subst (λ (l : Lit). MakesFalse v l) e fa)
    first k (inr listed) = second k (Contains-cons_cases b (c ∷ []) k listed)

-- the values of an assignment, with nothing open
abbrev pub decided : Assignment → Partial
decided w x = Some (w x)

pub true_decided : (w : Assignment) (l : Lit) → literal_value w l ≡ true → MakesTrue (decided w) l
true_decided w l e = go l.positive (w l.var) e
  where
    go : (p b : Bool) → cond p b (not b) ≡ true → Some b ≡ Some p
    go true b h = ap (λ (x : Bool). Some x) h
    go false true h = absurd (false≢true h)
    go false false h = refl

pub false_decided : (w : Assignment) (l : Lit) → literal_value w l ≡ false → MakesFalse (decided w) l
false_decided w l e = go l.positive (w l.var) e
  where
    go : (p b : Bool) → cond p b (not b) ≡ false → Some b ≡ Some (not p)
    go true b h = ap (λ (x : Bool). Some x) h
    go false true h = refl
    go false false h = absurd (false≢true (sym h))

pub given-decided : (w : Assignment) (l : Lit) → IsGiven (decided w) l (literal_value w l)
given-decided w l = go (literal_value w l) refl
  where
    go : (b : Bool) → literal_value w l ≡ b → IsGiven (decided w) l b
    go true e = true_decided w l e
    go false e = false_decided w l e

-- a literal has one value at most
pub one_value : (v : Partial) (l : Lit) (p q : Bool) → IsGiven v l p → IsGiven v l q → p ≡ q
one_value v l true true g h = refl
one_value v l true false g h = absurd (true_not_false v l g h)
one_value v l false true g h = absurd (true_not_false v l h g)
one_value v l false false g h = refl

pub not-not : (b : Bool) → not (not b) ≡ b
not-not true = refl
not-not false = refl

pub given-opposite : (v : Partial) (l : Lit) (b : Bool) → IsGiven v l b → IsGiven v (opposite l) (not b)
given-opposite v l true g = g ∙ ap (λ (p : Bool). Some p) (sym (not-not l.positive))
given-opposite v l false g = g

pub literal_value-opposite : (w : Assignment) (l : Lit) → literal_value w (opposite l) ≡ not (literal_value w l)
literal_value-opposite w l = go l.positive (w l.var)
  where
    go : (p b : Bool) → cond (not p) b (not b) ≡ not (cond p b (not b))
    go true b = refl
    go false b = sym (not-not b)

-- Where all is decided, clauses that are true are at rest.
pub rest-decided : (w : Assignment) (clauses : List (List Lit)) → Satisfies w clauses → AllAtRest (decided w) clauses
rest-decided w clauses sat =
    All-from_contains (IsAtRest (decided w)) clauses
    (λ clause listed.
    let some : IsTrueUnder w clause = All-contains (IsTrueUnder w) clauses clause sat listed in
    inl (some.0, some.1, some.2, some.3, true_decided w some.1 some.4))

-- a line is true, or all its literals are false
line_cases : (w : Assignment) (line : List Lit) → IsTrueUnder w line ⊎ All (MakesFalse (decided w)) line
line_cases w [] = inr (All-nil (MakesFalse (decided w)))
line_cases w (l ∷ line) = go (literal_value w l) refl (line_cases w line)
  where
    go : (b : Bool) → literal_value w l ≡ b → IsTrueUnder w line ⊎ All (MakesFalse (decided w)) line → IsTrueUnder w (l ∷ line) ⊎ All (MakesFalse (decided w)) (l ∷ line)
    go true e rest = inl (zero, l, omega arith, refl, e)
    go false e (inl some) = inl (suc some.0, some.1, omega (arith, some.2), some.3, some.4)
    go false e (inr all) = inr (All-cons (MakesFalse (decided w)) l line (false_decided w l e) all)

pub true_under : FollowsIsTrue
true_under clauses line w follows sat = go (line_cases w line)
  where
    go : IsTrueUnder w line ⊎ All (MakesFalse (decided w)) line → IsTrueUnder w line
    go (inl holds) = holds
    go (inr all_false) = absurd (follows (decided w) all_false (rest-decided w clauses sat))

-- a literal and its opposite are not both false
opposites_not_false : (v : Partial) (l : Lit) → MakesFalse v l → MakesFalse v (opposite l) → ⊥
opposites_not_false v l f g = not_self (not l.positive) (same_Some (not l.positive) (not (not l.positive)) (sym f ∙ g))

pub opposites : OppositesFollow
opposites clauses line l listed opposite_listed v all_false rest =
    opposites_not_false v l (All-contains (MakesFalse v) line l all_false listed) (All-contains (MakesFalse v) line (opposite l) all_false opposite_listed)

-- Lines that follow one after the other are all true: by the number of lines before.
derived_before : (clauses lines : List (List Lit)) (w : Assignment) → Derived clauses lines → Satisfies w clauses → (n : ℕ) → n ≤ length lines → Satisfies w (take n lines)
derived_before clauses lines w derived sat zero bound = All-nil (IsTrueUnder w)
derived_before clauses lines w derived sat (suc n) bound =
    let within : n < length lines = omega (arith, bound) in
    let line : List Lit = get_or lines n [] in
    let before : Satisfies w (take n lines) = derived_before clauses lines w derived sat n (omega (arith, bound)) in
    let here : IsTrueUnder w line =
    true_under (clauses ++ take n lines) line w (derived n line (slice_get-get_or lines n [] within))
    (All-append (IsTrueUnder w) clauses (take n lines) sat before)
    in
    subst (λ (m : ℕ). Satisfies w (take m lines)) (add-one n) (All-more (IsTrueUnder w) lines n [] within before here)

pub derived_true : DerivedIsTrue
derived_true clauses lines w derived sat =
    subst (λ (some : List (List Lit)). Satisfies w some) (take_all (length lines) lines (omega arith)) (derived_before clauses lines w derived sat (length lines) (omega arith))

rest_among : (v : Partial) (c d : List Lit) → SameLiterals c d → IsAtRest v d → IsAtRest v c
rest_among v c d same (inl some) = inl (Any-from_contains (MakesTrue v) c some.1 ((same some.1).1 (some.0, some.2, some.3)) some.4)
rest_among v c d same (inr two) =
    inr
    record {
      one = two.one;
      other = two.other;
      one_listed = (same two.one).1 two.one_listed;
      other_listed = (same two.other).1 two.other_listed;
      differ = two.differ;
      one_open = two.one_open;
      other_open = two.other_open;
    }

pub kept : MoreClausesKeep
kept clauses others line same among same_line follows v all_false rest =
    follows v
    (All-from_contains (MakesFalse v) line (λ l listed. All-contains (MakesFalse v) same l all_false ((same_line l).0 listed)))
    (All-from_contains (IsAtRest v) clauses
    (λ c listed.
    let other = among c listed in
    rest_among v c other.0 other.2 (All-contains (IsAtRest v) others other.0 rest other.1)))
