-- The unit rule run step by step: what its steps reach is kept at each rest, and they end at a rest or at a false clause.
use Rattle.std.proofs.Common.{◌≡◌, ◌≢◌, ℕ, zero, suc, ◌+◌, ◌<◌, ◌≤◌, ◌⊎◌, Bool, true, false, not, eqb, Option, Some, None, List, [], ◌∷◌, refl, sym, ◌∙◌, ap, subst, inl, inr, arith}
use Rattle.std.specs.Prelude.{All, Contains}
use Rattle.std.proofs.lemmas.Bool.{cases_eq, eq-eqb, ne_eqb, cond-true, cond-false, false≢true}
use Rattle.std.proofs.lemmas.Option.{none-some}
use Rattle.std.proofs.lemmas.List.Elements.{All-nil, All-cons, All-head, All-tail, All-contains}
use Rattle.clause_store.specs.declared.lit.Lit.{Lit}
use Rattle.clause_store.specs.Literals.{opposite}
use Rattle.clause_store.specs.UnitRule.{Partial, MakesTrue, MakesFalse, LeavesOpen, IsAtRest, AllAtRest, Follows}
use Rattle.clause_store.specs.Steps.{with_true, all_false, IsLastOpen, Reached, ReachesFalse, ReachesTrue, HasOpposites}
use Rattle.clause_store.specs.Steps.Reached.{start, step}
use Rattle.clause_store.specs.Laws.{Keeps, FollowsIsBySteps, RestIsBySteps}
use Rattle.clause_store.proofs.Members.{Contains-head, Contains-tail, Contains-cons_cases, Contains-nil, All-from_contains}
use Rattle.clause_store.proofs.Rest.{lit_cases, forced, rest-not_false, opposites}

-- literals are equal or not

same_lit : (a b : Lit) → a.var ≡ b.var → a.positive ≡ b.positive → a ≡ b
same_lit a b e f =
    let make : ℕ → Bool → Lit = λ n p. record { var = n; positive = p } in
    ap (λ (n : ℕ). make n a.positive) e ∙ ap (λ (p : Bool). make b.var p) f

sign_cases : (p q : Bool) → (p ≡ q) ⊎ (p ≡ not q)
sign_cases true true = inl refl
sign_cases true false = inr refl
sign_cases false true = inr refl
sign_cases false false = inl refl

not_own : (q : Bool) → not q ≡ q → ⊥
not_own true e = false≢true e
not_own false e = false≢true (sym e)

-- two literals of one variable are equal or opposites
of_one_var : (a b : Lit) → a.var ≡ b.var → (a ≡ b) ⊎ (a ≡ opposite b)
of_one_var a b e = go (sign_cases a.positive b.positive)
  where
    go : (a.positive ≡ b.positive) ⊎ (a.positive ≡ not b.positive) → (a ≡ b) ⊎ (a ≡ opposite b)
    go (inl same) = inl (same_lit a b e same)
    go (inr other) = inr (same_lit a (opposite b) e other)

pub lit_eq_cases : (a b : Lit) → (a ≡ b) ⊎ (a ≢ b)
lit_eq_cases a b = go (cases_eq a.var b.var)
  where
    signs : (a ≡ b) ⊎ (a ≡ opposite b) → (a ≡ b) ⊎ (a ≢ b)
    signs (inl same) = inl same
    signs (inr other) = inr (λ e. not_own b.positive (ap (λ (l : Lit). l.positive) (sym other ∙ e)))

    go : (a.var ≡ b.var) ⊎ (a.var ≡ b.var → ⊥) → (a ≡ b) ⊎ (a ≢ b)
    go (inl same) = signs (of_one_var a b same)
    go (inr differ) = inr (λ e. differ (ap (λ (l : Lit). l.var) e))

contains_cases : (xs : List Lit) (x : Lit) → Contains xs x ⊎ (Contains xs x → ⊥)
contains_cases [] x = inr (λ listed. Contains-nil x listed)
contains_cases (y ∷ xs) x = go (lit_eq_cases y x) (contains_cases xs x)
  where
    go : (y ≡ x) ⊎ (y ≢ x) → Contains xs x ⊎ (Contains xs x → ⊥) → Contains (y ∷ xs) x ⊎ (Contains (y ∷ xs) x → ⊥)
    go (inl e) _ = inl (subst (λ (z : Lit). Contains (y ∷ xs) z) e (Contains-head y xs))
    go (inr ne) (inl tail) = inl (Contains-tail y xs x tail)
    go (inr ne) (inr none) = inr (λ listed. elim (Contains-cons_cases y xs x listed) [ inl e ↦ ne e | inr tail ↦ none tail ])

-- what the rule finds at a clause

abbrev Found : Partial → List Lit → Type 0
Found v c = All (MakesFalse v) c ⊎ ((l : Lit) × IsLastOpen v c l) ⊎ IsAtRest v c

rest-cons : (v : Partial) (l : Lit) (c : List Lit) → IsAtRest v c → IsAtRest v (l ∷ c)
rest-cons v l c (inl some) = inl (suc some.0, some.1, omega (arith, some.2), some.3, some.4)
rest-cons v l c (inr two) =
    inr
    record {
      one = two.one;
      other = two.other;
      one_listed = Contains-tail l c two.one two.one_listed;
      other_listed = Contains-tail l c two.other two.other_listed;
      differ = two.differ;
      one_open = two.one_open;
      other_open = two.other_open;
    }

only_head_open : (v : Partial) (l : Lit) (c : List Lit) → LeavesOpen v l → All (MakesFalse v) c → IsLastOpen v (l ∷ c) l
only_head_open v l c o all =
    record {
      listed = Contains-head l c;
      is_open = o;
      others_false = λ k listed differ. elim (Contains-cons_cases l c k listed) [ inl e ↦ absurd (differ (sym e)) | inr tail ↦ All-contains (MakesFalse v) c k all tail ];
    }

-- one more literal at the front, which is false or the last open one again
last_open-cons : (v : Partial) (l : Lit) (c : List Lit) (last : Lit) → IsLastOpen v c last → (l ≡ last) ⊎ MakesFalse v l → IsLastOpen v (l ∷ c) last
last_open-cons v l c last is head =
    record {
      listed = Contains-tail l c last is.listed;
      is_open = is.is_open;
      others_false = λ k listed differ. go k differ head (Contains-cons_cases l c k listed);
    }
  where
    go : (k : Lit) → k ≢ last → (l ≡ last) ⊎ MakesFalse v l → (l ≡ k) ⊎ Contains c k → MakesFalse v k
    go k differ (inl same) (inl e) = absurd (differ (sym e ∙ same))
    go k differ (inr f) (inl e) = subst (λ (x : Lit). MakesFalse v x) e f
    go k differ head' (inr tail) = is.others_false k tail differ

look : (v : Partial) (c : List Lit) → Found v c
look v [] = inl (All-nil (MakesFalse v))
look v (l ∷ c) = go (lit_cases v l) (look v c)
  where
    second : (last : Lit) → IsLastOpen v c last → LeavesOpen v l → (l ≡ last) ⊎ (l ≢ last) → Found v (l ∷ c)
    second last is o (inl e) = inr (inl (last, last_open-cons v l c last is (inl e)))
    second last is o (inr differ) =
        inr
        (inr
        (inr
        record {
          one = l;
          other = last;
          one_listed = Contains-head l c;
          other_listed = Contains-tail l c last is.listed;
          differ = differ;
          one_open = o;
          other_open = is.is_open;
        }))

    go : MakesTrue v l ⊎ MakesFalse v l ⊎ LeavesOpen v l → Found v c → Found v (l ∷ c)
    go (inl t) _ = inr (inr (inl (zero, l, omega arith, refl, t)))
    go (inr (inl f)) (inl all) = inl (All-cons (MakesFalse v) l c f all)
    go (inr (inl f)) (inr (inl last)) = inr (inl (last.0, last_open-cons v l c last.0 last.1 (inr f)))
    go (inr (inl f)) (inr (inr rest)) = inr (inr (rest-cons v l c rest))
    go (inr (inr o)) (inl all) = inr (inl (l, only_head_open v l c o all))
    go (inr (inr o)) (inr (inl last)) = second last.0 last.1 o (lit_eq_cases l last.0)
    go (inr (inr o)) (inr (inr rest)) = inr (inr (rest-cons v l c rest))

-- all at rest, a false clause, or a step to make
abbrev Scanned : Partial → List (List Lit) → Type 0
Scanned v cs = AllAtRest v cs ⊎ ((c : List Lit) × Contains cs c × All (MakesFalse v) c) ⊎ ((c : List Lit) × (l : Lit) × Contains cs c × IsLastOpen v c l)

scan : (v : Partial) (cs : List (List Lit)) → Scanned v cs
scan v [] = inl (All-nil (IsAtRest v))
scan v (c ∷ cs) = go (look v c) (scan v cs)
  where
    go : Found v c → Scanned v cs → Scanned v (c ∷ cs)
    go (inl all) _ = inr (inl (c, Contains-head c cs, all))
    go (inr (inl last)) _ = inr (inr (c, last.0, Contains-head c cs, last.1))
    go (inr (inr rest)) (inl all) = inl (All-cons (IsAtRest v) c cs rest all)
    go (inr (inr rest)) (inr (inl f)) = inr (inl (f.0, Contains-tail c cs f.0 f.1, f.2))
    go (inr (inr rest)) (inr (inr last)) = inr (inr (last.0, last.1, Contains-tail c cs last.0 last.2, last.3))

-- one more value

with_true-same : (v : Partial) (l : Lit) (x : ℕ) → x ≡ l.var → with_true v l x ≡ Some l.positive
with_true-same v l x e = cond-true (eqb x l.var) (Some l.positive) (v x) (eq-eqb x l.var e)

with_true-other : (v : Partial) (l : Lit) (x : ℕ) → (x ≡ l.var → ⊥) → with_true v l x ≡ v x
with_true-other v l x ne = cond-false (eqb x l.var) (Some l.positive) (v x) (ne_eqb x l.var ne)

-- values stay where an open literal is made true
keeps-with_true : (v : Partial) (l : Lit) → LeavesOpen v l → Keeps v (with_true v l)
keeps-with_true v l o x b e = with_true-other v l x (λ same. none-some b (sym o ∙ ap v (sym same) ∙ e)) ∙ e

keeps_after : (v w : Partial) (l : Lit) → Keeps v w → MakesTrue w l → Keeps (with_true v l) w
keeps_after v w l keeps t x b e = go (cases_eq x l.var)
  where
    go : (x ≡ l.var) ⊎ (x ≡ l.var → ⊥) → w x ≡ Some b
    go (inl same) = ap w same ∙ t ∙ sym (with_true-same v l x same) ∙ e
    go (inr ne) = keeps x b (sym (with_true-other v l x ne) ∙ e)

keeps-reached : (clauses : List (List Lit)) (from : Partial) (v : Partial) → Reached clauses from v → Keeps from v
keeps-reached clauses from _ start x b e = e
keeps-reached clauses from _ (step v c l before listed last) x b e = keeps-with_true v l last.is_open x b (keeps-reached clauses from v before x b e)

-- What steps reach is kept at each rest that keeps the values they start from.
reached-kept : (clauses : List (List Lit)) (from : Partial) (v : Partial) → Reached clauses from v → (w : Partial) → Keeps from w → AllAtRest w clauses → Keeps v w
reached-kept clauses from _ start w keeps rest = keeps
reached-kept clauses from _ (step v c l before listed last) w keeps rest =
    let so_far : Keeps v w = reached-kept clauses from v before w keeps rest in
    keeps_after v w l so_far
    (forced w c l (All-contains (IsAtRest w) clauses c rest listed)
    (λ k k_listed. elim (lit_eq_cases k l) [ inl e ↦ inl e | inr differ ↦ inr (so_far k.var (not k.positive) (last.others_false k k_listed differ)) ]))

false-kept : (v w : Partial) (c : List Lit) → Keeps v w → All (MakesFalse v) c → All (MakesFalse w) c
false-kept v w c keeps all = All-from_contains (MakesFalse w) c (λ k listed. keeps k.var (not k.positive) (All-contains (MakesFalse v) c k all listed))

no_rest : (clauses : List (List Lit)) (from : Partial) → ReachesFalse clauses from → (w : Partial) → Keeps from w → AllAtRest w clauses → ⊥
no_rest clauses from f w keeps rest =
    rest-not_false w f.clause (All-contains (IsAtRest w) clauses f.clause rest f.listed)
    (false-kept f.values w f.clause (reached-kept clauses from f.values f.reached w keeps rest) f.is_false)

-- how many literals of the clauses are open, which falls with each step

tally : Option Bool → ℕ
tally None = 1
tally (Some b) = 0

open_in : Partial → List Lit → ℕ
open_in v [] = 0
open_in v (l ∷ c) = tally (v l.var) + open_in v c

open_all : Partial → List (List Lit) → ℕ
open_all v [] = 0
open_all v (c ∷ cs) = open_in v c + open_all v cs

abbrev FewerOpen : Partial → Partial → Type 0
FewerOpen v w = (x : ℕ) → tally (w x) ≤ tally (v x)

open_in-le : (v w : Partial) → FewerOpen v w → (c : List Lit) → open_in w c ≤ open_in v c
unfolding open_in
open_in-le v w fewer [] = omega arith
open_in-le v w fewer (l ∷ c) = omega (arith, fewer l.var, open_in-le v w fewer c)

open_in-lt : (v w : Partial) → FewerOpen v w → (c : List Lit) (l : Lit) → Contains c l → tally (w l.var) < tally (v l.var) → open_in w c < open_in v c
unfolding open_in
open_in-lt v w fewer [] l listed falls = absurd (Contains-nil l listed)
open_in-lt v w fewer (k ∷ c) l listed falls = go (Contains-cons_cases k c l listed) (λ tail. open_in-lt v w fewer c l tail falls)
  where
    go : (k ≡ l) ⊎ Contains c l → (Contains c l → open_in w c < open_in v c) → open_in w (k ∷ c) < open_in v (k ∷ c)
    go (inl e) _ = omega (arith, subst (λ (x : Lit). tally (w x.var) < tally (v x.var)) (sym e) falls, open_in-le v w fewer c)
    go (inr tail) below = omega (arith, fewer k.var, below tail)

open_all-le : (v w : Partial) → FewerOpen v w → (cs : List (List Lit)) → open_all w cs ≤ open_all v cs
unfolding open_all
open_all-le v w fewer [] = omega arith
open_all-le v w fewer (c ∷ cs) = omega (arith, open_in-le v w fewer c, open_all-le v w fewer cs)

open_all-lt : (v w : Partial) → FewerOpen v w → (cs : List (List Lit)) (c : List Lit) (l : Lit) → Contains cs c → Contains c l → tally (w l.var) < tally (v l.var) → open_all w cs < open_all v cs
unfolding open_all
open_all-lt v w fewer [] c l listed l_listed falls = absurd (Contains-nil c listed)
open_all-lt v w fewer (d ∷ cs) c l listed l_listed falls = go (Contains-cons_cases d cs c listed) (λ tail. open_all-lt v w fewer cs c l tail l_listed falls)
  where
    go : (d ≡ c) ⊎ Contains cs c → (Contains cs c → open_all w cs < open_all v cs) → open_all w (d ∷ cs) < open_all v (d ∷ cs)
    go (inl e) _ =
        omega (arith, subst (λ (x : List Lit). open_in w x < open_in v x) (sym e) (open_in-lt v w fewer c l l_listed falls), open_all-le v w fewer cs)
    go (inr tail) below = omega (arith, open_in-le v w fewer d, below tail)

fewer-with_true : (v : Partial) (l : Lit) → FewerOpen v (with_true v l)
unfolding tally
fewer-with_true v l x = go (cases_eq x l.var)
  where
    go : (x ≡ l.var) ⊎ (x ≡ l.var → ⊥) → tally (with_true v l x) ≤ tally (v x)
    go (inl same) = omega (arith, ap tally (with_true-same v l x same))
    go (inr ne) = omega (arith, ap tally (with_true-other v l x ne))

step-falls : (v : Partial) (clauses : List (List Lit)) (c : List Lit) (l : Lit) → Contains clauses c → IsLastOpen v c l → open_all (with_true v l) clauses < open_all v clauses
unfolding tally
step-falls v clauses c l listed last =
    open_all-lt v (with_true v l) (fewer-with_true v l) clauses c l listed last.listed
    (omega (arith, ap tally (with_true-same v l l.var refl), ap tally last.is_open))

-- the rule, run to its end

abbrev Ended : List (List Lit) → Partial → Type 0
Ended clauses from = ReachesFalse clauses from ⊎ ((v : Partial) × Reached clauses from v × AllAtRest v clauses)

run : (clauses : List (List Lit)) (from : Partial) (n : ℕ) (v : Partial) → Reached clauses from v → open_all v clauses ≤ n → Ended clauses from
run clauses from zero v reached bound = go (scan v clauses)
  where
    go : Scanned v clauses → Ended clauses from
    go (inl rest) = inr (v, reached, rest)
    go (inr (inl f)) = inl record { values = v; reached = reached; clause = f.0; listed = f.1; is_false = f.2 }
    go (inr (inr s)) = absurd (omega (arith, step-falls v clauses s.0 s.1 s.2 s.3))
run clauses from (suc n) v reached bound =
    go (scan v clauses)
    (λ c l listed last.
    run clauses from n (with_true v l) (step v c l reached listed last) (omega (arith, step-falls v clauses c l listed last)))
  where
    go : Scanned v clauses → ((c : List Lit) (l : Lit) → Contains clauses c → IsLastOpen v c l → Ended clauses from) → Ended clauses from
    go (inl rest) more = inr (v, reached, rest)
    go (inr (inl f)) more = inl record { values = v; reached = reached; clause = f.0; listed = f.1; is_false = f.2 }
    go (inr (inr s)) more = more s.0 s.1 s.2 s.3

ended : (clauses : List (List Lit)) (from : Partial) → Ended clauses from
ended clauses from = run clauses from (open_all from clauses) from start (omega arith)

pub rest_by_steps : RestIsBySteps
rest_by_steps clauses from l = (λ all. forward all (ended clauses from), back)
  where
    forward : ((v : Partial) → Keeps from v → AllAtRest v clauses → MakesTrue v l) → Ended clauses from → ReachesTrue clauses from l ⊎ ReachesFalse clauses from
    forward all (inl f) = inr f
    forward all (inr end) = inl record { values = end.0; reached = end.1; is_true = all end.0 (keeps-reached clauses from end.0 end.1) end.2 }

    back : ReachesTrue clauses from l ⊎ ReachesFalse clauses from → (v : Partial) → Keeps from v → AllAtRest v clauses → MakesTrue v l
    back (inl t) v keeps rest = reached-kept clauses from t.values t.reached v keeps rest l.var l.positive t.is_true
    back (inr f) v keeps rest = absurd (no_rest clauses from f v keeps rest)

-- the line's literals false

all_false-kept : (line : List Lit) (v : Partial) → All (MakesFalse v) line → Keeps (all_false line) v
all_false-kept [] v all x b e = absurd (none-some b e)
all_false-kept (l ∷ line) v all x b e = go (cases_eq x l.var) (λ h. all_false-kept line v (All-tail (MakesFalse v) l line all) x b h)
  where
    go : (x ≡ l.var) ⊎ (x ≡ l.var → ⊥) → (all_false line x ≡ Some b → v x ≡ Some b) → v x ≡ Some b
    go (inl same) _ = ap v same ∙ All-head (MakesFalse v) l line all ∙ sym (cond-true (eqb x l.var) (Some (not l.positive)) (all_false line x) (eq-eqb x l.var same)) ∙ e
    go (inr ne) others = others (sym (cond-false (eqb x l.var) (Some (not l.positive)) (all_false line x) (ne_eqb x l.var ne)) ∙ e)

-- without opposites all literals of the line are false there
all_false-cons : (l : Lit) (line : List Lit) → (Contains line (opposite l) → ⊥) → All (MakesFalse (all_false line)) line → All (MakesFalse (all_false (l ∷ line))) (l ∷ line)
all_false-cons l line none all = All-from_contains (MakesFalse (all_false (l ∷ line))) (l ∷ line) (λ k listed. member k (Contains-cons_cases l line k listed))
  where
    here : (x : ℕ) → x ≡ l.var → all_false (l ∷ line) x ≡ Some (not l.positive)
    here x same = cond-true (eqb x l.var) (Some (not l.positive)) (all_false line x) (eq-eqb x l.var same)

    there : (x : ℕ) → (x ≡ l.var → ⊥) → all_false (l ∷ line) x ≡ all_false line x
    there x ne = cond-false (eqb x l.var) (Some (not l.positive)) (all_false line x) (ne_eqb x l.var ne)

    of_var : (k : Lit) → Contains line k → (k ≡ l) ⊎ (k ≡ opposite l) → MakesFalse (all_false (l ∷ line)) k
    of_var k listed (inl e) = here k.var (ap (λ (z : Lit). z.var) e) ∙ ap (λ (z : Lit). Some (not z.positive)) (sym e)
    of_var k listed (inr e) = absurd (none (subst (λ (z : Lit). Contains line z) e listed))

    tail : (k : Lit) → Contains line k → (k.var ≡ l.var) ⊎ (k.var ≡ l.var → ⊥) → MakesFalse (all_false (l ∷ line)) k
    tail k listed (inl same) = of_var k listed (of_one_var k l same)
    tail k listed (inr ne) = there k.var ne ∙ All-contains (MakesFalse (all_false line)) line k all listed

    member : (k : Lit) → (l ≡ k) ⊎ Contains line k → MakesFalse (all_false (l ∷ line)) k
    member k (inl e) = here k.var (ap (λ (z : Lit). z.var) (sym e)) ∙ ap (λ (z : Lit). Some (not z.positive)) e
    member k (inr listed) = tail k listed (cases_eq k.var l.var)

all_false-cases : (line : List Lit) → HasOpposites line ⊎ All (MakesFalse (all_false line)) line
all_false-cases [] = inr (All-nil (MakesFalse (all_false [])))
all_false-cases (l ∷ line) = go (all_false-cases line) (contains_cases line (opposite l))
  where
    go : HasOpposites line ⊎ All (MakesFalse (all_false line)) line → Contains line (opposite l) ⊎ (Contains line (opposite l) → ⊥)
        → HasOpposites (l ∷ line) ⊎ All (MakesFalse (all_false (l ∷ line))) (l ∷ line)
    go (inl two) _ =
        inl
        record {
          literal = two.literal;
          listed = Contains-tail l line two.literal two.listed;
          opposite_listed = Contains-tail l line (opposite two.literal) two.opposite_listed;
        }
    go (inr all) (inl listed) = inl record { literal = l; listed = Contains-head l line; opposite_listed = Contains-tail l line (opposite l) listed }
    go (inr all) (inr none) = inr (all_false-cons l line none all)

pub by_steps : FollowsIsBySteps
by_steps clauses line = (λ follows. forward follows (all_false-cases line), back)
  where
    end : Follows clauses line → All (MakesFalse (all_false line)) line → Ended clauses (all_false line) → ReachesFalse clauses (all_false line)
    end follows all (inl f) = f
    end follows all (inr rest) =
        absurd (follows rest.0 (false-kept (all_false line) rest.0 line (keeps-reached clauses (all_false line) rest.0 rest.1) all) rest.2)

    forward : Follows clauses line → HasOpposites line ⊎ All (MakesFalse (all_false line)) line → HasOpposites line ⊎ ReachesFalse clauses (all_false line)
    forward follows (inl two) = inl two
    forward follows (inr all) = inr (end follows all (ended clauses (all_false line)))

    back : HasOpposites line ⊎ ReachesFalse clauses (all_false line) → Follows clauses line
    back (inl two) = opposites clauses line two.literal two.listed two.opposite_listed
    back (inr f) = λ v all rest. no_rest clauses (all_false line) f v (all_false-kept line v all) rest
