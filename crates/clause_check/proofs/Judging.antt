-- What follows line by line, and the verdict on all lines.
use Rattle.std.proofs.Common.{◌≡◌, ℕ, ◌+◌, ◌-◌, ◌^◌, ◌<◌, ◌≤◌, ◌⊎◌, Bool, false, eqb, Option, Some, None, List, [], ◌∷◌, ◌++◌, take, drop, length, slice_get, refl, sym, ◌∙◌, ap, subst, inl, inr, arith, add-one}
use Rattle.std.specs.Prelude.{◌↔◌, All, IsTrue}
use Rattle.std.proofs.lemmas.Bool.{cases_eq, cases_lt, eq-eqb, eqb-true, false≢true}
use Rattle.std.proofs.lemmas.Option.{none-some, same_Some, slice_get_within}
use Rattle.std.proofs.lemmas.List.{append_assoc, append-nil, take-take, take_all, take-append-drop}
use Rattle.std.proofs.lemmas.List.Elements.{All-append, All-contains, All-nil}
use Rattle.clause_store.specs.declared.lit.Lit.{Lit}
use Rattle.clause_store.specs.Literals.{IsTrueUnder}
use Rattle.clause_store.specs.Formula.{IsKnown}
use Rattle.clause_store.specs.UnitRule.{Partial, MakesFalse, IsAtRest, AllAtRest, Follows, Derived}
use Rattle.clause_store.proofs.Members.{All-from_contains, All-left, All-right, All-slice_get}
use Rattle.clause_store.proofs.Rest.{derived_true}
use Rattle.sat_trail.specs.Engines.{State}
use Rattle.sat_trail.proofs.Listing.{get-take, get-front, take-more_get}
use Rattle.clause_check.specs.declared.verdict.Verdict.{Verdict}
use Rattle.clause_check.specs.declared.verdict.Verdict.TheVariants.{Refuted, Holds, Fails}
use Rattle.clause_check.specs.Verdicts.{IsFirstGap, IsGap, EndsEmpty, IsVerdict, OneVerdict, RefutedCantBeSatisfied}
use Rattle.clause_check.specs.Bases.{SameRest, IsBase, IsBaseOf}

-- one line more

take-next : (lines : List (List Lit)) (at : ℕ) (line : List Lit) → slice_get lines at ≡ Some line → take (at + 1) lines ≡ take at lines ++ line ∷ []
take-next lines at line found = ap (λ (n : ℕ). take n lines) (add-one at) ∙ take-more_get lines at line found

front-of : (lines : List (List Lit)) (n i : ℕ) → i ≤ n → take i (take n lines) ≡ take i lines
front-of lines n i le = take-take i n lines le

derived-at : (clauses lines : List (List Lit)) (n i : ℕ) (line : List Lit) → Derived clauses (take n lines) → i < n → slice_get lines i ≡ Some line → Follows (clauses ++ take i lines) line
derived-at clauses lines n i line derived below found =
    subst (λ (front : List (List Lit)). Follows (clauses ++ front) line) (front-of lines n i (omega (arith, below))) (derived i line (get-front n lines i line below found))

derived-front : (clauses lines : List (List Lit)) (n : ℕ) → ((i : ℕ) (line : List Lit) → i < n → slice_get lines i ≡ Some line → Follows (clauses ++ take i lines) line) → Derived clauses (take n lines)
derived-front clauses lines n each i line found =
    let at = get-take n lines i line found in
    subst (λ (front : List (List Lit)). Follows (clauses ++ front) line) (sym (front-of lines n i (omega (arith, at.1)))) (each i line at.1 at.0)

pub derived-start : (clauses lines : List (List Lit)) → Derived clauses (take 0 lines)
derived-start clauses lines i line found = absurd (none-some line found)

pub derived-more : (clauses lines : List (List Lit)) (at : ℕ) (line : List Lit) → Derived clauses (take at lines) → slice_get lines at ≡ Some line → Follows (clauses ++ take at lines) line → Derived clauses (take (at + 1) lines)
derived-more clauses lines at line derived here follows = derived-front clauses lines (at + 1) (λ i other below found. go i other below found (cases_eq i at))
  where
    go : (i : ℕ) (other : List Lit) → i < at + 1 → slice_get lines i ≡ Some other → (i ≡ at) ⊎ (i ≡ at → ⊥) → Follows (clauses ++ take i lines) other
    go i other below found (inl same) =
        let one : line ≡ other = same_Some line other (sym here ∙ ap (λ (n : ℕ). slice_get lines n) (sym same) ∙ found) in
        subst (λ (n : ℕ). Follows (clauses ++ take n lines) other) (sym same) (subst (λ (l : List Lit). Follows (clauses ++ take at lines) l) one follows)
    go i other below found (inr ne) = derived-at clauses lines at i other derived (omega (arith, below, ne)) found

pub derived-end : (clauses lines : List (List Lit)) (n : ℕ) → Derived clauses (take n lines) → length lines ≤ n → Derived clauses lines
derived-end clauses lines n derived done = subst (λ (xs : List (List Lit)). Derived clauses xs) (take_all n lines done) derived

-- from where nothing is at rest all lines follow
rest-front : (clauses lines : List (List Lit)) (n i : ℕ) (v : Partial) → n ≤ i → AllAtRest v (clauses ++ take i lines) → AllAtRest v (clauses ++ take n lines)
rest-front clauses lines n i v le rest =
    All-append (IsAtRest v) clauses (take n lines) (All-left (IsAtRest v) clauses (take i lines) rest)
    (subst (λ (xs : List (List Lit)). AllAtRest v xs) (front-of lines i n le)
    (All-left (IsAtRest v) (take n (take i lines)) (drop n (take i lines))
    (subst (λ (xs : List (List Lit)). AllAtRest v xs) (sym (take-append-drop n (take i lines))) (All-right (IsAtRest v) clauses (take i lines) rest))))

pub derived-closed : (clauses lines : List (List Lit)) (n : ℕ) → Derived clauses (take n lines) → Follows (clauses ++ take n lines) [] → Derived clauses lines
derived-closed clauses lines n derived closed i line found = go (cases_lt i n)
  where
    go : (i < n) ⊎ (n ≤ i) → Follows (clauses ++ take i lines) line
    go (inl below) = derived-at clauses lines n i line derived below found
    go (inr le) = λ v falsified rest. closed v (All-nil (MakesFalse v)) (rest-front clauses lines n i v le rest)

pub derived-none : (clauses lines : List (List Lit)) → Follows clauses [] → Derived clauses lines
derived-none clauses lines closed i line found v falsified rest = closed v (All-nil (MakesFalse v)) (All-left (IsAtRest v) clauses (take i lines) rest)

-- what the engine's clauses say, the clauses and lines say

same-follows : (clauses others : List (List Lit)) (line : List Lit) → SameRest clauses others → Follows clauses line → Follows others line
same-follows clauses others line same follows v falsified rest = follows v falsified ((same v).1 rest)

same-back : (clauses others : List (List Lit)) → SameRest clauses others → SameRest others clauses
same-back clauses others same v = ((same v).1, (same v).0)

same-more : (clauses others : List (List Lit)) (line : List Lit) → SameRest clauses others → SameRest (clauses ++ line ∷ []) (others ++ line ∷ [])
same-more clauses others line same v = (
  λ rest. All-append (IsAtRest v) others (line ∷ []) ((same v).0 (All-left (IsAtRest v) clauses (line ∷ []) rest)) (All-right (IsAtRest v) clauses (line ∷ []) rest),
  λ rest. All-append (IsAtRest v) clauses (line ∷ []) ((same v).1 (All-left (IsAtRest v) others (line ∷ []) rest)) (All-right (IsAtRest v) others (line ∷ []) rest),
)

pub base-start : (vars : ℕ) (clauses lines : List (List Lit)) (s : State) → IsBase vars clauses s → IsBase vars (clauses ++ take 0 lines) s
base-start vars clauses lines s is = subst (λ (cs : List (List Lit)). IsBase vars cs s) (sym (append-nil clauses)) is

pub base-some : (vars : ℕ) (clauses : List (List Lit)) (base : Option State) (s : State) → IsBaseOf vars clauses base → base ≡ Some s → IsBase vars clauses s
base-some vars clauses base s is e = subst (λ (o : Option State). IsBaseOf vars clauses o) e is

pub base-none : (vars : ℕ) (clauses : List (List Lit)) (base : Option State) → IsBaseOf vars clauses base → base ≡ None → Follows clauses []
base-none vars clauses base is e = subst (λ (o : Option State). IsBaseOf vars clauses o) e is

with-next : (clauses lines : List (List Lit)) (at : ℕ) (line : List Lit) → slice_get lines at ≡ Some line → (clauses ++ take at lines) ++ line ∷ [] ≡ clauses ++ take (at + 1) lines
with-next clauses lines at line found = append_assoc clauses (take at lines) (line ∷ []) ∙ ap (λ (xs : List (List Lit)). clauses ++ xs) (sym (take-next lines at line found))

-- from line to line

pub known-fits : (vars n : ℕ) (lines : List (List Lit)) (at : ℕ) (line : List Lit) → All (IsKnown vars) lines → slice_get lines at ≡ Some line → n ≡ vars → n < 2 ^ 31 → IsKnown (2 ^ 31) line
known-fits vars n lines at line known found same fits =
    All-from_contains (λ (l : Lit). l.var < 2 ^ 31) line
    (λ l listed. omega (arith, All-contains (λ (k : Lit). k.var < vars) line l (All-slice_get (IsKnown vars) lines at line known found) listed, same, fits))

pub known-line : (vars n : ℕ) (lines : List (List Lit)) (at : ℕ) (line line' : List Lit) → All (IsKnown vars) lines → slice_get lines at ≡ Some line → line' ≡ line → n ≡ vars → IsKnown n line'
known-line vars n lines at line line' known found packed same =
    subst (λ (l : List Lit). IsKnown n l) (sym packed) (subst (λ (m : ℕ). IsKnown m line) (sym same) (All-slice_get (IsKnown vars) lines at line known found))

along-state : (s t : State) (line' line : List Lit) → t ≡ s → line' ≡ line → t.clauses ++ line' ∷ [] ≡ s.clauses ++ line ∷ []
along-state s t line' line same packed = ap (λ (x : State). x.clauses ++ line' ∷ []) same ∙ ap (λ (l : List Lit). s.clauses ++ l ∷ []) packed

pub next-stands : (vars : ℕ) (clauses lines : List (List Lit)) (at : ℕ) (line line' : List Lit) (s t : State) (more : Option State) (u : State) → IsBase vars (clauses ++ take at lines) s → slice_get lines at ≡ Some line → line' ≡ line → t ≡ s
    → IsBaseOf t.vars (t.clauses ++ line' ∷ []) more → more ≡ Some u → IsBase vars (clauses ++ take (at + 1) lines) u
next-stands vars clauses lines at line line' s t more u is found packed same of e =
    record {
      same_vars = next.same_vars ∙ ap (λ (x : State). x.vars) same ∙ is.same_vars;
      same_rest = λ v. (λ rest. (wider v).0 ((next.same_rest v).0 rest), λ rest. (next.same_rest v).1 ((wider v).1 rest));
      calm = next.calm;
    }
  where
    next : IsBase t.vars (t.clauses ++ line' ∷ []) u
    next = base-some t.vars (t.clauses ++ line' ∷ []) more u of e

    wider : SameRest (t.clauses ++ line' ∷ []) (clauses ++ take (at + 1) lines)
    wider =
        subst (λ (cs : List (List Lit)). SameRest cs (clauses ++ take (at + 1) lines)) (sym (along-state s t line' line same packed))
        (subst (λ (cs : List (List Lit)). SameRest (s.clauses ++ line ∷ []) cs) (with-next clauses lines at line found) (same-more s.clauses (clauses ++ take at lines) line is.same_rest))

pub next-derived : (vars : ℕ) (clauses lines : List (List Lit)) (at : ℕ) (line line' : List Lit) (s : State) → IsBase vars (clauses ++ take at lines) s → Derived clauses (take at lines) → slice_get lines at ≡ Some line → line' ≡ line → Follows s.clauses line'
    → Derived clauses (take (at + 1) lines)
next-derived vars clauses lines at line line' s is derived found packed follows =
    derived-more clauses lines at line derived found
    (same-follows s.clauses (clauses ++ take at lines) line is.same_rest (subst (λ (l : List Lit). Follows s.clauses l) packed follows))

pub next-closed : (vars : ℕ) (clauses lines : List (List Lit)) (at : ℕ) (line line' : List Lit) (s t : State) (more : Option State) → IsBase vars (clauses ++ take at lines) s → Derived clauses (take at lines) → slice_get lines at ≡ Some line → line' ≡ line → t ≡ s
    → Follows s.clauses line' → IsBaseOf t.vars (t.clauses ++ line' ∷ []) more → more ≡ None → Derived clauses lines
next-closed vars clauses lines at line line' s t more is derived found packed same follows of e =
    derived-closed clauses lines (at + 1) (next-derived vars clauses lines at line line' s is derived found packed follows)
    (subst (λ (cs : List (List Lit)). Follows cs []) (with-next clauses lines at line found)
    (same-follows (s.clauses ++ line ∷ []) ((clauses ++ take at lines) ++ line ∷ []) [] (same-more s.clauses (clauses ++ take at lines) line is.same_rest)
    (subst (λ (cs : List (List Lit)). Follows cs []) (along-state s t line' line same packed) (base-none t.vars (t.clauses ++ line' ∷ []) more of e))))

pub next-gap : (vars : ℕ) (clauses lines : List (List Lit)) (at : ℕ) (line line' : List Lit) (s : State) → IsBase vars (clauses ++ take at lines) s → Derived clauses (take at lines) → slice_get lines at ≡ Some line → line' ≡ line → (Follows s.clauses line' → ⊥)
    → IsFirstGap clauses lines at
next-gap vars clauses lines at line line' s is derived found packed open' =
    record {
      before = derived;
      line = line;
      there = found;
      gap = λ follows.
          open'
          (subst (λ (l : List Lit). Follows s.clauses l) (sym packed)
          (same-follows (clauses ++ take at lines) s.clauses line (same-back s.clauses (clauses ++ take at lines) is.same_rest) follows));
    }

-- verdicts

pub gap-none : (clauses lines : List (List Lit)) (gap : Option ℕ) → IsGap clauses lines gap → gap ≡ None → Derived clauses lines
gap-none clauses lines gap is e = subst (λ (g : Option ℕ). IsGap clauses lines g) e is

pub gap-some : (clauses lines : List (List Lit)) (gap : Option ℕ) (at : ℕ) → IsGap clauses lines gap → gap ≡ Some at → IsFirstGap clauses lines at
gap-some clauses lines gap at is e = subst (λ (g : Option ℕ). IsGap clauses lines g) e is

pub gap-within : (clauses lines : List (List Lit)) (gap : Option ℕ) (at : ℕ) → IsGap clauses lines gap → gap ≡ Some at → at < length lines
gap-within clauses lines gap at is e =
    let first : IsFirstGap clauses lines at = gap-some clauses lines gap at is e in
    slice_get_within lines at first.line first.there

empty-of : (line : List Lit) → length line ≡ 0 → line ≡ []
empty-of [] e = refl
empty-of (l ∷ line) e = absurd (omega (arith, e))

pub ends-none : (lines : List (List Lit)) → length lines ≡ 0 → IsTrue false ↔ EndsEmpty lines
ends-none [] e = (λ t. absurd (false≢true t), λ ends. absurd (none-some [] ends))
ends-none (line ∷ lines) e = absurd (omega (arith, e))

pub ends-last : (lines : List (List Lit)) (count : ℕ) (line : List Lit) (empty : Bool) → count ≡ length lines → slice_get lines (count - 1) ≡ Some line → empty ≡ eqb (length line) 0 → IsTrue empty ↔ EndsEmpty lines
ends-last lines count line empty same found is = (
  λ t. last ∙ ap (λ (l : List Lit). Some l) (empty-of line (eqb-true (length line) 0 (sym is ∙ t))),
  λ ends. is ∙ eq-eqb (length line) 0 (ap (λ (l : List Lit). length l) (same_Some line [] (sym last ∙ ends))),
)
  where
    last : slice_get lines (length lines - 1) ≡ Some line
    last = subst (λ (n : ℕ). slice_get lines (n - 1) ≡ Some line) same found

-- a line that doesn't follow is none of derived ones
gap-derived : (clauses lines : List (List Lit)) (at : ℕ) → IsFirstGap clauses lines at → Derived clauses lines → ⊥
gap-derived clauses lines at is derived = is.gap (derived at is.line is.there)

gap-once : (clauses lines : List (List Lit)) (a b : ℕ) → IsFirstGap clauses lines a → IsFirstGap clauses lines b → (a < b) → ⊥
gap-once clauses lines a b first second below = first.gap (derived-at clauses lines b a first.line second.before below first.there)

pub one_verdict : OneVerdict
one_verdict clauses lines a b is is' = go a b is is'
  where
    go : (a b : Verdict) → IsVerdict clauses lines a → IsVerdict clauses lines b → a ≡ b
    go Refuted Refuted is is' = refl
    go Refuted (Holds n) is is' = absurd (is'.1 is.1)
    go Refuted (Fails n) is is' = absurd (gap-derived clauses lines is'.0 is'.2 is.0)
    go (Holds m) Refuted is is' = absurd (is.1 is'.1)
    go (Holds m) (Holds n) is is' = ap (λ (k : ℕ). Holds k) (is.2 ∙ sym is'.2)
    go (Holds m) (Fails n) is is' = absurd (gap-derived clauses lines is'.0 is'.2 is.0)
    go (Fails m) Refuted is is' = absurd (gap-derived clauses lines is.0 is.2 is'.0)
    go (Fails m) (Holds n) is is' = absurd (gap-derived clauses lines is.0 is.2 is'.0)
    go (Fails m) (Fails n) is is' = ap (λ (k : ℕ). Fails k) (is.1 ∙ ap (λ (k : ℕ). k + 1) (same is.0 is'.0 is.2 is'.2) ∙ sym is'.1)
      where
        same : (a b : ℕ) → IsFirstGap clauses lines a → IsFirstGap clauses lines b → a ≡ b
        same a b first second = omega (arith, not_below a b first second, not_below b a second first)
          where
            not_below : (a b : ℕ) → IsFirstGap clauses lines a → IsFirstGap clauses lines b → b ≤ a
            not_below a b first second = elim (cases_lt a b) [ inl below ↦ absurd (gap-once clauses lines a b first second below) | inr le ↦ le ]

pub refuted_cant_be_satisfied : RefutedCantBeSatisfied
refuted_cant_be_satisfied clauses lines is w sat =
    let holds : IsTrueUnder w [] = All-slice_get (IsTrueUnder w) lines (length lines - 1) [] (derived_true clauses lines w is.0 sat) is.1 in
    absurd (omega (arith, holds.2))

pub vars-along : (s t : State) (vars : ℕ) → t ≡ s → s.vars ≡ vars → t.vars ≡ vars
vars-along s t vars same is = ap (λ (x : State). x.vars) same ∙ is
