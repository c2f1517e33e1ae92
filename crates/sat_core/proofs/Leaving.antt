-- What is left of a false clause, step by step downwards.
use Rattle.std.proofs.Common.{◌≡◌, ℕ, ◌+◌, ◌<◌, ◌≤◌, ◌⊎◌, Bool, not, Option, Some, List, [], ◌∷◌, ◌++◌, take, length, slice_get, sym, ◌∙◌, ap, subst, inl, inr, arith}
use Rattle.std.specs.Prelude.{All, Contains}
use Rattle.std.proofs.lemmas.Bool.{cases_eq, cases_lt}
use Rattle.std.proofs.lemmas.Option.{same_Some}
use Rattle.std.proofs.lemmas.List.{take_all}
use Rattle.std.proofs.lemmas.List.Elements.{All-contains, All-nil, Contains-push}
use Rattle.clause_store.specs.declared.lit.Lit.{Lit}
use Rattle.clause_store.specs.Literals.{opposite}
use Rattle.clause_store.specs.UnitRule.{Partial, MakesTrue, MakesFalse, IsAtRest, Follows}
use Rattle.clause_store.proofs.Members.{All-from_contains, All-slice_get, All-left, Contains-head}
use Rattle.clause_store.proofs.Rest.{forced, rest-not_false}
use Rattle.clause_store.proofs.StepLemmas.{lit_eq_cases}
use Rattle.sat_trail.specs.declared.step.Step.{Step}
use Rattle.sat_trail.specs.Paths.{IsWhy, IsReason, IsWalk, value_in}
use Rattle.sat_trail.specs.Visits.{IsFalseClause}
use Rattle.sat_trail.proofs.Listing.{get-take, not-twice}
use Rattle.sat_trail.proofs.Fronts.{StepOf, step-of}
use Rattle.sat_core.specs.Marks.{IsMarked, IsMarkedAll}
use Rattle.sat_core.specs.Analyses.{IsLeft, IsForced, IsKey, IsUnmarked}

-- values of marked steps are values of what makes these true
kept-value : (steps : List Step) (marks : List Bool) (below : ℕ) (v : Partial) → ((p : ℕ) (s : Step) → p < below → slice_get steps p ≡ Some s → IsMarked marks s.lit.var → MakesTrue v s.lit)
    → (k : Lit) → IsMarked marks k.var → MakesFalse (value_in (take below steps)) k → MakesFalse v k
kept-value steps marks below v true_below k marked falsified =
    let of : StepOf (take below steps) k.var (not k.positive) = step-of (take below steps) k.var (not k.positive) falsified in
    let at = get-take below steps of.place of.step of.there in
    ap (λ (x : ℕ). v x) (sym of.named) ∙ true_below of.place of.step at.1 at.0 (subst (λ (x : ℕ). IsMarked marks x) (sym of.named) marked) ∙ ap (λ (b : Bool). Some b) of.gives

pub left-start : (clauses : List (List Lit)) (steps : List Step) (marks : List Bool) (c : ℕ) (clause : List Lit) → IsFalseClause clauses (value_in steps) c → slice_get clauses c ≡ Some clause
    → ((k : Lit) → Contains clause k → IsMarked marks k.var) → IsLeft clauses steps marks (length steps) []
left-start clauses steps marks c clause clash found marked v rest line true_below =
    rest-not_false v clause (All-slice_get (IsAtRest v) clauses c clause rest found)
    (All-from_contains (MakesFalse v) clause
    (λ k listed.
    kept-value steps marks (length steps) v true_below k (marked k listed)
    (subst (λ (xs : List Step). MakesFalse (value_in xs) k) (sym (take_all (length steps) steps (omega arith)))
    (All-contains (MakesFalse (value_in steps)) clause k (subst (λ (d : List Lit). All (MakesFalse (value_in steps)) d) (same_Some clash.clause clause (sym clash.found ∙ found)) clash.is_false) listed))))

pub left-skip : (clauses : List (List Lit)) (steps : List Step) (marks : List Bool) (at : ℕ) (line : List Lit) → IsLeft clauses steps marks (at + 1) line → IsUnmarked steps marks at → IsLeft clauses steps marks at line
left-skip clauses steps marks at line left unmarked v rest falsified true_below =
    left v rest falsified (λ p s below found marked. go p s below found marked (cases_eq p at))
  where
    go : (p : ℕ) (s : Step) → p < at + 1 → slice_get steps p ≡ Some s → IsMarked marks s.lit.var → (p ≡ at) ⊎ (p ≡ at → ⊥) → MakesTrue v s.lit
    go p s below found marked (inl same) = absurd (unmarked s (subst (λ (n : ℕ). slice_get steps n ≡ Some s) same found) marked)
    go p s below found marked (inr ne) = true_below p s (omega (arith, below, ne)) found marked

pub left-expand : (clauses : List (List Lit)) (steps : List Step) (marks marks' : List Bool) (at c : ℕ) (clause line : List Lit) → IsLeft clauses steps marks (at + 1) line → IsWalk clauses steps → IsForced clauses steps at c
    → slice_get clauses c ≡ Some clause → IsMarkedAll marks marks' clause → IsLeft clauses steps marks' at line
left-expand clauses steps marks marks' at c clause line left walk is numbered more v rest falsified true_below =
    left v rest falsified (λ p s below found marked. go p s below found marked (cases_eq p at))
  where
    why : IsReason clauses (value_in (take at steps)) is.step.lit c
    why = subst (λ (r : Option ℕ). IsWhy clauses (value_in (take at steps)) is.step.lit r) is.reason (walk.why at is.step is.there)

    holds : MakesTrue v is.step.lit
    holds =
        forced v clause is.step.lit (All-slice_get (IsAtRest v) clauses c clause rest numbered)
        (λ k listed.
        elim (lit_eq_cases k is.step.lit) [ inl e ↦ inl e | inr differs ↦ inr (kept-value steps marks' at v true_below k (more.all k listed) (why.others clause numbered k listed differs)) ])

    go : (p : ℕ) (s : Step) → p < at + 1 → slice_get steps p ≡ Some s → IsMarked marks s.lit.var → (p ≡ at) ⊎ (p ≡ at → ⊥) → MakesTrue v s.lit
    go p s below found marked (inl same) = subst (λ (x : Step). MakesTrue v x.lit) (same_Some is.step s (sym is.there ∙ subst (λ (n : ℕ). slice_get steps n ≡ Some s) same found)) holds
    go p s below found marked (inr ne) = true_below p s (omega (arith, below, ne)) found (more.kept s.lit.var marked)

turned-true : (v : Partial) (l : Lit) → MakesFalse v (opposite l) → MakesTrue v l
turned-true v l falsified = falsified ∙ ap (λ (b : Bool). Some b) (not-twice l.positive)

pub left-key : (clauses : List (List Lit)) (steps : List Step) (first marks : List Bool) (at d : ℕ) → IsLeft clauses steps marks (at + 1) [] → (is : IsKey steps first marks at d) → IsLeft clauses steps marks d (opposite is.step.lit ∷ [])
left-key clauses steps first marks at d left is v rest falsified true_below =
    left v rest (All-nil (MakesFalse v)) (λ p s below found marked. go p s below found marked (cases_eq p at) (cases_lt p d))
  where
    holds : MakesTrue v is.step.lit
    holds = turned-true v is.step.lit (All-contains (MakesFalse v) (opposite is.step.lit ∷ []) (opposite is.step.lit) falsified (Contains-head (opposite is.step.lit) []))

    go : (p : ℕ) (s : Step) → p < at + 1 → slice_get steps p ≡ Some s → IsMarked marks s.lit.var → (p ≡ at) ⊎ (p ≡ at → ⊥) → (p < d) ⊎ (d ≤ p) → MakesTrue v s.lit
    go p s below found marked (inl same) _ = subst (λ (x : Step). MakesTrue v x.lit) (same_Some is.step s (sym is.there ∙ subst (λ (n : ℕ). slice_get steps n ≡ Some s) same found)) holds
    go p s below found marked (inr ne) (inl lower) = true_below p s lower found marked
    go p s below found marked (inr ne) (inr higher) = absurd (is.quiet p s higher (omega (arith, below, ne)) found marked)

pub left-keep : (clauses : List (List Lit)) (steps : List Step) (marks : List Bool) (at : ℕ) (line : List Lit) (step : Step) → IsLeft clauses steps marks (at + 1) line → slice_get steps at ≡ Some step
    → IsLeft clauses steps marks at (line ++ opposite step.lit ∷ [])
left-keep clauses steps marks at line step left there v rest falsified true_below =
    left v rest (All-left (MakesFalse v) line (opposite step.lit ∷ []) falsified) (λ p s below found marked. go p s below found marked (cases_eq p at))
  where
    holds : MakesTrue v step.lit
    holds = turned-true v step.lit (All-contains (MakesFalse v) (line ++ opposite step.lit ∷ []) (opposite step.lit) falsified (Contains-push line (opposite step.lit)))

    go : (p : ℕ) (s : Step) → p < at + 1 → slice_get steps p ≡ Some s → IsMarked marks s.lit.var → (p ≡ at) ⊎ (p ≡ at → ⊥) → MakesTrue v s.lit
    go p s below found marked (inl same) = subst (λ (x : Step). MakesTrue v x.lit) (same_Some step s (sym there ∙ subst (λ (n : ℕ). slice_get steps n ≡ Some s) same found)) holds
    go p s below found marked (inr ne) = true_below p s (omega (arith, below, ne)) found marked

-- with no step left it follows
pub left-end : (clauses : List (List Lit)) (steps : List Step) (marks : List Bool) (line : List Lit) → IsLeft clauses steps marks 0 line → Follows clauses line
left-end clauses steps marks line left v falsified rest = left v rest falsified (λ p s below found marked. absurd (omega (arith, below)))
