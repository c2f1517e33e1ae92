-- The values that fronts of the steps give.
use Rattle.std.proofs.Common.{◌≡◌, ℕ, suc, ◌<◌, ◌≤◌, ◌⊎◌, Bool, true, false, eqb, Option, Some, None, List, [], ◌∷◌, ◌++◌, take, drop, slice_get, refl, sym, ◌∙◌, ap, subst, inl, inr, arith}
use Rattle.std.proofs.lemmas.Bool.{cases_eq, eq-eqb, ne_eqb, cond-true, cond-false}
use Rattle.std.proofs.lemmas.Option.{none-some, same_Some}
use Rattle.std.proofs.lemmas.List.{take-append-drop, take-take}
use Rattle.clause_store.specs.UnitRule.{MakesTrue, LeavesOpen}
use Rattle.sat_trail.specs.declared.step.Step.{Step}
use Rattle.sat_trail.specs.Paths.{value_in, IsFresh}
use Rattle.sat_trail.proofs.Listing.{take-more_get}

pub at_same : (s : Step) (steps : List Step) (x : ℕ) → eqb x s.lit.var ≡ true → value_in (s ∷ steps) x ≡ Some s.lit.positive
at_same s steps x h = cond-true (eqb x s.lit.var) (Some s.lit.positive) (value_in steps x) h

pub at_other : (s : Step) (steps : List Step) (x : ℕ) → eqb x s.lit.var ≡ false → value_in (s ∷ steps) x ≡ value_in steps x
at_other s steps x h = cond-false (eqb x s.lit.var) (Some s.lit.positive) (value_in steps x) h

-- what a front gives, the whole gives
pub value-append : (xs ys : List Step) (x : ℕ) (b : Bool) → value_in xs x ≡ Some b → value_in (xs ++ ys) x ≡ Some b
value-append [] ys x b e = absurd (none-some b e)
value-append (s ∷ xs) ys x b e = go (eqb x s.lit.var) refl (λ h. value-append xs ys x b h)
  where
    go : (t : Bool) → eqb x s.lit.var ≡ t → (value_in xs x ≡ Some b → value_in (xs ++ ys) x ≡ Some b) → value_in ((s ∷ xs) ++ ys) x ≡ Some b
    go true h rest = at_same s (xs ++ ys) x h ∙ sym (at_same s xs x h) ∙ e
    go false h rest = at_other s (xs ++ ys) x h ∙ rest (sym (at_other s xs x h) ∙ e)

-- what a front leaves open, the rest decides
pub value-rest : (xs ys : List Step) (x : ℕ) → value_in xs x ≡ None → value_in (xs ++ ys) x ≡ value_in ys x
value-rest [] ys x e = refl
value-rest (s ∷ xs) ys x e = go (eqb x s.lit.var) refl (λ h. value-rest xs ys x h)
  where
    go : (t : Bool) → eqb x s.lit.var ≡ t → (value_in xs x ≡ None → value_in (xs ++ ys) x ≡ value_in ys x) → value_in ((s ∷ xs) ++ ys) x ≡ value_in ys x
    go true h rest = absurd (none-some s.lit.positive (sym e ∙ at_same s xs x h))
    go false h rest = at_other s (xs ++ ys) x h ∙ rest (sym (at_other s xs x h) ∙ e)

pub value-one_same : (s : Step) (x : ℕ) → x ≡ s.lit.var → value_in (s ∷ []) x ≡ Some s.lit.positive
value-one_same s x e = cond-true (eqb x s.lit.var) (Some s.lit.positive) (value_in [] x) (eq-eqb x s.lit.var e)

pub value-one_other : (s : Step) (x : ℕ) → (x ≡ s.lit.var → ⊥) → value_in (s ∷ []) x ≡ None
value-one_other s x ne = cond-false (eqb x s.lit.var) (Some s.lit.positive) (value_in [] x) (ne_eqb x s.lit.var ne)

value_cases : (o : Option Bool) → (o ≡ None) ⊎ ((b : Bool) × (o ≡ Some b))
value_cases None = inl refl
value_cases (Some b) = inr (b, refl)

-- one step more
pub value-push_same : (xs : List Step) (s : Step) → value_in xs s.lit.var ≡ None → MakesTrue (value_in (xs ++ s ∷ [])) s.lit
value-push_same xs s e = value-rest xs (s ∷ []) s.lit.var e ∙ value-one_same s s.lit.var refl

pub value-push_other : (xs : List Step) (s : Step) (x : ℕ) → (x ≡ s.lit.var → ⊥) → value_in (xs ++ s ∷ []) x ≡ value_in xs x
value-push_other xs s x ne = go (value_cases (value_in xs x))
  where
    go : (value_in xs x ≡ None) ⊎ ((b : Bool) × (value_in xs x ≡ Some b)) → value_in (xs ++ s ∷ []) x ≡ value_in xs x
    go (inl e) = value-rest xs (s ∷ []) x e ∙ value-one_other s x ne ∙ sym e
    go (inr given) = value-append xs (s ∷ []) x given.0 given.1 ∙ sym given.1

-- what a front gives, a longer front gives
pub value-front : (steps : List Step) (n m : ℕ) (x : ℕ) (b : Bool) → n ≤ m → value_in (take n steps) x ≡ Some b → value_in (take m steps) x ≡ Some b
value-front steps n m x b le e =
    let split : take n (take m steps) ++ drop n (take m steps) ≡ take m steps = take-append-drop n (take m steps) in
    subst (λ (xs : List Step). value_in xs x ≡ Some b) split
    (value-append (take n (take m steps)) (drop n (take m steps)) x b (ap (λ (xs : List Step). value_in xs x) (take-take n m steps le) ∙ e))

pub value-whole : (steps : List Step) (n : ℕ) (x : ℕ) (b : Bool) → value_in (take n steps) x ≡ Some b → value_in steps x ≡ Some b
value-whole steps n x b e =
    subst (λ (xs : List Step). value_in xs x ≡ Some b) (take-append-drop n steps) (value-append (take n steps) (drop n steps) x b e)

-- what a longer front leaves open, a front leaves open
pub open-front : (steps : List Step) (n m : ℕ) (x : ℕ) → n ≤ m → value_in (take m steps) x ≡ None → value_in (take n steps) x ≡ None
open-front steps n m x le e = go (value_cases (value_in (take n steps) x))
  where
    go : (value_in (take n steps) x ≡ None) ⊎ ((b : Bool) × (value_in (take n steps) x ≡ Some b)) → value_in (take n steps) x ≡ None
    go (inl h) = h
    go (inr given) = absurd (none-some given.0 (sym e ∙ value-front steps n m x given.0 le given.1))

pub open-whole : (steps : List Step) (n : ℕ) (x : ℕ) → value_in steps x ≡ None → value_in (take n steps) x ≡ None
open-whole steps n x e = go (value_cases (value_in (take n steps) x))
  where
    go : (value_in (take n steps) x ≡ None) ⊎ ((b : Bool) × (value_in (take n steps) x ≡ Some b)) → value_in (take n steps) x ≡ None
    go (inl h) = h
    go (inr given) = absurd (none-some given.0 (sym e ∙ value-whole steps n x given.0 given.1))

-- a step's literal is true in each front that has it, and open in each that ends before it
pub step-true_next : (steps : List Step) (p : ℕ) (s : Step) → IsFresh steps → slice_get steps p ≡ Some s → MakesTrue (value_in (take (suc p) steps)) s.lit
step-true_next steps p s fresh there =
    subst (λ (xs : List Step). MakesTrue (value_in xs) s.lit) (sym (take-more_get steps p s there)) (value-push_same (take p steps) s (fresh p s there))

pub step-true : (steps : List Step) (p n : ℕ) (s : Step) → IsFresh steps → slice_get steps p ≡ Some s → p < n → MakesTrue (value_in (take n steps)) s.lit
step-true steps p n s fresh there below = value-front steps (suc p) n s.lit.var s.lit.positive (omega (arith, below)) (step-true_next steps p s fresh there)

pub step-true_whole : (steps : List Step) (p : ℕ) (s : Step) → IsFresh steps → slice_get steps p ≡ Some s → MakesTrue (value_in steps) s.lit
step-true_whole steps p s fresh there = value-whole steps (suc p) s.lit.var s.lit.positive (step-true_next steps p s fresh there)

pub open-before : (steps : List Step) (p n : ℕ) (s : Step) → IsFresh steps → slice_get steps p ≡ Some s → n ≤ p → LeavesOpen (value_in (take n steps)) s.lit
open-before steps p n s fresh there le = open-front steps n p s.lit.var le (fresh p s there)

pub record StepOf (steps : List Step) (x : ℕ) (b : Bool) : Type 0 where
  pub place : ℕ
  pub step : Step
  pub there : slice_get steps place ≡ Some step
  pub named : step.lit.var ≡ x
  pub gives : step.lit.positive ≡ b

-- a value comes of a step
pub step-of : (steps : List Step) (x : ℕ) (b : Bool) → value_in steps x ≡ Some b → StepOf steps x b
step-of [] x b e = absurd (none-some b e)
step-of (s ∷ steps) x b e = go (cases_eq x s.lit.var) (λ h. step-of steps x b h)
  where
    go : (x ≡ s.lit.var) ⊎ (x ≡ s.lit.var → ⊥) → (value_in steps x ≡ Some b → StepOf steps x b) → StepOf (s ∷ steps) x b
    go (inl same) more =
        record { place = 0; step = s; there = refl; named = sym same; gives = same_Some s.lit.positive b (sym (at_same s steps x (eq-eqb x s.lit.var same)) ∙ e) }
    go (inr ne) more =
        let rest : StepOf steps x b = more (sym (at_other s steps x (ne_eqb x s.lit.var ne)) ∙ e) in
        record { place = suc rest.place; step = rest.step; there = rest.there; named = rest.named; gives = rest.gives }
