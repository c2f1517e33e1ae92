-- The table of truths beside the steps.
use Rattle.std.proofs.Common.{◌≡◌, ℕ, zero, suc, ◌<◌, ◌≤◌, ◌⊎◌, Bool, true, false, eqb, Option, Some, None, List, [], ◌∷◌, ◌++◌, take, set, length, slice_get, map, refl, sym, ◌∙◌, ap, subst, inl, inr, arith}
use Rattle.std.specs.Prelude.{All, is_some, ◌||◌}
use Rattle.std.specs.List.{list_any, IsDistinct}
use Rattle.std.specs.Cmp.{nat_eq_equiv}
use Rattle.std.proofs.lemmas.Bool.{cases_eq, or_left, false≢true}
use Rattle.std.proofs.lemmas.Option.{slice_get_within}
use Rattle.std.proofs.lemmas.List.{length-set, take_all, map_push, length-map, take-append-le, take-take, take_at}
use Rattle.std.proofs.lemmas.List.Elements.{All-push, All-take}
use Rattle.std.proofs.lemmas.Map.Keys.{IsDistinct-push}
use Rattle.std.proofs.lemmas.Map.Steps.{length-le_from_distinct_below}
use Rattle.clause_store.specs.declared.lit.Lit.{Lit}
use Rattle.clause_store.specs.Literals.{opposite}
use Rattle.clause_store.specs.UnitRule.{MakesTrue, MakesFalse, LeavesOpen}
use Rattle.clause_store.proofs.Members.{All-slice_get}
use Rattle.sat_trail.specs.declared.step.Step.{Step}
use Rattle.sat_trail.specs.declared.truth.Truth.{Truth}
use Rattle.sat_trail.specs.declared.truth.Truth.TheVariants.{Open, True, False}
use Rattle.sat_trail.specs.Packing.{place_of}
use Rattle.sat_trail.specs.Paths.{value_in, IsFresh, IsPath, IsTruth, IsTrail, step_of}
use Rattle.sat_trail.proofs.Listing.{push-cases, take-more_get, get-take, get-within, get-last, get-set_same, get-set_other, place-one, one_var_cases, not-twice}
use Rattle.sat_trail.proofs.Fronts.{StepOf, step-of, at_same, at_other, value-push_same, value-push_other}

-- each variable is named once, so there are no more steps than variables

vars_of : List Step → List ℕ
vars_of steps = map (λ (s : Step). s.lit.var) steps

named : (steps : List Step) (q : ℕ) → list_any (eqb q) (vars_of steps) ≡ is_some (value_in steps q)
unfolding vars_of
named [] q = refl
named (s ∷ steps) q = go (eqb q s.lit.var) refl (named steps q)
  where
    go : (t : Bool) → eqb q s.lit.var ≡ t → list_any (eqb q) (map (λ (s : Step). s.lit.var) steps) ≡ is_some (value_in steps q)
        → list_any (eqb q) (map (λ (s : Step). s.lit.var) (s ∷ steps)) ≡ is_some (value_in (s ∷ steps) q)
    go true h rest = or_left (eqb q s.lit.var) (list_any (eqb q) (map (λ (s : Step). s.lit.var) steps)) h ∙ sym (ap (λ (o : Option Bool). is_some o) (at_same s steps q h))
    go false h rest = ap (λ (t : Bool). t || list_any (eqb q) (map (λ (s : Step). s.lit.var) steps)) h ∙ rest ∙ sym (ap (λ (o : Option Bool). is_some o) (at_other s steps q h))

distinct : (steps : List Step) → IsFresh steps → (n : ℕ) → n ≤ length steps → IsDistinct eqb (vars_of (take n steps))
unfolding vars_of IsDistinct
distinct steps fresh zero le = tt
distinct steps fresh (suc n) le =
    let s = get-within steps n (omega (arith, le)) in
    let before : IsDistinct eqb (vars_of (take n steps)) = distinct steps fresh n (omega (arith, le)) in
    let open' : list_any (eqb s.0.lit.var) (vars_of (take n steps)) ≡ false =
    named (take n steps) s.0.lit.var ∙ ap (λ (o : Option Bool). is_some o) (fresh n s.0 s.1)
    in
    let more : IsDistinct eqb (vars_of (take n steps) ++ s.0.lit.var ∷ []) = IsDistinct-push nat_eq_equiv (vars_of (take n steps)) s.0.lit.var before open' in
    subst (λ (xs : List ℕ). IsDistinct eqb xs)
    (sym (ap (λ (xs : List Step). vars_of xs) (take-more_get steps n s.0 s.1) ∙ map_push (λ (s : Step). s.lit.var) (take n steps) s.0)) more

pub path-few : (vars : ℕ) (steps : List Step) → All (λ (s : Step). s.lit.var < vars) steps → IsFresh steps → length steps ≤ vars
unfolding vars_of
path-few vars steps known fresh =
    let all : IsDistinct eqb (vars_of steps) =
    subst (λ (xs : List Step). IsDistinct eqb (vars_of xs)) (take_all (length steps) steps (omega arith)) (distinct steps fresh (length steps) (omega arith))
    in
    omega (arith, length-map steps (λ (s : Step). s.lit.var), length-le_from_distinct_below (vars_of steps) vars all below)
  where
    below : (q : ℕ) → list_any (eqb q) (map (λ (s : Step). s.lit.var) steps) ≡ true → q < vars
    below q h = given (value_in steps q) refl (sym (named steps q) ∙ h)
      where
        given : (o : Option Bool) → value_in steps q ≡ o → is_some (value_in steps q) ≡ true → q < vars
        given None e t = absurd (false≢true (ap (λ (o : Option Bool). is_some o) (sym e) ∙ t))
        given (Some b) e t =
            let s : StepOf steps q b = step-of steps q b e in
            omega (arith, s.named, All-slice_get (λ (s : Step). s.lit.var < vars) steps s.place s.step known s.there)

-- a table with two entries written

data Two (ts : List Truth) (l : Lit) (a b : Truth) (k : Lit) (t : Truth) : Type 0 where
  here : k ≡ l → a ≡ t → Two ts l a b k t
  there : k ≡ opposite l → b ≡ t → Two ts l a b k t
  other : (k.var ≡ l.var → ⊥) → slice_get ts (place_of k) ≡ Some t → Two ts l a b k t

two : (ts : List Truth) (l : Lit) (a b : Truth) (k : Lit) (t : Truth) → slice_get (set (set ts (place_of l) a) (place_of (opposite l)) b) (place_of k) ≡ Some t → Two ts l a b k t
two ts l a b k t e = go (cases_eq (place_of k) (place_of (opposite l))) (cases_eq (place_of k) (place_of l))
  where
    first : List Truth
    first = set ts (place_of l) a

    at_place : (p : ℕ) → place_of k ≡ p → (zs : List Truth) → slice_get zs (place_of k) ≡ Some t → slice_get zs p ≡ Some t
    at_place p same zs found = subst (λ (q : ℕ). slice_get zs q ≡ Some t) same found

    go : (place_of k ≡ place_of (opposite l)) ⊎ (place_of k ≡ place_of (opposite l) → ⊥) → (place_of k ≡ place_of l) ⊎ (place_of k ≡ place_of l → ⊥) → Two ts l a b k t
    go (inl same) _ =
        there (place-one k (opposite l) same)
        (get-set_same (set ts (place_of l) a) (place_of (opposite l)) b t
        (at_place (place_of (opposite l)) same (set (set ts (place_of l) a) (place_of (opposite l)) b) e))
    go (inr ne) (inl same) =
        here (place-one k l same)
        (get-set_same ts (place_of l) a t
        (at_place (place_of l) same (set ts (place_of l) a) (sym (get-set_other (set ts (place_of l) a) (place_of (opposite l)) (place_of k) b ne) ∙ e)))
    go (inr ne) (inr ne') =
        other (λ same. elim (one_var_cases k l same) [ inl one ↦ ne' (ap place_of one) | inr opp ↦ ne (ap place_of opp) ])
        (sym (get-set_other ts (place_of l) (place_of k) a ne') ∙ sym (get-set_other (set ts (place_of l) a) (place_of (opposite l)) (place_of k) b ne) ∙ e)

-- what is said of a literal depends on its variable's value alone
truth-same : (v w : ℕ → Option Bool) (l : Lit) (t : Truth) → w l.var ≡ v l.var → IsTruth v l t → IsTruth w l t
truth-same v w l Open e h = e ∙ h
truth-same v w l True e h = e ∙ h
truth-same v w l False e h = e ∙ h

pub fresh-push : (steps : List Step) (s : Step) → IsFresh steps → value_in steps s.lit.var ≡ None → IsFresh (steps ++ s ∷ [])
fresh-push steps s fresh o p x at = go (push-cases steps s p x at)
  where
    front : p ≤ length steps → take p (steps ++ s ∷ []) ≡ take p steps
    front le = take-append-le p steps (s ∷ []) le

    go : (slice_get steps p ≡ Some x) ⊎ ((p ≡ length steps) × (s ≡ x)) → value_in (take p (steps ++ s ∷ [])) x.lit.var ≡ None
    go (inl found) = ap (λ (xs : List Step). value_in xs x.lit.var) (front (omega (arith, slice_get_within steps p x found))) ∙ fresh p x found
    go (inr last) =
        ap (λ (xs : List Step). value_in xs x.lit.var) (front (omega (arith, last.0)) ∙ take_all p steps (omega (arith, last.0)))
        ∙ subst (λ (y : Step). value_in steps y.lit.var ≡ None) last.1 o

pub fresh-take : (steps : List Step) (n : ℕ) → IsFresh steps → IsFresh (take n steps)
fresh-take steps n fresh p x at =
    let found = get-take n steps p x at in
    ap (λ (xs : List Step). value_in xs x.lit.var) (take-take p n steps (omega (arith, found.1))) ∙ fresh p x found.0

pub path-push : (vars : ℕ) (steps : List Step) (s : Step) → IsPath record { vars = vars; steps = steps } → s.lit.var < vars → value_in steps s.lit.var ≡ None → IsPath record { vars = vars; steps = steps ++ s ∷ [] }
path-push vars steps s path below o =
    let known : All (λ (s : Step). s.lit.var < vars) (steps ++ s ∷ []) = All-push (λ (s : Step). s.lit.var < vars) steps s path.known below in
    let fresh : IsFresh (steps ++ s ∷ []) = fresh-push steps s path.fresh o in
    record { known = known; fresh = fresh; few = path-few vars (steps ++ s ∷ []) known fresh }

pub path-take : (vars : ℕ) (steps : List Step) (n : ℕ) → IsPath record { vars = vars; steps = steps } → IsPath record { vars = vars; steps = take n steps }
path-take vars steps n path =
    let known : All (λ (s : Step). s.lit.var < vars) (take n steps) = All-take (λ (s : Step). s.lit.var < vars) n steps path.known in
    let fresh : IsFresh (take n steps) = fresh-take steps n path.fresh in
    record { known = known; fresh = fresh; few = path-few vars (take n steps) known fresh }

pub trail-push : (vars : ℕ) (ts : List Truth) (steps : List Step) (l : Lit) (reason : Option ℕ) → IsTrail vars ts steps → l.var < vars → LeavesOpen (value_in steps) l
    → IsTrail vars (set (set ts (place_of l) True) (place_of (opposite l)) False) (steps ++ step_of l reason ∷ [])
trail-push vars ts steps l reason is below o =
    record {
      all = omega (arith, is.all, length-set (set ts (place_of l) True) (place_of (opposite l)) False, length-set ts (place_of l) True);
      same = λ k t e. go k t (two ts l True False k t e);
      path = path-push vars steps (step_of l reason) is.path below o;
    }
  where
    now : ℕ → Option Bool
    now x = value_in (steps ++ step_of l reason ∷ []) x

    go : (k : Lit) (t : Truth) → Two ts l True False k t → IsTruth (value_in (steps ++ step_of l reason ∷ [])) k t
    go k t (here e said) =
        subst (λ (u : Truth). IsTruth (value_in (steps ++ step_of l reason ∷ [])) k u) said
        (subst (λ (m : Lit). MakesTrue (value_in (steps ++ step_of l reason ∷ [])) m) (sym e) (value-push_same steps (step_of l reason) o))
    go k t (there e said) =
        subst (λ (u : Truth). IsTruth (value_in (steps ++ step_of l reason ∷ [])) k u) said
        (subst (λ (m : Lit). MakesFalse (value_in (steps ++ step_of l reason ∷ [])) m) (sym e)
        (value-push_same steps (step_of l reason) o ∙ ap (λ (b : Bool). Some b) (sym (not-twice l.positive))))
    go k t (other ne found) =
        truth-same (value_in steps) (value_in (steps ++ step_of l reason ∷ [])) k t (value-push_other steps (step_of l reason) k.var ne) (is.same k t found)

pub trail-pop : (vars : ℕ) (ts : List Truth) (steps front : List Step) (s : Step) → IsTrail vars ts steps → steps ≡ front ++ s ∷ []
    → IsTrail vars (set (set ts (place_of s.lit) Open) (place_of (opposite s.lit)) Open) front
trail-pop vars ts steps front s is split =
    record {
      all = omega (arith, is.all, length-set (set ts (place_of s.lit) Open) (place_of (opposite s.lit)) Open, length-set ts (place_of s.lit) Open);
      same = λ k t e. go k t (two ts s.lit Open Open k t e);
      path = subst (λ (xs : List Step). IsPath record { vars = vars; steps = xs }) cut (path-take vars steps (length front) is.path);
    }
  where
    cut : take (length front) steps ≡ front
    cut = ap (λ (xs : List Step). take (length front) xs) split ∙ take_at front (s ∷ []) (length front) refl

    o : value_in front s.lit.var ≡ None
    o =
        ap (λ (xs : List Step). value_in xs s.lit.var) (sym cut)
        ∙ is.path.fresh (length front) s (ap (λ (xs : List Step). slice_get xs (length front)) split ∙ get-last front s)

    go : (k : Lit) (t : Truth) → Two ts s.lit Open Open k t → IsTruth (value_in front) k t
    go k t (here e said) =
        subst (λ (u : Truth). IsTruth (value_in front) k u) said (subst (λ (m : Lit). LeavesOpen (value_in front) m) (sym e) o)
    go k t (there e said) =
        subst (λ (u : Truth). IsTruth (value_in front) k u) said (subst (λ (m : Lit). LeavesOpen (value_in front) m) (sym e) o)
    go k t (other ne found) =
        truth-same (value_in steps) (value_in front) k t
        (sym (value-push_other front s k.var ne) ∙ ap (λ (xs : List Step). value_in xs k.var) (sym split)) (is.same k t found)
