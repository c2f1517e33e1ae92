-- What holds while a line's literals are made false.
use Rattle.std.proofs.Common.{◌≡◌, ℕ, ◌+◌, ◌<◌, ◌≤◌, ◌⊎◌, Bool, true, false, not, Option, Some, None, List, [], ◌∷◌, ◌++◌, take, length, get_or, slice_get, refl, sym, ◌∙◌, ap, subst, inl, inr, arith}
use Rattle.std.specs.Prelude.{All, Contains, is_some}
use Rattle.std.proofs.lemmas.Bool.{cases_eq, false≢true}
use Rattle.std.proofs.lemmas.Option.{same_Some, slice_get_within, get_or_from_slice_get}
use Rattle.std.proofs.lemmas.List.{append_assoc, append-nil, take_at}
use Rattle.std.proofs.lemmas.List.Elements.{All-contains}
use Rattle.clause_store.specs.declared.lit.Lit.{Lit}
use Rattle.clause_store.specs.Literals.{opposite}
use Rattle.clause_store.specs.UnitRule.{Partial, MakesTrue, MakesFalse, LeavesOpen, IsAtRest, AllAtRest, Follows}
use Rattle.clause_store.proofs.Members.{All-from_contains, All-slice_get, Contains-slice_get}
use Rattle.clause_store.proofs.Rest.{true_not_false, rest-not_false}
use Rattle.sat_trail.specs.declared.step.Step.{Step}
use Rattle.sat_trail.specs.Paths.{IsWalk, IsDecision, value_in, step_of}
use Rattle.sat_trail.specs.Visits.{IsFalseClause}
use Rattle.sat_trail.specs.Engines.{State, IsSettled, IsPropagated, with_decision, with_front}
use Rattle.sat_trail.proofs.Listing.{push-cases, get-append, get-last, get-within, not-twice}
use Rattle.sat_trail.proofs.Fronts.{value-append, value-push_same}
use Rattle.sat_trail.proofs.Running.{walk-values}
use Rattle.clause_check.specs.Bases.{IsCalm}
use Rattle.clause_check.specs.Trials.{IsOutcome, IsAbove, IsAssumed, AssumesLine, IsAssuming, IsTried, IsTakenBack}

-- Where the line is false and the rule has nothing to do, all is so that the steps say.
tried-values : (s : State) (line : List Lit) (v : Partial) → IsWalk s.clauses s.steps → AssumesLine s.steps line → All (MakesFalse v) line → AllAtRest v s.clauses
    → (x : ℕ) (b : Bool) → value_in s.steps x ≡ Some b → v x ≡ Some b
tried-values s line v walk assumes falsified rest x b e = walk-values s.clauses s.steps v walk rest decided x b e
  where
    decided : (p : ℕ) (d : Step) → slice_get s.steps p ≡ Some d → d.reason ≡ None → MakesTrue v d.lit
    decided p d found none =
        All-contains (MakesFalse v) line (opposite d.lit) falsified (assumes p d found none) ∙ ap (λ (c : Bool). Some c) (not-twice d.lit.positive)

-- A line follows if its literals can't all be false: a clause would be false, or a literal of the line true.
closed-clash : (s : State) (line : List Lit) (c : ℕ) → IsWalk s.clauses s.steps → AssumesLine s.steps line → IsFalseClause s.clauses (value_in s.steps) c → Follows s.clauses line
closed-clash s line c walk assumes clash v falsified rest =
    rest-not_false v clash.clause (All-slice_get (IsAtRest v) s.clauses c clash.clause rest clash.found)
    (All-from_contains (MakesFalse v) clash.clause
    (λ k listed.
    tried-values s line v walk assumes falsified rest k.var (not k.positive) (All-contains (MakesFalse (value_in s.steps)) clash.clause k clash.is_false listed)))

closed-true : (s : State) (line : List Lit) (l : Lit) → IsWalk s.clauses s.steps → AssumesLine s.steps line → Contains line l → MakesTrue (value_in s.steps) l → Follows s.clauses line
closed-true s line l walk assumes listed holds v falsified rest =
    true_not_false v l (tried-values s line v walk assumes falsified rest l.var l.positive holds) (All-contains (MakesFalse v) line l falsified listed)

closed-follows : (s : State) (line : List Lit) (l : Lit) → IsWalk s.clauses s.steps → AssumesLine s.steps line → Contains line l → IsOutcome s l true → Follows s.clauses line
closed-follows s line l walk assumes listed (inl holds) = closed-true s line l walk assumes listed holds
closed-follows s line l walk assumes listed (inr clash) = closed-clash s line clash.0 walk assumes clash.1

-- one literal

above-same : (s : State) → IsAbove s s
above-same s = record { same_vars = refl; same_clauses = refl; more = []; grown = sym (append-nil s.steps); assumed = inl refl }

pub assumed-false : (s : State) (l : Lit) → IsSettled s None → MakesFalse (value_in s.steps) l → IsAssumed s l s false
assumed-false s l settled falsified = record { above = above-same s; decisions = λ p d found none. inl found; outcome = (settled, falsified) }

pub assumed-true : (s : State) (l : Lit) → MakesTrue (value_in s.steps) l → IsAssumed s l s true
assumed-true s l holds = record { above = above-same s; decisions = λ p d found none. inl found; outcome = inl holds }

pub assumed-open : (s decided t : State) (l : Lit) (clash : Option ℕ) → LeavesOpen (value_in s.steps) l → decided ≡ with_decision s (opposite l) → IsPropagated decided t clash → IsAssumed s l t (is_some clash)
assumed-open s decided t l clash o made ran = under (subst (λ (d : State). IsPropagated d t clash) made ran)
  where
    under : IsPropagated (with_decision s (opposite l)) t clash → IsAssumed s l t (is_some clash)
    under is =
        record {
          above =
              record {
                same_vars = is.same_vars;
                same_clauses = is.same_clauses;
                more = step_of (opposite l) None ∷ is.grown.more;
                grown = is.grown.grown ∙ append_assoc s.steps (step_of (opposite l) None ∷ []) is.grown.more;
                assumed = inr record { step = step_of (opposite l) None; there = first; decided = refl };
              };
          decisions = λ p d found none. before p d (push-cases s.steps (step_of (opposite l) None) p d (is.grown.forced p d found none));
          outcome = outcome clash is.settled;
        }
      where
        first : slice_get t.steps (length s.steps) ≡ Some (step_of (opposite l) None)
        first =
            subst (λ (xs : List Step). slice_get xs (length s.steps) ≡ Some (step_of (opposite l) None)) (sym is.grown.grown)
            (get-append (s.steps ++ step_of (opposite l) None ∷ []) is.grown.more (length s.steps) (step_of (opposite l) None) (get-last s.steps (step_of (opposite l) None)))

        before : (p : ℕ) (d : Step) → (slice_get s.steps p ≡ Some d) ⊎ ((p ≡ length s.steps) × (step_of (opposite l) None ≡ d)) → (slice_get s.steps p ≡ Some d) ⊎ (d.lit ≡ opposite l)
        before p d (inl found) = inl found
        before p d (inr last) = inr (ap (λ (x : Step). x.lit) (sym last.1))

        falsified : MakesFalse (value_in t.steps) l
        falsified =
            subst (λ (xs : List Step). MakesFalse (value_in xs) l) (sym is.grown.grown)
            (value-append (s.steps ++ step_of (opposite l) None ∷ []) is.grown.more l.var (not l.positive) (value-push_same s.steps (step_of (opposite l) None) o))

        outcome : (c : Option ℕ) → IsSettled t c → IsOutcome t l (is_some c)
        outcome None settled = (settled, falsified)
        outcome (Some c) clash' = inr (c, clash')

-- one literal more

above-more : (s t u : State) → IsAbove s t → IsAbove t u → IsAbove s u
above-more s t u first second =
    record {
      same_vars = second.same_vars ∙ first.same_vars;
      same_clauses = second.same_clauses ∙ first.same_clauses;
      more = first.more ++ second.more;
      grown = second.grown ∙ ap (λ (xs : List Step). xs ++ second.more) first.grown ∙ append_assoc s.steps first.more second.more;
      assumed = go first.assumed second.assumed;
    }
  where
    go : (t ≡ s) ⊎ IsDecision t.steps (length s.steps) → (u ≡ t) ⊎ IsDecision u.steps (length t.steps) → (u ≡ s) ⊎ IsDecision u.steps (length s.steps)
    go (inl e) (inl e') = inl (e' ∙ e)
    go (inl e) (inr d) = inr (subst (λ (x : State). IsDecision u.steps (length x.steps)) e d)
    go (inr d) _ =
        inr
        record {
          step = d.step;
          there =
              subst (λ (xs : List Step). slice_get xs (length s.steps) ≡ Some d.step) (sym second.grown)
              (get-append t.steps second.more (length s.steps) d.step d.there);
          decided = d.decided;
        }

assumes-more : (t u : State) (line : List Lit) (l : Lit) (closed : Bool) → AssumesLine t.steps line → Contains line l → IsAssumed t l u closed → AssumesLine u.steps line
assumes-more t u line l closed assumes listed is p s found none = go (is.decisions p s found none)
  where
    go : (slice_get t.steps p ≡ Some s) ⊎ (s.lit ≡ opposite l) → Contains line (opposite s.lit)
    go (inl old) = assumes p s old none
    go (inr e) = subst (λ (k : Lit). Contains line k) (sym (ap (λ (k : Lit). opposite k) e ∙ twice)) listed
      where
        make : Bool → Lit
        make b = record { var = l.var; positive = b }

        twice : opposite (opposite l) ≡ l
        twice = ap make (not-twice l.positive)

pub assuming-start : (s : State) (line : List Lit) → IsCalm s → IsAssuming s line 0 s
assuming-start s line calm =
    record {
      above = above-same s;
      assumes = λ p d found none. absurd (calm.forced p record { step = d; there = found; decided = none });
      settled = calm.settled;
      falsified = λ i k below. absurd (omega (arith, below));
    }

pub assuming-more : (s t u : State) (line : List Lit) (at : ℕ) (l : Lit) → IsAssuming s line at t → slice_get line at ≡ Some l → IsAssumed t l u false → IsAssuming s line (at + 1) u
assuming-more s t u line at l before here is =
    record {
      above = above-more s t u before.above is.above;
      assumes = assumes-more t u line l false before.assumes (Contains-slice_get line at l here) is;
      settled = is.outcome.0;
      falsified = λ i k below found. go i k below found (cases_eq i at);
    }
  where
    go : (i : ℕ) (k : Lit) → i < at + 1 → slice_get line i ≡ Some k → (i ≡ at) ⊎ (i ≡ at → ⊥) → MakesFalse (value_in u.steps) k
    go i k below found (inl same) =
        let one : l ≡ k = same_Some l k (sym here ∙ ap (λ (n : ℕ). slice_get line n) (sym same) ∙ found) in
        subst (λ (x : Lit). MakesFalse (value_in u.steps) x) one is.outcome.1
    go i k below found (inr ne) =
        subst (λ (xs : List Step). MakesFalse (value_in xs) k) (sym is.above.grown)
        (value-append t.steps is.above.more k.var (not k.positive) (before.falsified i k (omega (arith, below, ne)) found))

pub assuming-closed : (s t u : State) (line : List Lit) (at : ℕ) (l : Lit) → IsAssuming s line at t → slice_get line at ≡ Some l → IsAssumed t l u true → IsWalk u.clauses u.steps → IsTried s line u true
assuming-closed s t u line at l before here is walk =
    record {
      above = above;
      exact = (
        λ good. subst (λ (cs : List (List Lit)). Follows cs line) above.same_clauses
            (closed-follows u line l walk (assumes-more t u line l true before.assumes listed is) listed is.outcome),
        λ follows. refl,
      );
    }
  where
    listed : Contains line l
    listed = Contains-slice_get line at l here

    above : IsAbove s u
    above = above-more s t u before.above is.above

pub assuming-end : (s t : State) (line : List Lit) (at : ℕ) → IsAssuming s line at t → length line ≤ at → IsTried s line t false
assuming-end s t line at is done =
    record { above = is.above; exact = (λ e. absurd (false≢true e), λ follows. absurd (follows (value_in t.steps) falsified rest)) }
  where
    falsified : All (MakesFalse (value_in t.steps)) line
    falsified k d below = each k d below (get-within line k below)
      where
        each : (k : ℕ) (d : Lit) → k < length line → (l : Lit) × (slice_get line k ≡ Some l) → MakesFalse (value_in t.steps) (get_or line k d)
        each k d below found =
            subst (λ (x : Lit). MakesFalse (value_in t.steps) x) (sym (get_or_from_slice_get line k found.0 d found.1)) (is.falsified k found.0 (omega (arith, below, done)) found.1)

    rest : AllAtRest (value_in t.steps) s.clauses
    rest = subst (λ (cs : List (List Lit)). AllAtRest (value_in t.steps) cs) is.above.same_clauses is.settled.1

-- back

pub can-take_back : (s t : State) → IsAbove s t → (length t.steps ≤ length s.steps) ⊎ IsDecision t.steps (length s.steps)
can-take_back s t is = go is.assumed
  where
    go : (t ≡ s) ⊎ IsDecision t.steps (length s.steps) → (length t.steps ≤ length s.steps) ⊎ IsDecision t.steps (length s.steps)
    go (inl e) = inl (omega (arith, ap (λ (x : State). length x.steps) e))
    go (inr d) = inr d

pub taken_back : (s t u : State) → IsCalm s → IsAbove s t → IsTakenBack t (length s.steps) u → u ≡ s
taken_back s t u calm is back = go is.assumed
  where
    make : ℕ → List (List Lit) → List Step → ℕ → State
    make vars clauses steps next = record { vars = vars; clauses = clauses; steps = steps; next = next }

    front : take (length s.steps) t.steps ≡ s.steps
    front = ap (λ (xs : List Step). take (length s.steps) xs) is.grown ∙ take_at s.steps is.more (length s.steps) refl

    same : with_front t (length s.steps) ≡ s
    same =
        ap (λ (n : ℕ). make n t.clauses (take (length s.steps) t.steps) (length s.steps)) is.same_vars
        ∙ ap (λ (cs : List (List Lit)). make s.vars cs (take (length s.steps) t.steps) (length s.steps)) is.same_clauses
        ∙ ap (λ (xs : List Step). make s.vars s.clauses xs (length s.steps)) front
        ∙ ap (λ (n : ℕ). make s.vars s.clauses s.steps n) (sym calm.settled.0)

    go : (t ≡ s) ⊎ IsDecision t.steps (length s.steps) → u ≡ s
    go (inl e) = back.kept (omega (arith, ap (λ (x : State). length x.steps) e)) ∙ e
    go (inr d) = back.longer (slice_get_within t.steps (length s.steps) d.step d.there) ∙ same

pub decision-within : (t : State) (to : ℕ) → (length t.steps ≤ to) ⊎ IsDecision t.steps to → to < length t.steps → IsDecision t.steps to
decision-within t to (inl le) below = absurd (omega (arith, le, below))
decision-within t to (inr d) below = d
