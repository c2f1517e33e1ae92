-- A line gathered on the way down.
use Rattle.std.proofs.Common.{◌≡◌, ◌≢◌, ℕ, zero, suc, ◌+◌, ◌<◌, ◌≤◌, ◌⊎◌, Bool, Option, Some, None, List, [], ◌∷◌, ◌++◌, take, length, slice_get, refl, sym, ◌∙◌, ap, subst, inl, inr, arith}
use Rattle.std.specs.Prelude.{Contains, IfSome}
use Rattle.std.proofs.lemmas.Bool.{cases_eq}
use Rattle.std.proofs.lemmas.Option.{none-some, same_Some, slice_get_within}
use Rattle.std.proofs.lemmas.List.Elements.{All-push, Contains-push, Contains-push_cases, Contains-append_left}
use Rattle.clause_store.specs.declared.lit.Lit.{Lit}
use Rattle.clause_store.specs.Literals.{opposite}
use Rattle.clause_store.specs.UnitRule.{MakesTrue, MakesFalse, LeavesOpen}
use Rattle.clause_store.proofs.Members.{All-from_contains, All-slice_get, Contains-head, Contains-cons_cases, Contains-nil, Contains-slice_get}
use Rattle.clause_store.proofs.Rest.{open_not_true}
use Rattle.sat_trail.specs.declared.step.Step.{Step}
use Rattle.sat_trail.specs.Paths.{IsPath, IsWalk, IsDecision, value_in}
use Rattle.sat_trail.specs.Engines.{State, path_of}
use Rattle.sat_trail.proofs.Listing.{push-cases, not-twice}
use Rattle.sat_trail.proofs.Fronts.{step-true, open-before, open-front}
use Rattle.sat_core.specs.declared.analysis.Cut.{Cut}
use Rattle.sat_core.specs.declared.analysis.Jump.{Jump}
use Rattle.sat_core.specs.Marks.{IsMarkedAll}
use Rattle.sat_core.specs.Analyses.{IsForced, IsAllowed, IsUnmarked, IsCut, IsOnce, IsNameable, IsTop, IsGathered, IsLearned, IsLowered, IsKept, IsLiteralAt}
use Rattle.sat_core.proofs.Leaving.{left-skip, left-expand, left-keep, left-end}

step-known : (s : State) (p : ℕ) (step : Step) → IsPath (path_of s) → slice_get s.steps p ≡ Some step → step.lit.var < s.vars
step-known s p step path there = All-slice_get (λ (x : Step). x.lit.var < s.vars) s.steps p step path.known there

nameable : (first : List Bool) (steps : List Step) (p : ℕ) (step : Step) → slice_get steps p ≡ Some step → IsAllowed first step → IsNameable first steps step.lit.var
nameable first steps p step there (inl marked) = inl marked
nameable first steps p step there (inr none) = inr (p, record { step = step; there = there; decided = none }, refl)

only-key : (key : Lit) (k : Lit) → Contains (key ∷ []) k → k ≡ key
only-key key k listed = elim (Contains-cons_cases key [] k listed) [ inl e ↦ sym e | inr none ↦ absurd (Contains-nil k none) ]

once-one : (key : Lit) → IsOnce (key ∷ [])
once-one key zero zero a b found found' same = refl
once-one key zero (suc j) a b found found' same = absurd (none-some b found')
once-one key (suc i) j a b found found' same = absurd (none-some a found)

pub gathered-start : (s : State) (first marks : List Bool) (cut : Cut) → IsPath (path_of s) → (is : IsCut s first marks cut)
    → IsGathered s first marks cut.key cut.decision (opposite is.step.lit ∷ []) record { to = cut.decision; top = None }
gathered-start s first marks cut path is =
    record {
      step = is.step;
      there = is.there;
      keyed = Contains-head (opposite is.step.lit) [];
      known = All-from_contains (λ (l : Lit). l.var < s.vars) (opposite is.step.lit ∷ []) (λ k listed. subst (λ (l : Lit). l.var < s.vars) (sym (only-key (opposite is.step.lit) k listed)) (step-known s cut.key is.step path is.there));
      left = is.left;
      allowed = λ k listed. subst (λ (l : Lit). IsNameable first s.steps l.var) (sym (only-key (opposite is.step.lit) k listed)) (nameable first s.steps cut.key is.step is.there is.allowed);
      upto = is.upto;
      bound = omega arith;
      decided = is.decided;
      others = λ k listed differs. absurd (differs (only-key (opposite is.step.lit) k listed));
      top = (only-key (opposite is.step.lit), λ p low high decision. omega (arith, low, high));
      above = λ k listed. subst (λ (l : Lit). LeavesOpen (value_in (take cut.decision s.steps)) l) (sym (only-key (opposite is.step.lit) k listed)) (open-before s.steps cut.key cut.decision is.step path.fresh is.there is.upto);
      once = once-one (opposite is.step.lit);
    }

-- the highest literal, one place lower

top-down : (steps : List Step) (line : List Lit) (key : Lit) (at to : ℕ) (top : Option ℕ) → IsTop steps line key (at + 1) to top → at + 1 ≤ to → (top ≡ None → IsDecision steps at → ⊥) → IsTop steps line key at to top
top-down steps line key at to None is bound none = (is.0, λ p low high decision. go p low high decision (cases_eq p at))
  where
    go : (p : ℕ) → at ≤ p → p < to → IsDecision steps p → (p ≡ at) ⊎ (p ≡ at → ⊥) → ⊥
    go p low high decision (inl same) = none refl (subst (λ (n : ℕ). IsDecision steps n) same decision)
    go p low high decision (inr ne) = is.1 p (omega (arith, low, ne)) high decision
top-down steps line key at to (Some q) is bound none = (omega (arith, is.0), is.1, λ p low high decision. go p low high decision (cases_eq p at), is.3)
  where
    go : (p : ℕ) → at ≤ p → p < to → IsDecision steps p → (p ≡ at) ⊎ (p ≡ at → ⊥) → p ≤ q
    go p low high decision (inl same) = omega (arith, same, is.0)
    go p low high decision (inr ne) = is.2 p (omega (arith, low, ne)) high decision

above-down : (s : State) (line : List Lit) (at : ℕ) → ((k : Lit) → Contains line k → LeavesOpen (value_in (take (at + 1) s.steps)) k) → (k : Lit) → Contains line k → LeavesOpen (value_in (take at s.steps)) k
above-down s line at above k listed = open-front s.steps at (at + 1) k.var (omega arith) (above k listed)

pub gathered-skip : (s : State) (first marks : List Bool) (key at : ℕ) (line : List Lit) (jump next : Jump) → IsPath (path_of s) → IsGathered s first marks key (at + 1) line jump → IsUnmarked s.steps marks at
    → IsLowered s.steps at jump next → IsGathered s first marks key at line next
gathered-skip s first marks key at line jump next path is unmarked (inl down) =
    subst (λ (j : Jump). IsGathered s first marks key at line j) (sym down.0)
    record {
      step = is.step;
      there = is.there;
      keyed = is.keyed;
      known = is.known;
      left = left-skip s.clauses s.steps marks at line is.left unmarked;
      allowed = is.allowed;
      upto = omega (arith, is.upto, is.bound);
      bound = omega arith;
      decided = down.2;
      others = λ k listed differs. absurd (differs (only k listed));
      top = (only, λ p low high decision. omega (arith, low, high));
      above = above-down s line at is.above;
      once = is.once;
    }
  where
    alone : IsTop s.steps line (opposite is.step.lit) (at + 1) jump.to None
    alone = subst (λ (o : Option ℕ). IsTop s.steps line (opposite is.step.lit) (at + 1) jump.to o) down.1 is.top

    only : (k : Lit) → Contains line k → k ≡ opposite is.step.lit
    only k listed = alone.0 k listed
gathered-skip s first marks key at line jump next path is unmarked (inr stay) =
    subst (λ (j : Jump). IsGathered s first marks key at line j) (sym stay.0)
    record {
      step = is.step;
      there = is.there;
      keyed = is.keyed;
      known = is.known;
      left = left-skip s.clauses s.steps marks at line is.left unmarked;
      allowed = is.allowed;
      upto = is.upto;
      bound = omega (arith, is.bound);
      decided = is.decided;
      others = is.others;
      top = top-down s.steps line (opposite is.step.lit) at jump.to jump.top is.top is.bound stay.1;
      above = above-down s line at is.above;
      once = is.once;
    }

pub gathered-expand : (s : State) (first marks marks' : List Bool) (key at c : ℕ) (clause line : List Lit) (jump : Jump) → IsWalk s.clauses s.steps → IsGathered s first marks key (at + 1) line jump
    → IsForced s.clauses s.steps at c → slice_get s.clauses c ≡ Some clause → IsMarkedAll marks marks' clause → IsGathered s first marks' key at line jump
gathered-expand s first marks marks' key at c clause line jump walk is forced numbered more =
    record {
      step = is.step;
      there = is.there;
      keyed = is.keyed;
      known = is.known;
      left = left-expand s.clauses s.steps marks marks' at c clause line is.left walk forced numbered more;
      allowed = is.allowed;
      upto = is.upto;
      bound = omega (arith, is.bound);
      decided = is.decided;
      others = is.others;
      top =
          top-down s.steps line (opposite is.step.lit) at jump.to jump.top is.top is.bound
          (λ none decision.
          none-some c
          (sym decision.decided ∙ ap (λ (x : Step). x.reason) (same_Some decision.step forced.step (sym decision.there ∙ forced.there)) ∙ forced.reason));
      above = above-down s line at is.above;
      once = is.once;
    }

-- no variable twice, with one more whose variable is open no longer
once-push : (line : List Lit) (new : Lit) → IsOnce line → ((k : Lit) → Contains line k → k.var ≡ new.var → ⊥) → IsOnce (line ++ new ∷ [])
once-push line new is differ i j a b found found' same = go (push-cases line new i a found) (push-cases line new j b found')
  where
    go : (slice_get line i ≡ Some a) ⊎ ((i ≡ length line) × (new ≡ a)) → (slice_get line j ≡ Some b) ⊎ ((j ≡ length line) × (new ≡ b)) → i ≡ j
    go (inl old) (inl old') = is i j a b old old' same
    go (inl old) (inr last') = absurd (differ a (Contains-slice_get line i a old) (same ∙ ap (λ (l : Lit). l.var) (sym last'.1)))
    go (inr last) (inl old') = absurd (differ b (Contains-slice_get line j b old') (sym same ∙ ap (λ (l : Lit). l.var) (sym last.1)))
    go (inr last) (inr last') = last.0 ∙ sym last'.0

pub gathered-keep : (s : State) (first marks : List Bool) (key at : ℕ) (line : List Lit) (jump next : Jump) (step : Step) → IsPath (path_of s) → IsGathered s first marks key (at + 1) line jump → slice_get s.steps at ≡ Some step
    → IsAllowed first step → IsKept at jump next → IsGathered s first marks key at (line ++ opposite step.lit ∷ []) next
gathered-keep s first marks key at line jump next step path is there allowed kept =
    record {
      step = is.step;
      there = is.there;
      keyed = Contains-append_left line (opposite step.lit ∷ []) (opposite is.step.lit) is.keyed;
      known = All-push (λ (l : Lit). l.var < s.vars) line (opposite step.lit) is.known (step-known s at step path there);
      left = left-keep s.clauses s.steps marks at line step is.left there;
      allowed = λ k listed. which k (Contains-push_cases line (opposite step.lit) k listed);
      upto = subst (λ (n : ℕ). n ≤ key) (sym same_to) is.upto;
      bound = subst (λ (n : ℕ). at ≤ n) (sym same_to) (omega (arith, is.bound));
      decided = subst (λ (n : ℕ). IsDecision s.steps n) (sym same_to) is.decided;
      others = λ k listed differs.
          subst (λ (n : ℕ). MakesFalse (value_in (take n s.steps)) k) (sym same_to) (falsified k (Contains-push_cases line (opposite step.lit) k listed) differs);
      top = top kept;
      above = λ k listed. higher k (Contains-push_cases line (opposite step.lit) k listed);
      once = once-push line (opposite step.lit) is.once apart;
    }
  where
    same_to : next.to ≡ jump.to
    same_to = elim kept [ inl new ↦ ap (λ (j : Jump). j.to) new.1 | inr old ↦ ap (λ (j : Jump). j.to) old.2 ]

    holds : (n : ℕ) → at < n → MakesTrue (value_in (take n s.steps)) step.lit
    holds n below = step-true s.steps at n step path.fresh there below

    turned : (n : ℕ) → at < n → MakesFalse (value_in (take n s.steps)) (opposite step.lit)
    turned n below = holds n below ∙ ap (λ (b : Bool). Some b) (sym (not-twice step.lit.positive))

    which : (k : Lit) → Contains line k ⊎ (opposite step.lit ≡ k) → IsNameable first s.steps k.var
    which k (inl old) = is.allowed k old
    which k (inr e) = subst (λ (l : Lit). IsNameable first s.steps l.var) e (nameable first s.steps at step there allowed)

    falsified : (k : Lit) → Contains line k ⊎ (opposite step.lit ≡ k) → k ≢ opposite is.step.lit → MakesFalse (value_in (take jump.to s.steps)) k
    falsified k (inl old) differs = is.others k old differs
    falsified k (inr e) differs = subst (λ (l : Lit). MakesFalse (value_in (take jump.to s.steps)) l) e (turned jump.to (omega (arith, is.bound)))

    higher : (k : Lit) → Contains line k ⊎ (opposite step.lit ≡ k) → LeavesOpen (value_in (take at s.steps)) k
    higher k (inl old) = above-down s line at is.above k old
    higher k (inr e) = subst (λ (l : Lit). LeavesOpen (value_in (take at s.steps)) l) e (open-before s.steps at at step path.fresh there (omega arith))

    apart : (k : Lit) → Contains line k → k.var ≡ (opposite step.lit).var → ⊥
    apart k listed e = none-some step.lit.positive (sym (is.above k listed) ∙ ap (λ (x : ℕ). value_in (take (at + 1) s.steps) x) e ∙ holds (at + 1) (omega arith))

    pushed : Contains (line ++ opposite step.lit ∷ []) (opposite step.lit)
    pushed = Contains-push line (opposite step.lit)

    made : (x : Step) → slice_get s.steps at ≡ Some x → Contains (line ++ opposite step.lit ∷ []) (opposite x.lit)
    made x found = subst (λ (y : Step). Contains (line ++ opposite step.lit ∷ []) (opposite y.lit)) (same_Some step x (sym there ∙ found)) pushed

    first_other : (old : IsTop s.steps line (opposite is.step.lit) (at + 1) jump.to None) → IsTop s.steps (line ++ opposite step.lit ∷ []) (opposite is.step.lit) at jump.to (Some at)
    first_other old = (omega arith, omega (arith, is.bound), λ p low high decision. go p low high decision (cases_eq p at), made)
      where
        go : (p : ℕ) → at ≤ p → p < jump.to → IsDecision s.steps p → (p ≡ at) ⊎ (p ≡ at → ⊥) → p ≤ at
        go p low high decision (inl same) = omega (arith, same)
        go p low high decision (inr ne) = absurd (old.1 p (omega (arith, low, ne)) high decision)

    later_other : (q : ℕ) → (old : IsTop s.steps line (opposite is.step.lit) (at + 1) jump.to (Some q)) → IsTop s.steps (line ++ opposite step.lit ∷ []) (opposite is.step.lit) at jump.to (Some q)
    later_other q old =
        (omega (arith, old.0), old.1, λ p low high decision. go p low high decision (cases_eq p at), λ x found. Contains-append_left line (opposite step.lit ∷ []) (opposite x.lit) (old.3 x found))
      where
        go : (p : ℕ) → at ≤ p → p < jump.to → IsDecision s.steps p → (p ≡ at) ⊎ (p ≡ at → ⊥) → p ≤ q
        go p low high decision (inl same) = omega (arith, same, old.0)
        go p low high decision (inr ne) = old.2 p (omega (arith, low, ne)) high decision

    at_jump : (o : Option ℕ) → jump.top ≡ o → IsTop s.steps line (opposite is.step.lit) (at + 1) jump.to o
    at_jump o e = subst (λ (p : Option ℕ). IsTop s.steps line (opposite is.step.lit) (at + 1) jump.to p) e is.top

    along : (j : Jump) → next ≡ j → IsTop s.steps (line ++ opposite step.lit ∷ []) (opposite is.step.lit) at j.to j.top → IsTop s.steps (line ++ opposite step.lit ∷ []) (opposite is.step.lit) at next.to next.top
    along j e is' = subst (λ (i : Jump). IsTop s.steps (line ++ opposite step.lit ∷ []) (opposite is.step.lit) at i.to i.top) (sym e) is'

    top : IsKept at jump next → IsTop s.steps (line ++ opposite step.lit ∷ []) (opposite is.step.lit) at next.to next.top
    top (inl new) = along record { to = jump.to; top = Some at } new.1 (first_other (at_jump None new.0))
    top (inr old) =
        along jump old.2
        (subst (λ (o : Option ℕ). IsTop s.steps (line ++ opposite step.lit ∷ []) (opposite is.step.lit) at jump.to o) (sym old.1) (later_other old.0 (at_jump (Some old.0) old.1)))

pub gathered-learned : (s : State) (first marks : List Bool) (key : ℕ) (line : List Lit) (jump : Jump) (lit second : Lit) → IsPath (path_of s) → (is : IsGathered s first marks key 0 line jump) → lit ≡ opposite is.step.lit
    → IsLiteralAt s.steps lit jump.top second → IsLearned s first line lit second jump.to
gathered-learned s first marks key line jump lit second path is e at =
    record {
      known = is.known;
      follows = left-end s.clauses s.steps marks line is.left;
      allowed = is.allowed;
      once = is.once;
      decided = is.decided;
      key_listed = subst (λ (l : Lit). Contains line l) (sym e) is.keyed;
      second_listed = (rest jump.top refl at).0;
      key_open = key_open jump.to is.upto;
      others = λ k listed differs. is.others k listed (λ same. differs (same ∙ sym e));
      alone = (rest jump.top refl at).1;
      held = (rest jump.top refl at).2;
    }
  where
    key_open : (n : ℕ) → n ≤ key → LeavesOpen (value_in (take n s.steps)) lit
    key_open n le = subst (λ (l : Lit). LeavesOpen (value_in (take n s.steps)) l) (sym e) (open-before s.steps key n is.step path.fresh is.there le)

    rest : (top : Option ℕ) → jump.top ≡ top → IsLiteralAt s.steps lit top second
        → Contains line second × (lit ≡ second → (k : Lit) → Contains line k → k ≡ lit) × ((p : ℕ) → p < jump.to → IsDecision s.steps p → (lit ≢ second) × LeavesOpen (value_in (take p s.steps)) second)
    rest None none same =
        let top : IsTop s.steps line (opposite is.step.lit) 0 jump.to None = subst (λ (o : Option ℕ). IsTop s.steps line (opposite is.step.lit) 0 jump.to o) none is.top in
        (subst (λ (l : Lit). Contains line l) (sym (same ∙ e)) is.keyed, λ alone k listed. top.0 k listed ∙ sym e, λ p below decision. absurd (top.1 p (omega arith) below decision))
    rest (Some q) some other =
        let top : IsTop s.steps line (opposite is.step.lit) 0 jump.to (Some q) = subst (λ (o : Option ℕ). IsTop s.steps line (opposite is.step.lit) 0 jump.to o) some is.top in (
          subst (λ (l : Lit). Contains line l) (sym other.2) (top.3 other.0 other.1),
          λ alone k listed. absurd (apart q other top.1 alone),
          λ p below decision. (
            apart q other top.1,
            subst (λ (l : Lit). LeavesOpen (value_in (take p s.steps)) l) (sym other.2) (open-before s.steps q p other.0 path.fresh other.1 (top.2 p (omega arith) below decision)),
          ),
        )
      where
        apart : (q : ℕ) → (o : IsLiteralAt s.steps lit (Some q) second) → q < jump.to → lit ≢ second
        apart q o below same =
            open_not_true (value_in (take jump.to s.steps)) o.0.lit
            (ap (λ (x : ℕ). value_in (take jump.to s.steps) x) (sym (ap (λ (l : Lit). l.var) (same ∙ o.2))) ∙ key_open jump.to is.upto)
            (step-true s.steps q jump.to o.0 path.fresh o.1 below)

-- the highest literal's step is there
pub top-within : (s : State) (first marks : List Bool) (key low : ℕ) (line : List Lit) (jump : Jump) → IsGathered s first marks key low line jump → IfSome jump.top (λ at. at < length s.steps)
top-within s first marks key low line jump is = go jump.top is.top
  where
    go : (top : Option ℕ) → IsTop s.steps line (opposite is.step.lit) low jump.to top → IfSome top (λ at. at < length s.steps)
    go None t = tt
    go (Some q) t = omega (arith, t.1, is.upto, slice_get_within s.steps key is.step is.there)
