-- What holds of the search from line to line.
use Rattle.std.proofs.Common.{◌≡◌, ◌≢◌, ℕ, ◌+◌, ◌<◌, ◌≤◌, ◌⊎◌, Bool, true, false, not, cond, Option, Some, None, List, [], ◌∷◌, ◌++◌, take, length, slice_get, refl, sym, ◌∙◌, ap, subst, inl, inr, arith}
use Rattle.std.specs.Prelude.{All, Contains, is_some}
use Rattle.std.proofs.lemmas.Bool.{false≢true}
use Rattle.std.proofs.lemmas.Option.{none-some, slice_get_within, get_or_from_slice_get}
use Rattle.std.proofs.lemmas.List.{take-take, take-append-le, take_at, length-append, append_assoc}
use Rattle.std.proofs.lemmas.List.Elements.{All-contains, All-nil, All-push, Contains-append_right}
use Rattle.clause_store.specs.declared.lit.Lit.{Lit}
use Rattle.clause_store.specs.Literals.{IsTrueUnder, Satisfies}
use Rattle.clause_store.specs.Formula.{Formula, IsKnown, AllKnown}
use Rattle.clause_store.specs.UnitRule.{MakesTrue, LeavesOpen, IsAtRest, AllAtRest, Follows}
use Rattle.clause_store.proofs.Members.{All-from_contains, All-left}
use Rattle.clause_store.proofs.Rest.{true_not_false, open_not_true, open_not_false}
use Rattle.clause_store.proofs.StepLemmas.{lit_eq_cases}
use Rattle.sat_trail.specs.declared.step.Step.{Step}
use Rattle.sat_trail.specs.Paths.{IsPath, IsWhy, IsWalk, IsDecision, value_in, step_of}
use Rattle.sat_trail.specs.Engines.{State, CanOpen, CanUnit, IsFirst, IsLoaded, IsPropagated, IsSettled, path_of, with_decision, with_front, with_line, with_unit}
use Rattle.sat_trail.proofs.Listing.{push-cases, get-take, get-last, get-within}
use Rattle.sat_trail.proofs.Fronts.{open-front}
use Rattle.sat_core.specs.Analyses.{IsLearned, IsNameable}
use Rattle.sat_core.specs.Lines.{HasKey, HasAll, KeysDiffer, FirstDecide, IsNewLine, AreLines, NoneEmpty, EndsEmpty, value_at}
use Rattle.sat_core.specs.Searching.{MarksFirst, FirstDecided, IsPicked, IsDescent, IsDescended, IsBottom, IsModel, IsBack, IsSoFar}

-- At the values of a line's key a clause whose literals the line has all has no true literal and at most one open one.
pub keys_differ : KeysDiffer
keys_differ clauses line clause has listed all = go (All-contains (IsAtRest has.values) clauses clause has.rests listed)
  where
    open' : (k : Lit) → Contains clause k → LeavesOpen has.values k → k ≡ has.key
    open' k at o = elim (lit_eq_cases k has.key) [ inl e ↦ e | inr differs ↦ absurd (open_not_false has.values k o (has.others k (all k at) differs)) ]

    not_true : (k : Lit) → Contains clause k → MakesTrue has.values k → (k ≡ has.key) ⊎ (k ≢ has.key) → ⊥
    not_true k at holds (inl e) = open_not_true has.values k (subst (λ (l : Lit). LeavesOpen has.values l) (sym e) has.key_open) holds
    not_true k at holds (inr differs) = true_not_false has.values k holds (has.others k (all k at) differs)

    go : IsAtRest has.values clause → ⊥
    go (inl some) = not_true some.1 (some.0, some.2, some.3) some.4 (lit_eq_cases some.1 has.key)
    go (inr two) = two.differ (open' two.one two.one_listed two.one_open ∙ sym (open' two.other two.other_listed two.other_open))

-- the line that was learned is one of a derivation

pub new-line : (s : State) (marks : List Bool) (base before : List (List Lit)) (first : List ℕ) (vars : ℕ) (line : List Lit) (key second : Lit) (to : ℕ) → IsLearned s marks line key second to → IsDescent vars base first before s
    → MarksFirst marks first → IsWalk s.clauses s.steps → IsNewLine vars base before first line
new-line s marks base before first vars line key second to learned descent sound walk =
    record {
      known = subst (λ (n : ℕ). IsKnown n line) descent.same_vars learned.known;
      follows = subst (λ (cs : List (List Lit)). Follows cs line) descent.holds learned.follows;
      key = inr has;
      over = λ decide k listed. named (learned.allowed k listed) (descent.over decide);
      once = learned.once;
      new = λ older listed all. keys_differ (base ++ before) line older has (Contains-append_right base before older listed) all;
    }
  where
    rests : AllAtRest (value_in (take to s.steps)) s.clauses
    rests = subst (λ (r : Option ℕ). IsWhy s.clauses (value_in (take to s.steps)) learned.decided.step.lit r) learned.decided.decided (walk.why to learned.decided.step learned.decided.there)

    has : HasKey (base ++ before) line
    has =
        record {
          key = key;
          listed = learned.key_listed;
          values = value_in (take to s.steps);
          rests = subst (λ (cs : List (List Lit)). AllAtRest (value_in (take to s.steps)) cs) descent.holds rests;
          key_open = learned.key_open;
          others = learned.others;
        }

    named : {x : ℕ} → IsNameable marks s.steps x → ((p : ℕ) (d : Step) → slice_get s.steps p ≡ Some d → d.reason ≡ None → Contains first d.lit.var) → Contains first x
    named {x = x} (inl marked) decided = sound x marked
    named {x = x} (inr d) decided = subst (λ (y : ℕ). Contains first y) d.2 (decided d.0 d.1.step d.1.there d.1.decided)

pub lines-push : (vars : ℕ) (base before : List (List Lit)) (first : List ℕ) (line : List Lit) → AreLines vars base first before → IsNewLine vars base before first line → AreLines vars base first (before ++ line ∷ [])
lines-push vars base before first line are new i other found = go (push-cases before line i other found)
  where
    along : (front : List (List Lit)) → take i (before ++ line ∷ []) ≡ front → IsNewLine vars base front first other → IsNewLine vars base (take i (before ++ line ∷ [])) first other
    along front e is = subst (λ (xs : List (List Lit)). IsNewLine vars base xs first other) (sym e) is

    go : (slice_get before i ≡ Some other) ⊎ ((i ≡ length before) × (line ≡ other)) → IsNewLine vars base (take i (before ++ line ∷ [])) first other
    go (inl old) =
        let within : i < length before = slice_get_within before i other old in
        along (take i before) (take-append-le i before (line ∷ []) (omega arith)) (are i other old)
    go (inr last) =
        along before (take_at before (line ∷ []) i (sym last.0)) (subst (λ (l : List Lit). IsNewLine vars base before first l) last.1 new)

pub line-not_empty : (line : List Lit) (key : Lit) → Contains line key → line ≢ []
line-not_empty line key listed e = absurd (omega (arith, listed.1, ap (λ (xs : List Lit). length xs) e))

pub none-push : (before : List (List Lit)) (line : List Lit) → NoneEmpty before → line ≢ [] → NoneEmpty (before ++ line ∷ [])
none-push before line none new = All-push (λ (l : List Lit). l ≢ []) before line none new

pub empty-line : (vars : ℕ) (base before : List (List Lit)) (first : List ℕ) → Follows (base ++ before) [] → NoneEmpty before → IsNewLine vars base before first []
empty-line vars base before first follows none =
    record {
      known = All-nil (λ (l : Lit). l.var < vars);
      follows = follows;
      key = inl refl;
      over = λ decide k listed. absurd (omega (arith, listed.1));
      once = λ i j a b found found' same. absurd (none-some a found);
      new = λ older listed all. All-contains (λ (l : List Lit). l ≢ []) before older none listed (nothing older all);
    }
  where
    nothing : (older : List Lit) → HasAll [] older → older ≡ []
    nothing [] all = refl
    nothing (l ∷ older) all = absurd (omega (arith, (all l (0, omega arith, refl)).1))

pub closed-lines : (f : Formula) (first : List ℕ) (budget : ℕ) (before : List (List Lit)) → IsSoFar f first budget before → Follows (f.clauses ++ before) []
    → AreLines f.vars f.clauses first (before ++ [] ∷ []) × EndsEmpty (before ++ [] ∷ [])
closed-lines f first budget before is follows =
    (lines-push f.vars f.clauses before first [] is.lines (empty-line f.vars f.clauses before first follows is.none_empty), ends)
  where
    ends : EndsEmpty (before ++ [] ∷ [])
    ends = subst (λ (n : ℕ). slice_get (before ++ [] ∷ []) n ≡ Some []) (omega (arith, length-append before ([] ∷ []))) (get-last before [])

-- where all is decided and at rest, the steps' values satisfy the clauses
pub model-satisfies : (f : Formula) (s : State) (first : List ℕ) (so_far : List (List Lit)) (values : List Bool) → AllKnown f → IsDescent f.vars f.clauses first so_far s → IsBottom s None → IsModel s values
    → (length values ≡ f.vars) × Satisfies (value_at values) f.clauses
model-satisfies f s first so_far values known descent bottom model = (
  model.0 ∙ descent.same_vars,
  All-from_contains (IsTrueUnder (value_at values)) f.clauses
      (λ clause listed. go clause (All-contains (IsKnown f.vars) f.clauses clause known listed) (All-contains (IsAtRest (value_in s.steps)) f.clauses clause rests listed)),
)
  where
    rests : AllAtRest (value_in s.steps) f.clauses
    rests = All-left (IsAtRest (value_in s.steps)) f.clauses so_far (subst (λ (cs : List (List Lit)). AllAtRest (value_in s.steps) cs) descent.holds (bottom.0).1)

    below : (x : ℕ) → x < f.vars → x < s.vars
    below x h = subst (λ (n : ℕ). x < n) (sym descent.same_vars) h

    value : (p b : Bool) → b ≡ p → cond p b (not b) ≡ true
    value true b e = e
    value false b e = ap (λ (c : Bool). not c) e

    go : (clause : List Lit) → IsKnown f.vars clause → IsAtRest (value_in s.steps) clause → IsTrueUnder (value_at values) clause
    go clause within (inl some) =
        let in_range : some.1.var < s.vars = below some.1.var (All-contains (λ (l : Lit). l.var < f.vars) clause some.1 within (some.0, some.2, some.3)) in
        (some.0, some.1, some.2, some.3, value some.1.positive (value_at values some.1.var) (model.1 some.1.var some.1.positive in_range some.4))
    go clause within (inr two) =
        let in_range : two.one.var < s.vars = below two.one.var (All-contains (λ (l : Lit). l.var < f.vars) clause two.one within two.one_listed) in
        absurd (false≢true (ap (λ (o : Option Bool). is_some o) (sym two.one_open) ∙ bottom.1 two.one.var in_range))

-- decisions

pub descent-first : (vars : ℕ) (base so_far : List (List Lit)) (first : List ℕ) (s : State) → IsFirst vars (base ++ so_far) s → IsDescent vars base first so_far s
descent-first vars base so_far first s is =
    record { same_vars = is.same_vars; holds = is.same_clauses; over = λ decide p step found none. absurd (is.forced p record { step = step; there = found; decided = none }) }

pub descent-propagated : (vars : ℕ) (base so_far : List (List Lit)) (first : List ℕ) (s t : State) (clash : Option ℕ) → IsDescent vars base first so_far s → IsPropagated s t clash → IsDescent vars base first so_far t
descent-propagated vars base so_far first s t clash is more =
    record {
      same_vars = more.same_vars ∙ is.same_vars;
      holds = more.same_clauses ∙ is.holds;
      over = λ decide p step found none. is.over decide p step (more.grown.forced p step found none) none;
    }

-- the literal decided is of the list, where the list's variables decide all
pub descent-decided : (vars : ℕ) (base so_far : List (List Lit)) (first : List ℕ) (s t : State) (l : Lit) → IsDescent vars base first so_far s → IsSettled s None → IsPicked s first (Some l) → t ≡ with_decision s l → IsDescent vars base first so_far t
descent-decided vars base so_far first s t l is settled picked made =
    subst (λ (u : State). IsDescent vars base first so_far u) (sym made)
    record {
      same_vars = is.same_vars;
      holds = is.holds;
      over = λ decide p step found none. go decide p step none (push-cases s.steps (step_of l None) p step found);
    }
  where
    rests : AllAtRest (value_in s.steps) base
    rests = All-left (IsAtRest (value_in s.steps)) base so_far (subst (λ (cs : List (List Lit)). AllAtRest (value_in s.steps) cs) is.holds settled.1)

    listed : FirstDecide vars base first → Contains first l.var ⊎ FirstDecided s.steps first → Contains first l.var
    listed decide (inl at) = at
    listed decide (inr all) =
        let known : l.var < vars = subst (λ (n : ℕ). l.var < n) is.same_vars picked.0 in
        absurd (false≢true (ap (λ (o : Option Bool). is_some o) (sym picked.1) ∙ decide l known (value_in s.steps) rests all))

    go : FirstDecide vars base first → (p : ℕ) (step : Step) → step.reason ≡ None → (slice_get s.steps p ≡ Some step) ⊎ ((p ≡ length s.steps) × (step_of l None ≡ step)) → Contains first step.lit.var
    go decide p step none (inl old) = is.over decide p step old none
    go decide p step none (inr last) = subst (λ (x : Step). Contains first x.lit.var) last.1 (listed decide picked.2)

pub descent-back : (vars : ℕ) (base so_far : List (List Lit)) (first : List ℕ) (s t : State) (line : List Lit) → IsDescent vars base first so_far s → IsBack s line t → IsDescent vars base first (so_far ++ line ∷ []) t
descent-back vars base so_far first s t line is back =
    record {
      same_vars = back.same_vars ∙ is.same_vars;
      holds = back.more ∙ ap (λ (cs : List (List Lit)). cs ++ line ∷ []) is.holds ∙ append_assoc base so_far (line ∷ []);
      over = λ decide p step found none. is.over decide p step (back.decisions p step found none) none;
    }

-- back to a decision

pub can-open : (s : State) (marks : List Bool) (line : List Lit) (key second : Lit) (to lowest : ℕ) → IsLearned s marks line key second to → lowest < to → IsDecision s.steps lowest → CanOpen (take lowest s.steps) line key second
can-open s marks line key second to lowest is lower decision =
    record {
      one_listed = is.key_listed;
      two_listed = is.second_listed;
      differ = (is.held lowest lower decision).0;
      one_open = open-front s.steps lowest to key.var (omega (arith, lower)) is.key_open;
      two_open = (is.held lowest lower decision).1;
    }

pub can-unit : (s : State) (marks : List Bool) (line : List Lit) (key second : Lit) (to : ℕ) → IsLearned s marks line key second to → CanUnit (take to s.steps) line key second
can-unit s marks line key second to is =
    record {
      key_listed = is.key_listed;
      second_listed = is.second_listed;
      alone = is.alone;
      still_open = is.key_open;
      others = is.others;
      held = λ p decision.
          let at = get-take to s.steps p decision.step decision.there in
          let held = is.held p at.1 record { step = decision.step; there = at.0; decided = decision.decided } in
          (held.0, subst (λ (xs : List Step). LeavesOpen (value_in xs) second) (sym (take-take p to s.steps (omega (arith, at.1)))) held.1);
    }

pub back-open : (s t : State) (n : ℕ) (line : List Lit) → t ≡ with_line (with_front s n) line → IsBack s line t
back-open s t n line made =
    subst (λ (u : State). IsBack s line u) (sym made)
    record { same_vars = refl; more = refl; decisions = λ p step found none. (get-take n s.steps p step found).0 }

pub back-unit : (s t : State) (n : ℕ) (line : List Lit) (key : Lit) → t ≡ with_unit (with_front s n) line key → IsBack s line t
back-unit s t n line key made =
    subst (λ (u : State). IsBack s line u) (sym made)
    record { same_vars = refl; more = refl; decisions = λ p step found none. go p step none (push-cases (take n s.steps) (step_of key (Some (length s.clauses))) p step found) }
  where
    go : (p : ℕ) (step : Step) → step.reason ≡ None → (slice_get (take n s.steps) p ≡ Some step) ⊎ ((p ≡ length (take n s.steps)) × (step_of key (Some (length s.clauses)) ≡ step)) → slice_get s.steps p ≡ Some step
    go p step none (inl old) = (get-take n s.steps p step old).0
    go p step none (inr last) = absurd (none-some (length s.clauses) (sym none ∙ ap (λ (x : Step). x.reason) (sym last.1)))

-- one line more

pub so_far-push : (f : Formula) (first : List ℕ) (budget : ℕ) (before : List (List Lit)) (line : List Lit) → IsSoFar f first budget before → IsNewLine f.vars f.clauses before first line → line ≢ [] → length before + 1 < budget
    → IsSoFar f first budget (before ++ line ∷ [])
so_far-push f first budget before line is new some below =
    record {
      lines = lines-push f.vars f.clauses before first line is.lines new;
      none_empty = none-push before line is.none_empty some;
      fewer = omega (arith, below, length-append before (line ∷ []));
    }

pub ended-push : (f : Formula) (first : List ℕ) (budget : ℕ) (before : List (List Lit)) (line : List Lit) → IsSoFar f first budget before → IsNewLine f.vars f.clauses before first line → line ≢ [] → budget ≤ length before + 1
    → AreLines f.vars f.clauses first (before ++ line ∷ []) × (length (before ++ line ∷ []) ≡ budget) × NoneEmpty (before ++ line ∷ [])
ended-push f first budget before line is new some reached =
    (lines-push f.vars f.clauses before first line is.lines new, omega (arith, reached, is.fewer, length-append before (line ∷ [])), none-push before line is.none_empty some)

pub so_far-known : (f : Formula) (first : List ℕ) (budget : ℕ) (before : List (List Lit)) → IsSoFar f first budget before → All (IsKnown f.vars) before
so_far-known f first budget before is k d below =
    let line = get-within before k below in
    subst (λ (l : List Lit). IsKnown f.vars l) (sym (get_or_from_slice_get before k line.0 d line.1)) (is.lines k line.0 line.1).known

pub so_far-start : (f : Formula) (first : List ℕ) (budget : ℕ) → 1 ≤ budget → IsSoFar f first budget []
so_far-start f first budget positive =
    record {
      lines = λ i line found. absurd (none-some line found);
      none_empty = All-nil (λ (l : List Lit). l ≢ []);
      fewer = omega (arith, positive);
    }

-- the rule applied, or a literal decided

pub settled-down : (vars : ℕ) (base so_far : List (List Lit)) (first : List ℕ) (s t : State) (clash : Option ℕ) → IsDescent vars base first so_far s → IsPropagated s t clash → IsPath (path_of t)
    → IsDescended vars base first so_far (length s.steps) t clash
settled-down vars base so_far first s t clash is more path =
    let descent : IsDescent vars base first so_far t = descent-propagated vars base so_far first s t clash is more in
    record {
      descent = descent;
      settled = more.settled;
      longer = omega (arith, ap (λ (xs : List Step). length xs) more.grown.grown, length-append s.steps more.grown.more);
      few = omega (arith, path.few, descent.same_vars);
    }

pub from-start : (vars : ℕ) (base so_far : List (List Lit)) (first : List ℕ) (least : ℕ) (s : State) (clash : Option ℕ) → IsDescended vars base first so_far least s clash → IsDescended vars base first so_far 0 s clash
from-start vars base so_far first least s clash is = record { descent = is.descent; settled = is.settled; longer = omega arith; few = is.few }

pub none-clash : (clash : Option ℕ) → is_some clash ≡ false → clash ≡ None
none-clash None e = refl
none-clash (Some c) e = absurd (false≢true (sym e))

pub bottom-clash : (s : State) (clash : Option ℕ) → is_some clash ≡ true → IsSettled s clash → IsBottom s clash
bottom-clash s None e settled = absurd (false≢true e)
bottom-clash s (Some c) e settled = settled

pub loaded-first : (vars : ℕ) (clauses : List (List Lit)) (o : Option State) (s : State) → IsLoaded vars clauses o → o ≡ Some s → IsFirst vars clauses s
loaded-first vars clauses o s is e = subst (λ (p : Option State). IsLoaded vars clauses p) e is

pub loaded-none : (vars : ℕ) (clauses : List (List Lit)) (o : Option State) → IsLoaded vars clauses o → o ≡ None → Follows clauses []
loaded-none vars clauses o is e = subst (λ (p : Option State). IsLoaded vars clauses p) e is
