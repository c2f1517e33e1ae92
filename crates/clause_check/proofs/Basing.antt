-- What clauses and lines give without assumption.
use Rattle.std.proofs.Common.{◌≡◌, ◌≢◌, ℕ, ◌⊎◌, true, false, not, Option, Some, None, List, [], ◌∷◌, ◌++◌, length, slice_get, refl, sym, ◌∙◌, ap, subst, inl, inr}
use Rattle.std.specs.Prelude.{Any, Contains, is_some}
use Rattle.std.proofs.lemmas.Bool.{false≢true, true≢false}
use Rattle.std.proofs.lemmas.List.{append-nil}
use Rattle.std.proofs.lemmas.List.Elements.{All-push, All-contains, Contains-append_right}
use Rattle.clause_store.specs.declared.lit.Lit.{Lit}
use Rattle.clause_store.specs.UnitRule.{Partial, MakesTrue, MakesFalse, LeavesOpen, IsAtRest, AllAtRest, Follows}
use Rattle.clause_store.proofs.Members.{All-from_contains, All-left, Contains-head}
use Rattle.clause_store.proofs.Rest.{lit_cases, rest-not_false}
use Rattle.sat_trail.specs.declared.step.Step.{Step}
use Rattle.sat_trail.specs.Paths.{IsWalk, NoDecision, value_in, step_of}
use Rattle.sat_trail.specs.Loading.{IsSecond}
use Rattle.sat_trail.specs.Engines.{State, CanOpen, CanUnit, IsFirst, IsLoaded, IsPropagated, with_line, with_unit}
use Rattle.sat_trail.proofs.Running.{walk-values, clash-follows}
use Rattle.sat_trail.proofs.Listing.{push-cases}
use Rattle.std.proofs.lemmas.Option.{none-some}
use Rattle.clause_check.specs.Bases.{IsCalm, IsBase, IsOpenOf, IsFirstOpen, IsBeside, TellsHeld}

-- after the rule was applied

settled-base : (s t : State) → NoDecision s.steps → IsPropagated s t None → IsBase s.vars s.clauses t
settled-base s t none is =
    record {
      same_vars = is.same_vars;
      same_rest = λ v. (λ rest. subst (λ (cs : List (List Lit)). AllAtRest v cs) is.same_clauses rest, λ rest. subst (λ (cs : List (List Lit)). AllAtRest v cs) (sym is.same_clauses) rest);
      calm =
          record {
            forced = λ p d. none p record { step = d.step; there = is.grown.forced p d.step d.there d.decided; decided = d.decided };
            settled = is.settled;
          };
    }

settled-closed : (s t : State) (c : ℕ) → NoDecision s.steps → IsPropagated s t (Some c) → IsWalk t.clauses t.steps → Follows s.clauses []
settled-closed s t c none is walk =
    subst (λ (cs : List (List Lit)). Follows cs []) is.same_clauses
    (clash-follows t.clauses t.steps c walk (λ p d. none p record { step = d.step; there = is.grown.forced p d.step d.there d.decided; decided = d.decided }) is.settled)

pub settled-none : (s t : State) (clash : Option ℕ) → NoDecision s.steps → IsPropagated s t clash → is_some clash ≡ false → IsBase s.vars s.clauses t
settled-none s t None none is e = settled-base s t none is
settled-none s t (Some c) none is e = absurd (true≢false e)

pub settled-some : (s t : State) (clash : Option ℕ) → NoDecision s.steps → IsPropagated s t clash → IsWalk t.clauses t.steps → is_some clash ≡ true → Follows s.clauses []
settled-some s t None none is walk e = absurd (false≢true e)
settled-some s t (Some c) none is walk e = settled-closed s t c none is walk

-- the first clauses, with no line

with_none : (clauses lines : List (List Lit)) → lines ≡ [] → clauses ++ lines ≡ clauses
with_none clauses lines none = ap (λ (ls : List (List Lit)). clauses ++ ls) none ∙ append-nil clauses

loaded-some : (vars : ℕ) (clauses lines : List (List Lit)) (loaded : Option State) (s : State) → lines ≡ [] → IsLoaded vars (clauses ++ lines) loaded → loaded ≡ Some s → IsFirst vars clauses s
loaded-some vars clauses lines loaded s none is e =
    subst (λ (cs : List (List Lit)). IsFirst vars cs s) (with_none clauses lines none) (subst (λ (o : Option State). IsLoaded vars (clauses ++ lines) o) e is)

pub loaded-forced : (vars : ℕ) (clauses lines : List (List Lit)) (loaded : Option State) (s : State) → lines ≡ [] → IsLoaded vars (clauses ++ lines) loaded → loaded ≡ Some s → NoDecision s.steps
loaded-forced vars clauses lines loaded s none is e = (loaded-some vars clauses lines loaded s none is e).forced

pub loaded-vars : (vars : ℕ) (clauses lines : List (List Lit)) (loaded : Option State) (s : State) → lines ≡ [] → IsLoaded vars (clauses ++ lines) loaded → loaded ≡ Some s → s.vars ≡ vars
loaded-vars vars clauses lines loaded s none is e = (loaded-some vars clauses lines loaded s none is e).same_vars

pub loaded-clauses : (vars : ℕ) (clauses lines : List (List Lit)) (loaded : Option State) (s : State) → lines ≡ [] → IsLoaded vars (clauses ++ lines) loaded → loaded ≡ Some s → s.clauses ≡ clauses
loaded-clauses vars clauses lines loaded s none is e = (loaded-some vars clauses lines loaded s none is e).same_clauses

pub loaded-none : (vars : ℕ) (clauses lines : List (List Lit)) (loaded : Option State) → lines ≡ [] → IsLoaded vars (clauses ++ lines) loaded → loaded ≡ None → Follows clauses []
loaded-none vars clauses lines loaded none is e =
    subst (λ (cs : List (List Lit)). Follows cs []) (with_none clauses lines none) (subst (λ (o : Option State). IsLoaded vars (clauses ++ lines) o) e is)

-- one line more

calm-values : (s : State) (v : Partial) → IsCalm s → IsWalk s.clauses s.steps → AllAtRest v s.clauses → (k : Lit) → MakesTrue (value_in s.steps) k → MakesTrue v k
calm-values s v calm walk rest k holds =
    walk-values s.clauses s.steps v walk rest (λ p d found none. absurd (calm.forced p record { step = d; there = found; decided = none })) k.var k.positive holds

calm-false : (s : State) (v : Partial) → IsCalm s → IsWalk s.clauses s.steps → AllAtRest v s.clauses → (k : Lit) → MakesFalse (value_in s.steps) k → MakesFalse v k
calm-false s v calm walk rest k falsified =
    walk-values s.clauses s.steps v walk rest (λ p d found none. absurd (calm.forced p record { step = d; there = found; decided = none })) k.var (not k.positive) falsified

-- a line that is true already
pub held-base : (s : State) (line : List Lit) → IsCalm s → IsWalk s.clauses s.steps → Any (MakesTrue (value_in s.steps)) line → IsBase s.vars (s.clauses ++ line ∷ []) s
held-base s line calm walk some =
    record {
      same_vars = refl;
      same_rest = λ v. (
        λ rest. All-push (IsAtRest v) s.clauses line rest (inl (some.0, some.1, some.2, some.3, calm-values s v calm walk rest some.1 some.4)),
        λ rest. All-left (IsAtRest v) s.clauses (line ∷ []) rest,
      );
      calm = calm;
    }

-- a line that is false already
pub false-base : (s : State) (line : List Lit) → IsCalm s → IsWalk s.clauses s.steps → TellsHeld (value_in s.steps) line false → IsFirstOpen s.steps line None → Follows (s.clauses ++ line ∷ []) []
false-base s line calm walk none closed v empty rest =
    rest-not_false v line (All-contains (IsAtRest v) (s.clauses ++ line ∷ []) line rest (Contains-append_right s.clauses (line ∷ []) line (Contains-head line [])))
    (All-from_contains (MakesFalse v) line (λ k listed. calm-false s v calm walk (All-left (IsAtRest v) s.clauses (line ∷ []) rest) k (falsified k listed (lit_cases (value_in s.steps) k))))
  where
    falsified : (k : Lit) → Contains line k → MakesTrue (value_in s.steps) k ⊎ MakesFalse (value_in s.steps) k ⊎ LeavesOpen (value_in s.steps) k → MakesFalse (value_in s.steps) k
    falsified k listed (inl holds) = absurd (none k listed holds)
    falsified k listed (inr (inl f)) = f
    falsified k listed (inr (inr o)) = absurd (closed k listed o)

-- two open literals
pub can-open : (steps : List Step) (line : List Lit) (key second : Lit) → IsOpenOf steps line key → IsBeside steps line key (Some second) → CanOpen steps line key second
can-open steps line key second open' beside =
    record {
      one_listed = open'.0;
      two_listed = (beside.0).0;
      differ = λ e. beside.1 (sym e);
      one_open = open'.1;
      two_open = (beside.0).1;
    }

pub open-base : (s t : State) (line : List Lit) (key second : Lit) → IsCalm s → IsOpenOf s.steps line key → IsBeside s.steps line key (Some second) → t ≡ with_line s line → IsBase s.vars (s.clauses ++ line ∷ []) t
open-base s t line key second calm open' beside made =
    subst (λ (x : State). IsBase s.vars (s.clauses ++ line ∷ []) x) (sym made)
    record {
      same_vars = refl;
      same_rest = λ v. (λ rest. rest, λ rest. rest);
      calm = record { forced = calm.forced; settled = (calm.settled.0, All-push (IsAtRest (value_in s.steps)) s.clauses line calm.settled.1 two) };
    }
  where
    two : IsAtRest (value_in s.steps) line
    two =
        inr
        record {
          one = key;
          other = second;
          one_listed = open'.0;
          other_listed = (beside.0).0;
          differ = λ e. beside.1 (sym e);
          one_open = open'.1;
          other_open = (beside.0).1;
        }

-- one open literal
pub can-unit : (s : State) (line : List Lit) (key second : Lit) → IsCalm s → TellsHeld (value_in s.steps) line false → IsOpenOf s.steps line key → IsBeside s.steps line key None → IsSecond line key second → CanUnit s.steps line key second
can-unit s line key second calm none open' beside is =
    record {
      key_listed = open'.0;
      second_listed = is.listed;
      alone = is.alone;
      still_open = open'.1;
      others = λ k listed differs. falsified k listed differs (lit_cases (value_in s.steps) k);
      held = λ p d. absurd (calm.forced p d);
    }
  where
    falsified : (k : Lit) → Contains line k → k ≢ key → MakesTrue (value_in s.steps) k ⊎ MakesFalse (value_in s.steps) k ⊎ LeavesOpen (value_in s.steps) k → MakesFalse (value_in s.steps) k
    falsified k listed differs (inl holds) = absurd (none k listed holds)
    falsified k listed differs (inr (inl f)) = f
    falsified k listed differs (inr (inr o)) = absurd (differs (beside k listed o))

pub unit-forced : (s t : State) (line : List Lit) (key : Lit) → IsCalm s → t ≡ with_unit s line key → NoDecision t.steps
unit-forced s t line key calm made =
    subst (λ (x : State). NoDecision x.steps) (sym made)
    (λ p d. go p (d.step) d.decided (push-cases s.steps (step_of key (Some (length s.clauses))) p d.step d.there))
  where
    go : (p : ℕ) (d : Step) → d.reason ≡ None → (slice_get s.steps p ≡ Some d) ⊎ ((p ≡ length s.steps) × (step_of key (Some (length s.clauses)) ≡ d)) → ⊥
    go p d none (inl old) = calm.forced p record { step = d; there = old; decided = none }
    go p d none (inr last) = none-some (length s.clauses) (sym none ∙ ap (λ (x : Step). x.reason) (sym last.1))
