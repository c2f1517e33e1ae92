-- Store-conditionals one after the other, and after readers.
use Rattle.std.proofs.Common.{ℕ, ◌<◌, ◌≤◌, ◌⊎◌, List, [], ◌∷◌, ◌++◌, inl, inr}
use Rattle.std.specs.Prelude.{All, IsSome}
use Rattle.std.proofs.lemmas.Bool.{cases_lt}
use Rattle.std.proofs.lemmas.List.Elements.{All-nil, All-push, All-contains}
use Rattle.clause_store.specs.UnitRule.{Partial, AllAtRest}
use Rattle.clause_store.specs.Formula.{Extension}
use Rattle.clause_store.proofs.Agreement.{composed}
use Rattle.clause_store.proofs.Growth.{growth_then, older_satisfied, older_at_rest}
use Rattle.clause_store.proofs.Members.{All-from_contains, All-left, All-right, Contains-head}
use Rattle.source_clauses.proofs.Gathered.{grows_self, itself, none_new}
use Rattle.outcome_clauses.specs.declared.store_conditional.StoreConditional.{StoreConditional}
use Rattle.outcome_clauses.specs.Succeeds.{HasOutcome}
use Rattle.outcome_clauses.specs.Contract.{KnowsConditional}
use Rattle.outcome_clauses.specs.Laws.{ArePlaced, IsSettled, HasPlace, NoOutcome, OutcomesCompose, OutcomesFollowReaders}
use Rattle.outcome_clauses.proofs.Adding.{has_alike}

pub no_outcomes : NoOutcome
no_outcomes f =
    record {
      grows = grows_self f;
      sound = λ w sat. All-nil (HasOutcome w);
      extends = λ w sat has. itself f.vars w f.clauses sat;
      decides = λ v rest placed x from to. absurd (none_new f x from to);
      settles = λ v rest. All-nil (IsSettled v);
    }

last_of : (P : StoreConditional → Type 0) (conditionals : List StoreConditional) (sc : StoreConditional) → All P (conditionals ++ sc ∷ []) → P sc
last_of P conditionals sc all = All-contains P (sc ∷ []) sc (All-right P conditionals (sc ∷ []) all) (Contains-head sc [])

pub one_more_outcome : OutcomesCompose
one_more_outcome old between new conditionals sc knows first last =
    record {
      grows = growth_then old between new first.grows last.grows;
      sound =
          λ w sat.
          All-push (HasOutcome w) conditionals sc (first.sound w (older_satisfied between new w last.grows sat)) (last.sound w sat);
      extends =
          λ w sat has.
          let one : Extension old.vars w between.clauses = first.extends w sat (All-left (HasOutcome w) conditionals (sc ∷ []) has) in
          let two : Extension between.vars one.extended new.clauses =
          last.extends one.extended one.satisfies
          (has_alike old.vars w one.extended one.agrees sc knows (last_of (HasOutcome w) conditionals sc has))
          in
          composed old.vars between.vars w between.clauses new.clauses one first.grows.vars two;
      decides = λ v rest placed x from to. by_place v rest placed x from to (cases_lt x between.vars);
      settles =
          λ v rest.
          All-push (IsSettled v) conditionals sc (first.settles v (older_at_rest between new v last.grows rest)) (last.settles v rest);
    }
  where
    by_place : (v : Partial) → AllAtRest v new.clauses → All (ArePlaced v) (conditionals ++ sc ∷ []) → (x : ℕ) → old.vars ≤ x → x < new.vars
        → (x < between.vars) ⊎ (between.vars ≤ x) → IsSome (v x)
    by_place v rest placed x from to (inl h) =
        first.decides v (older_at_rest between new v last.grows rest) (All-left (ArePlaced v) conditionals (sc ∷ []) placed) x from h
    by_place v rest placed x from to (inr h) = last.decides v rest (last_of (ArePlaced v) conditionals sc placed) x h to

pub outcomes_after_readers : OutcomesFollowReaders
outcomes_after_readers old between new table readers conditionals knows first last =
    record {
      grows = growth_then old between new first.grows last.grows;
      sees = λ w sat strict. first.sound w (older_satisfied between new w last.grows sat) strict;
      succeeds = λ w sat. last.sound w sat;
      extends =
          λ w sat sees has.
          let one : Extension old.vars w between.clauses = first.extends w sat sees in
          let two : Extension between.vars one.extended new.clauses =
          last.extends one.extended one.satisfies
          (All-from_contains (HasOutcome one.extended) conditionals
          (λ sc listed.
          has_alike old.vars w one.extended one.agrees sc (All-contains (KnowsConditional old.vars) conditionals sc knows listed)
          (All-contains (HasOutcome w) conditionals sc has listed)))
          in
          composed old.vars between.vars w between.clauses new.clauses one first.grows.vars two;
      decides = λ v rest places placed x from to. by_place v rest places placed x from to (cases_lt x between.vars);
      reads = λ v lt rest. first.reads v lt (older_at_rest between new v last.grows rest);
      settles = λ v rest. last.settles v rest;
    }
  where
    by_place : (v : Partial) → AllAtRest v new.clauses → All (HasPlace v table) readers → All (ArePlaced v) conditionals → (x : ℕ) → old.vars ≤ x
        → x < new.vars → (x < between.vars) ⊎ (between.vars ≤ x) → IsSome (v x)
    by_place v rest places placed x from to (inl h) = first.decides v (older_at_rest between new v last.grows rest) places x from h
    by_place v rest places placed x from to (inr h) = last.decides v rest placed x h to
