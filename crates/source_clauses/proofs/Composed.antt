-- Readers one after the other.
use Rattle.std.proofs.Common.{ℕ, ◌<◌, ◌≤◌, ◌⊎◌, Bool, List, [], ◌∷◌, ◌++◌, length, inl, inr}
use Rattle.std.specs.Prelude.{All, IsSome}
use Rattle.std.proofs.lemmas.Bool.{cases_lt}
use Rattle.std.proofs.lemmas.List.Elements.{All-nil, All-push, All-contains, Contains-append_right}
use Rattle.clause_store.specs.UnitRule.{Partial, AllAtRest}
use Rattle.clause_store.specs.Formula.{Extension}
use Rattle.clause_store.proofs.Agreement.{composed}
use Rattle.clause_store.proofs.Growth.{growth_then, older_satisfied, older_at_rest}
use Rattle.clause_store.proofs.Members.{All-left, Contains-head}
use Rattle.source_clauses.specs.declared.reader.Reader.{Reader}
use Rattle.source_clauses.specs.Sees.{bit_at, SeesNewest}
use Rattle.source_clauses.specs.Contract.{IsPlaced, AreWritten}
use Rattle.source_clauses.specs.Laws.{NoReader, ReadersCompose}
use Rattle.source_clauses.proofs.Alike.{sees_alike}
use Rattle.source_clauses.proofs.Gathered.{grows_self, itself, none_new}

pub no_readers : NoReader
no_readers f table =
    record {
      grows = grows_self f;
      sound = λ w sat strict. All-nil (SeesNewest w table);
      extends = λ w sat sees. itself f.vars w f.clauses sat;
      decides = λ v rest placed x from to. absurd (none_new f x from to);
      reads = λ v lt rest. All-nil (λ reader. IsPlaced v table reader lt → AreWritten v reader lt → (b : ℕ) → b < length reader.read → IsSome (v (bit_at reader.read b).var));
    }

-- the last of a list
last_holds : (P : Reader → Type 0) (readers : List Reader) (reader : Reader) → All P (readers ++ reader ∷ []) → P reader
last_holds P readers reader all =
    All-contains P (readers ++ reader ∷ []) reader all (Contains-append_right readers (reader ∷ []) reader (Contains-head reader []))

pub one_more_reader : ReadersCompose
one_more_reader old between new table readers reader knows first last =
    record {
      grows = growth_then old between new first.grows last.grows;
      sound =
          λ w sat strict.
          All-push (SeesNewest w table) readers reader (first.sound w (older_satisfied between new w last.grows sat) strict) (last.sound w sat strict);
      extends =
          λ w sat sees.
          let one : Extension old.vars w between.clauses = first.extends w sat (All-left (SeesNewest w table) readers (reader ∷ []) sees) in
          let two : Extension between.vars one.extended new.clauses =
          last.extends one.extended one.satisfies
          (sees_alike old.vars w one.extended one.agrees table reader knows (last_holds (SeesNewest w table) readers reader sees))
          in
          composed old.vars between.vars w between.clauses new.clauses one first.grows.vars two;
      decides = λ v rest placed x from to. by_place v rest placed x from to (cases_lt x between.vars);
      reads =
          λ v lt rest.
          All-push (λ r. IsPlaced v table r lt → AreWritten v r lt → (b : ℕ) → b < length r.read → IsSome (v (bit_at r.read b).var)) readers reader
          (first.reads v lt (older_at_rest between new v last.grows rest)) (last.reads v lt rest);
    }
  where
    by_place : (v : Partial) → AllAtRest v new.clauses → All (λ r. (lt : ℕ → ℕ → Bool) × IsPlaced v table r lt) (readers ++ reader ∷ []) → (x : ℕ)
        → old.vars ≤ x → x < new.vars → (x < between.vars) ⊎ (between.vars ≤ x) → IsSome (v x)
    by_place v rest placed x from to (inl h) =
        first.decides v (older_at_rest between new v last.grows rest)
        (All-left (λ r. (lt : ℕ → ℕ → Bool) × IsPlaced v table r lt) readers (reader ∷ []) placed) x from h
    by_place v rest placed x from to (inr h) =
        let one = last_holds (λ r. (lt : ℕ → ℕ → Bool) × IsPlaced v table r lt) readers reader placed in
        last.decides v one.0 rest one.1 x h to
