-- What a look at one watcher gives.
use Rattle.std.proofs.Common.{◌≡◌, ◌≢◌, ℕ, ◌<◌, Some, List, slice_get, refl, sym, ◌∙◌, subst, inl, inr}
use Rattle.std.specs.Prelude.{Contains}
use Rattle.std.proofs.lemmas.Option.{same_Some}
use Rattle.clause_store.specs.declared.lit.Lit.{Lit}
use Rattle.clause_store.specs.UnitRule.{Partial, MakesTrue, MakesFalse, LeavesOpen}
use Rattle.clause_store.proofs.Members.{Any-from_contains}
use Rattle.sat_trail.specs.declared.watcher.Pair.{Pair}
use Rattle.sat_trail.specs.declared.watcher.Watcher.{Watcher}
use Rattle.sat_trail.specs.Watching.{Watched, IsBoth, HasLiteral, IsIndexed, CanBlock, row_in}
use Rattle.sat_trail.specs.Visits.{CanKeep, CanPush}
use Rattle.sat_trail.proofs.Moving.{contains-watched}
use Rattle.sat_trail.proofs.Indexing.{literal-known}

pub keep-blocker : (w : Watched) (v : Partial) (from : Lit) (gap : ℕ) (x : Watcher) → IsIndexed w → slice_get (row_in w.rows from) gap ≡ Some x → MakesTrue v x.blocker → CanKeep w v from gap
keep-blocker w v from gap x is found holds =
    let has : HasLiteral w.clauses x.clause x.blocker = is.sound from gap x found in
    record {
      watcher = x;
      found = found;
      holds = λ clause pair numbered paired one.
          Any-from_contains (MakesTrue v) clause x.blocker
          (subst (λ (c : List Lit). Contains c x.blocker) (same_Some has.clause clause (sym has.found ∙ numbered)) has.listed) holds;
    }

stay-listed : (w : Watched) (c : ℕ) (pair : Pair) (from stay : Lit) (clause : List Lit) → IsIndexed w → slice_get w.pairs c ≡ Some pair → IsBoth pair from stay → slice_get w.clauses c ≡ Some clause → Contains clause stay
stay-listed w c pair from stay clause is paired both numbered =
    contains-watched clause pair stay (is.paired c clause pair numbered paired) (elim both [ inl b ↦ inr (sym b.1) | inr b ↦ inl (sym b.1) ])

pub keep-stay : (w : Watched) (v : Partial) (from : Lit) (gap : ℕ) (x : Watcher) (pair : Pair) (stay : Lit) → IsIndexed w → slice_get (row_in w.rows from) gap ≡ Some x
    → slice_get w.pairs x.clause ≡ Some pair → IsBoth pair from stay → MakesTrue v stay → CanKeep w v from gap
keep-stay w v from gap x pair stay is found paired both holds =
    record {
      watcher = x;
      found = found;
      holds = λ clause other numbered other_found one. Any-from_contains (MakesTrue v) clause stay (stay-listed w x.clause pair from stay clause is paired both numbered) holds;
    }

-- the watcher of such a clause may have the other literal as its blocker
pub block-stay : (w : Watched) (v : Partial) (from : Lit) (gap : ℕ) (x : Watcher) (pair : Pair) (stay : Lit) → IsIndexed w → from.var < w.vars → slice_get (row_in w.rows from) gap ≡ Some x
    → slice_get w.pairs x.clause ≡ Some pair → IsBoth pair from stay → MakesTrue v stay → CanKeep w v from gap × CanBlock w from gap x.clause stay
block-stay w v from gap x pair stay is known found paired both holds =
    let has : HasLiteral w.clauses x.clause x.blocker = is.sound from gap x found in (
      keep-stay w v from gap x pair stay is found paired both holds,
      record {
        known = known;
        watcher = x;
        found = found;
        named = refl;
        has = record { clause = has.clause; found = has.found; listed = stay-listed w x.clause pair from stay has.clause is paired both has.found };
      },
    )

pub push-stay : (w : Watched) (v : Partial) (from : Lit) (gap : ℕ) (x : Watcher) (pair : Pair) (stay : Lit) (clause : List Lit) → IsIndexed w → slice_get (row_in w.rows from) gap ≡ Some x
    → slice_get w.pairs x.clause ≡ Some pair → IsBoth pair from stay → slice_get w.clauses x.clause ≡ Some clause → LeavesOpen v stay
    → ((k : Lit) → Contains clause k → k ≢ stay → MakesFalse v k) → CanPush w v from gap x.clause stay
push-stay w v from gap x pair stay clause is found paired both numbered o others =
    let listed : Contains clause stay = stay-listed w x.clause pair from stay clause is paired both numbered in
    record {
      watcher = x;
      found = found;
      named = refl;
      clause = clause;
      numbered = numbered;
      listed = listed;
      known = literal-known w x.clause clause stay is numbered listed;
      still_open = o;
      others = others;
    }
