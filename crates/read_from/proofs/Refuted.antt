-- The empty clause stands for a log that no schedule has.
use Rattle.std.specs.Prelude.{◌≡◌, ◌<◌, List, [], ◌∷◌, Any, None}
use Rattle.std.proofs.Common.{subst, inl, inr, arith}
use Rattle.elf_image.specs.Layout.{Layout}
use Rattle.odr_log.specs.declared.log.Log.{Log}
use Rattle.odr_log.specs.declared.log.Pos.{Pos}
use Rattle.rv_model.specs.CallsFit.{CallsFit}
use Rattle.rv_model.specs.Walk.{PathsFit}
use Rattle.logged_walks.specs.Law.{LoggedCallsFit, LoggedPathsFit}
use Rattle.clause_store.specs.declared.lit.Lit.{Lit}
use Rattle.clause_store.specs.Formula.{Formula as Clauses}
use Rattle.clause_store.specs.Literals.{Assignment, IsTrueUnder, Satisfies}
use Rattle.clause_store.specs.UnitRule.{AllAtRest, IsAtRest, MakesTrue, Partial}
use Rattle.read_from.specs.Formulas.{IsFormulaOf}

none_listed : (P : Lit → Type 0) → Any P [] → ⊥
none_listed P some = let less : some.0 < 0 = some.2 in absurd (omega (arith, less))

none_true : (w : Assignment) → IsTrueUnder w [] → ⊥
none_true w some = none_listed _ some

-- no assignment satisfies the empty clause
none_satisfies : (w : Assignment) (clauses : List (List Lit)) → clauses ≡ [] ∷ [] → Satisfies w clauses → ⊥
none_satisfies w clauses e satisfied = none_true w (subst (Satisfies w) e satisfied 0 [] (omega arith))

empty_rests : (v : Partial) → IsAtRest v [] → ⊥
empty_rests v (inl some) = none_listed (MakesTrue v) some
empty_rests v (inr two) = absurd (omega (arith, two.one_listed.1))

-- nor is the unit rule at rest there
none_rests : (v : Partial) (clauses : List (List Lit)) → clauses ≡ [] ∷ [] → AllAtRest v clauses → ⊥
none_rests v clauses e rest = empty_rests v (subst (AllAtRest v) e rest 0 [] (omega arith))

pub refuted_is : (image : Layout) (log : Log) (also : List Pos) (clauses : Clauses) → LoggedPathsFit → LoggedCallsFit
    → (PathsFit image log → CallsFit log → ⊥) → clauses.clauses ≡ [] ∷ [] → IsFormulaOf image log also (record { clauses = clauses; ordering = None })
refuted_is image log also clauses paths calls unfit e = record {
  stands = record {
    no_ring = λ w satisfied. absurd (none_satisfies w clauses.clauses e satisfied);
    sound = λ w schedule satisfied woven. absurd (none_satisfies w clauses.clauses e satisfied);
    complete = λ schedule has. absurd (unfit (paths image log schedule has) (calls image log schedule has));
  };
  decide = λ l known v rest roots. absurd (none_rests v clauses.clauses e rest);
  ordering_is = record { unfit = unfit; empty = e };
}
