-- Formulas that grow.
use Rattle.std.proofs.Common.{List, ◌++◌, ◌∙◌, ap, subst, arith}
use Rattle.std.proofs.lemmas.List.{append_assoc}
use Rattle.clause_store.specs.declared.lit.Lit.{Lit}
use Rattle.clause_store.specs.Literals.{IsTrueUnder, Satisfies}
use Rattle.clause_store.specs.UnitRule.{IsAtRest, AllAtRest}
use Rattle.clause_store.specs.Laws.{GrowthComposes, OlderSatisfied, OlderAtRest}
use Rattle.clause_store.proofs.Members.{All-left}

pub growth_then : GrowthComposes
growth_then old between new first second =
    record {
      vars = omega (arith, first.vars, second.vars);
      more = first.more ++ second.more;
      clauses =
          second.clauses ∙ ap (λ (cs : List (List Lit)). cs ++ second.more) first.clauses ∙ append_assoc old.clauses first.more second.more;
    }

pub older_satisfied : OlderSatisfied
older_satisfied old new w grows sat =
    All-left (IsTrueUnder w) old.clauses grows.more (subst (λ (cs : List (List Lit)). Satisfies w cs) grows.clauses sat)

pub older_at_rest : OlderAtRest
older_at_rest old new v grows rest =
    All-left (IsAtRest v) old.clauses grows.more (subst (λ (cs : List (List Lit)). AllAtRest v cs) grows.clauses rest)
