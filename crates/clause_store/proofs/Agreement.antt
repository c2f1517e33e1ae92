-- Assignments that agree on some variables.
use Rattle.std.proofs.Common.{◌≡◌, ℕ, ◌<◌, Bool, not, cond, List, ◌∙◌, ap, arith}
use Rattle.std.proofs.lemmas.List.Elements.{All-contains}
use Rattle.clause_store.specs.declared.lit.Lit.{Lit}
use Rattle.clause_store.specs.Literals.{Assignment, literal_value, IsTrueUnder}
use Rattle.clause_store.specs.Formula.{IsKnown}
use Rattle.clause_store.specs.Laws.{SatisfiedAlike, ExtensionsCompose}
use Rattle.clause_store.proofs.Members.{All-from_contains}

pub literal_value-agree : (w u : Assignment) (l : Lit) → u l.var ≡ w l.var → literal_value u l ≡ literal_value w l
literal_value-agree w u l e = ap (λ (b : Bool). cond l.positive b (not b)) e

true_under-agree : (vars : ℕ) (w u : Assignment) → ((x : ℕ) → x < vars → u x ≡ w x) → (clause : List Lit) → IsKnown vars clause → IsTrueUnder w clause → IsTrueUnder u clause
true_under-agree vars w u agree clause known some =
    let below : some.1.var < vars = All-contains (λ l. l.var < vars) clause some.1 known (some.0, some.2, some.3) in
    (some.0, some.1, some.2, some.3, literal_value-agree w u some.1 (agree some.1.var below) ∙ some.4)

pub alike : SatisfiedAlike
alike f w u known agree sat =
    All-from_contains (IsTrueUnder u) f.clauses
    (λ clause listed.
    true_under-agree f.vars w u agree clause (All-contains (IsKnown f.vars) f.clauses clause known listed)
    (All-contains (IsTrueUnder w) f.clauses clause sat listed))

pub composed : ExtensionsCompose
composed vars more w clauses further first bound second =
    record {
      extended = second.extended;
      agrees = λ x below. second.agrees x (omega (arith, below, bound)) ∙ first.agrees x below;
      satisfies = second.satisfies;
    }
