-- Circuits one after another.
use Rattle.std.proofs.Common.{[], ◌++◌, refl, sym, ◌∙◌, ap, subst, arith, inl, inr}
use Rattle.std.proofs.lemmas.List.{append_assoc, append-nil}
use Rattle.std.proofs.lemmas.Bool.{cases_lt}
use Rattle.clause_store.specs.Literals.{Assignment, Satisfies, IsTrueUnder}
use Rattle.clause_store.specs.Formula.{Formula, Grows}
use Rattle.clause_store.specs.UnitRule.{Partial, AllAtRest, IsAtRest}
use Rattle.clause_store.proofs.Members.{All-left}
use Rattle.bit_clauses.specs.Circuit.{IsCircuit}

pub grows_none : (f : Formula) → Grows f f
grows_none f = record { vars = omega arith; more = []; clauses = sym (append-nil f.clauses) }

pub grows_both : (a b c : Formula) → Grows a b → Grows b c → Grows a c
grows_both a b c g h = record {
  vars = omega (arith, g.vars, h.vars);
  more = g.more ++ h.more;
  clauses = h.clauses ∙ ap (λ l. l ++ h.more) g.clauses ∙ append_assoc a.clauses g.more h.more;
}

pub satisfies_older : (a b : Formula) → Grows a b → (w : Assignment) → Satisfies w b.clauses → Satisfies w a.clauses
satisfies_older a b g w s = All-left (IsTrueUnder w) a.clauses g.more (subst (Satisfies w) g.clauses s)

pub rests_older : (a b : Formula) → Grows a b → (v : Partial) → AllAtRest v b.clauses → AllAtRest v a.clauses
rests_older a b g v r = All-left (IsAtRest v) a.clauses g.more (subst (AllAtRest v) g.clauses r)

-- nothing is added
pub no_circuit : (f : Formula) (Given Gives : Partial → Type 0) (Means : Assignment → Type 0) → ((v : Partial) → Given v → Gives v) → ((w : Assignment) → Means w) → IsCircuit f f Given Gives Means
no_circuit f Given Gives Means gives means = record {
  grows = grows_none f;
  means = λ w s. means w;
  extends = λ w s. record { extended = w; agrees = λ x h. refl; satisfies = s };
  gives = λ v r g. gives v g;
  decides = λ v r g x low high. absurd (omega arith);
}

-- one circuit after another, whose inputs are decided where those of the first are
pub chained : (a b c : Formula) (Given Mid Asked Last All : Partial → Type 0) (First Second Both : Assignment → Type 0)
    → IsCircuit a b Given Mid First → IsCircuit b c Asked Last Second
    → ((v : Partial) → Given v → Mid v → Asked v) → ((v : Partial) → Given v → Mid v → Last v → All v) → ((w : Assignment) → First w → Second w → Both w)
    → IsCircuit a c Given All Both
chained a b c Given Mid Asked Last All First Second Both one two asked all both =
    let mid : (v : Partial) → AllAtRest v c.clauses → Given v → Asked v = λ v r g. asked v g (one.gives v (rests_older b c two.grows v r) g) in
    record {
      grows = grows_both a b c one.grows two.grows;
      means = λ w s. both w (one.means w (satisfies_older b c two.grows w s)) (two.means w s);
      extends = λ w s.
          let first = one.extends w s in
          let second = two.extends first.extended first.satisfies in
          record {
            extended = second.extended;
            agrees = λ x h. second.agrees x (omega (arith, h, one.grows.vars)) ∙ first.agrees x h;
            satisfies = second.satisfies;
          };
      gives = λ v r g. all v g (one.gives v (rests_older b c two.grows v r) g) (two.gives v r (mid v r g));
      decides = λ v r g x low high. elim (cases_lt x b.vars) [
        | inl h ↦ one.decides v (rests_older b c two.grows v r) g x low h
        | inr h ↦ two.decides v r (mid v r g) x h high
      ];
    }

-- a circuit said in other words
pub said : (a b : Formula) (Given Asked Gives All : Partial → Type 0) (Means Other : Assignment → Type 0)
    → IsCircuit a b Asked Gives Means → ((v : Partial) → Given v → Asked v) → ((v : Partial) → Given v → Gives v → All v) → ((w : Assignment) → Means w → Other w)
    → IsCircuit a b Given All Other
said a b Given Asked Gives All Means Other one asked all other = record {
  grows = one.grows;
  means = λ w s. other w (one.means w s);
  extends = one.extends;
  gives = λ v r g. all v g (one.gives v r (asked v g));
  decides = λ v r g x low high. one.decides v r (asked v g) x low high;
}
