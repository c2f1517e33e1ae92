use Rattle.std.proofs.Common.{◌≡◌, ◌∙◌, List, None, ap, refl, subst, sym}
use Rattle.clause_store.specs.Formula.{Formula}
use Rattle.clause_store.proofs.Agreement.{alike}
use Rattle.bit_clauses.specs.declared.variables.Variable.{Variable}
use Rattle.bit_clauses.specs.Bits.{Bits, IsBlasted, IsOf}
use Rattle.bit_clauses.specs.Bits.{first_of as lowest_of}
use Rattle.bit_clauses.proofs.Runs.{found_new, more_vars, variable_new, with_variable}
use Rattle.bit_clauses.proofs.blaster.Blaster.make_variable.Goals as goal

pub returns-clause-blasted : goal.returns-clause-blasted
returns-clause-blasted c = λ nodes root occurs of.
    let f = c.args.clauses.now in
    let x : Variable = record { width = c.args.width; number = c.args.number; first = c.in_ok-first.first } in
    let b : Bits = record { sure = c.self.inside.yes; variables = c.self.inside.variables; terms = c.self.inside.terms.items } in
    let e : c.args.self.now ≡ b = first_of (assumption (c.self.view_is), assumption (sym c.self.view_is), search (c.self.view_is, sym c.self.view_is)) in
    let free : lowest_of b.variables c.args.width c.args.number ≡ None = ap (λ (y : Bits). lowest_of y.variables c.args.width c.args.number) (sym e) ∙ c.requires in
    subst (λ (h : Formula). IsBlasted c.args.self.now (record { sure = b.sure; variables = c.push.new.self; terms = b.terms }) nodes f h root) (sym c.in_ok-first.ensures.ok)
    (subst (λ (vs : List Variable). IsBlasted c.args.self.now (record { sure = b.sure; variables = vs; terms = b.terms }) nodes f (more_vars f c.args.width) root) (sym c.in_ok-push.ensures)
    (subst (λ (y : Bits). IsBlasted y (with_variable b x) nodes f (more_vars f c.args.width) root) (sym e)
    (variable_new b nodes f root c.args.width c.args.number x alike c.in_ok-first.ensures.known (subst (λ (y : Bits). IsOf y nodes f) e of) refl refl c.in_ok-first.ensures.first free occurs)))

pub returns-clause-found : goal.returns-clause-found
returns-clause-found c =
    let x : Variable = record { width = c.args.width; number = c.args.number; first = c.in_ok-first.first } in
    let b : Bits = record { sure = c.self.inside.yes; variables = c.self.inside.variables; terms = c.self.inside.terms.items } in
    let e : c.args.self.now ≡ b = first_of (assumption (c.self.view_is), assumption (sym c.self.view_is), search (c.self.view_is, sym c.self.view_is)) in
    let free : lowest_of b.variables c.args.width c.args.number ≡ None = ap (λ (y : Bits). lowest_of y.variables c.args.width c.args.number) (sym e) ∙ c.requires in
    ap (λ (vs : List Variable). lowest_of vs c.args.width c.args.number) c.in_ok-push.ensures ∙ found_new b.variables x c.args.width c.args.number free refl refl
