use Rattle.std.proofs.Common.{◌≡◌, ◌∙◌, ◌++◌, ◌∷◌, [], true, None, ap, refl, subst, sym}
use Rattle.clause_store.specs.declared.lit.Lit.{Lit}
use Rattle.clause_store.specs.Formula.{Formula}
use Rattle.clause_store.proofs.Agreement.{alike}
use Rattle.bit_clauses.specs.Bits.{Bits, IsBlasted, IsOf}
use Rattle.bit_clauses.proofs.Sure.{one_clause, sure_new, with_sure}
use Rattle.bit_clauses.proofs.blaster.Blaster.make_sure.Goals as goal

pub returns-clause-blasted : goal.returns-clause-blasted
returns-clause-blasted c = λ nodes root of.
    let f = c.args.clauses.now in
    let l : Lit = record { var = c.in_ok-var.var; positive = true } in
    let b : Bits = record { sure = c.self.inside.yes; variables = c.self.inside.variables; terms = c.self.inside.terms.items } in
    let e : c.args.self.now ≡ b = first_of (assumption (c.self.view_is), assumption (sym c.self.view_is), search (c.self.view_is, sym c.self.view_is)) in
    let free : b.sure ≡ None = ap (λ (x : Bits). x.sure) (sym e) ∙ c.requires in
    let grown : c.add.new.self ≡ one_clause f l = c.in_ok-add.ensures.ok ∙ ap (λ (h : Formula). record h { clauses = h.clauses ++ (l ∷ []) ∷ [] }) c.in_ok-var.ensures.ok in
    subst (λ (h : Formula). IsBlasted c.args.self.now (with_sure b l) nodes f h root) (sym grown)
    (subst (λ (x : Bits). IsBlasted x (with_sure b l) nodes f (one_clause f l) root) (sym e)
    (sure_new b nodes f root l alike c.in_ok-var.ensures.known (subst (λ (x : Bits). IsOf x nodes f) e of) free c.in_ok-var.ensures.number refl))
