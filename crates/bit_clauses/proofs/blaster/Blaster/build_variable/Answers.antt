use Rattle.std.proofs.Common.{◌≡◌, List, subst, sym}
use Rattle.clause_store.specs.declared.lit.Lit.{Lit}
use Rattle.bv_terms.specs.Variables.{Here}
use Rattle.bit_clauses.specs.Bits.{Bits, BuildsTerm, run}
use Rattle.bit_clauses.proofs.Blasted.{with_term}
use Rattle.bit_clauses.proofs.Building.{builds_variable, on_err}
use Rattle.bit_clauses.proofs.blaster.Blaster.build_variable.Goals as goal

pub run_bits-requires : goal.run_bits-requires
run_bits-requires c =
    let step = c.in_ok-first.ensures.blasted c.args.pool.now c.args.id.number (Here c.args.id.number c.requires.node) c.requires.known in
    step.known.variables c.args.width c.args.number c.in_ok-first.first c.in_ok-first.ensures.found

pub returns-in_err-out-clause-err : goal.returns-in_err-out-clause-err
returns-in_err-out-clause-err c = on_err c.from_residual-in_err-out.result (c.in_ok-first.ensures.blasted c.args.pool.now c.args.id.number (Here c.args.id.number c.requires.node) c.requires.known).grows

pub returns-clause-builds : goal.returns-clause-builds
returns-clause-builds c =
    let id = c.args.id.number in
    let mid = c.variable.new.self in
    let b : Bits = record { sure = c.self.inside.yes; variables = c.self.inside.variables; terms = c.self.inside.terms.items } in
    let e : mid ≡ b = first_of (assumption (c.self.view_is), assumption (sym c.self.view_is), search (c.self.view_is, sym c.self.view_is)) in
    let done = builds_variable c.args.self.now mid c.args.pool.now c.args.clauses.now c.variable.new.clauses id c.args.width c.args.number c.in_ok-first.first
    (λ root inside. c.in_ok-first.ensures.blasted c.args.pool.now root (inside c.args.width c.args.number (Here id c.requires.node)) c.requires.known)
    c.in_ok-first.ensures.terms c.requires.within c.requires.room c.requires.free c.requires.node c.requires.width c.requires.is_width.0 c.requires.is_width.1 c.requires.value c.in_ok-first.ensures.found in
    subst (λ (l : List Lit). BuildsTerm c.args.self.now (with_term b id l) c.args.pool.now c.args.clauses.now c.variable.new.clauses id) (sym c.in_ok-out.ensures)
    (subst (λ (x : Bits). BuildsTerm c.args.self.now (with_term x id (run c.in_ok-first.first c.args.width)) c.args.pool.now c.args.clauses.now c.variable.new.clauses id) e done)
