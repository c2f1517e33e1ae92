use Rattle.std.proofs.Common.{◌≡◌, ◌<◌, ◌∙◌, List, [], length, get_or, ap, subst, sym, arith}
use Rattle.std.proofs.lemmas.Bool.{false≢true}
use Rattle.std.proofs.lemmas.List.{get_or_read}
use Rattle.clause_store.specs.declared.lit.Lit.{Lit}
use Rattle.bit_clauses.specs.Bits.{Bits, BuildsTerm, Steps}
use Rattle.bit_clauses.specs.Nodes.{lits_at}
use Rattle.bit_clauses.proofs.Building.{on_ok, steps_none}
use Rattle.bit_clauses.proofs.blaster.Blaster.step.Goals as goal

pub returns-then-not-marked-clause-steps : goal.returns-then-not-marked-clause-steps
returns-then-not-marked-clause-steps c =
    steps_none c.args.marked c.args.self.now c.args.pool.now c.args.clauses.now c.args.id.number c.requires.known (λ m. absurd (false≢true (sym c.if-not-marked.true ∙ m)))

pub returns-then-len-eq0-clause-steps : goal.returns-then-len-eq0-clause-steps
returns-then-len-eq0-clause-steps c =
    on_ok c.build.result (BuildsTerm c.args.self.now c.build.new.self c.args.pool.now c.args.clauses.now c.build.new.clauses c.args.id.number)
    (Steps c.args.marked c.args.self.now c.build.new.self c.args.pool.now c.args.clauses.now c.build.new.clauses c.args.id.number)
    (λ done. record { blasted = λ root inside. done.blasted root (inside c.if-not-marked.false); built = λ m. done.built; size = done.size })
    c.build.ensures.builds

pub returns-clause-steps : goal.returns-clause-steps
returns-clause-steps c =
    let id = c.args.id.number in
    let items = c.self.inside.terms.items in
    let b : Bits = record { sure = c.self.inside.yes; variables = c.self.inside.variables; terms = items } in
    let e : c.args.self.now ≡ b = first_of (assumption (c.self.view_is), assumption (sym c.self.view_is), search (c.self.view_is, sym c.self.view_is)) in
    let room : id < length items = subst (λ (x : Bits). id < length x.terms) e c.requires.room in
    let read : c.index.result.now ≡ get_or items id [] = get_or_read items id c.index.result.now room c.index.ensures [] in
    let same : lits_at c.args.self.now.terms id ≡ c.index.result.now = ap (λ (x : Bits). lits_at x.terms id) e ∙ sym read in
    let count : length (lits_at c.args.self.now.terms id) ≡ length c.index.result.now = ap (λ (l : List Lit). length l) same in
    let here : 0 < length (lits_at c.args.self.now.terms id) = omega (arith, count, c.len.ensures, c.if-len-eq0.false) in
    steps_none c.args.marked c.args.self.now c.args.pool.now c.args.clauses.now c.args.id.number c.requires.known (λ m. here)
