use Rattle.std.proofs.Common.{◌+◌, List, cond, get_or, nat_eq, subst, refl, arith}
use Rattle.clause_store.specs.declared.lit.Lit.{Lit}
use Rattle.bit_clauses.specs.Circuit.{DecidesAll}
use Rattle.bit_clauses.specs.Operation.{Spells}
use Rattle.bit_clauses.specs.Spelled.{spelled}
use Rattle.bit_clauses.proofs.Tables.{picked-none, picked-more}
use Rattle.bit_clauses.proofs.byte_select.byte_select.Goals as goal

pub loop-i-init : goal.loop-i-init
loop-i-init c = picked-none c.args.clauses.now c.args.first c.args.bytes.now c.args.index.now c.in_ok-chosen.chosen c.args.yes c.opposite.result c.opposite.ensures c.in_ok-chosen.ensures
    c.requires.index_known c.requires.yes_known

pub loop-i-preserved : goal.loop-i-preserved
loop-i-preserved c =
    let index = c.args.index.now in
    let bytes = c.args.bytes.now in
    let i = c.loop-i.i in
    let place = c.args.first + i in
    let byte = get_or bytes i 0 in
    let after = c.in_ok-chosen-2.chosen in
    picked-more c.args.clauses.now c.loop-i.clauses c.entry.new.clauses c.args.first bytes index c.loop-i.chosen after c.args.yes i place byte
    c.loop-i-test.true refl refl (omega (arith, c.type_inv.bytes i)) c.loop-i.invariant
    (subst (λ (l : List Lit). Spells c.loop-i.clauses c.entry.new.clauses (λ v. DecidesAll v index × DecidesAll v l) c.args.yes 8 (λ w. cond (nat_eq (spelled w index) place) byte (spelled w l)) after)
    c.as_slice.ensures c.in_ok-chosen-2.ensures.spells)
