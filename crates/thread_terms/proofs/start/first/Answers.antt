use Rattle.std.proofs.Common.{[], List, subst, sym}
use Rattle.bv_terms.specs.declared.node.TermId.{TermId}
use Rattle.step_terms.specs.Made.{IsMade}
use Rattle.thread_terms.specs.Standing.{BeginsAs}
use Rattle.thread_terms.proofs.Starting.{begins}
use Rattle.thread_terms.proofs.start.first.Goals as goal

pub returns-clause-begins : goal.returns-clause-begins
returns-clause-begins c =
    let one = c.word.new.pool in
    let two = c.word-2.new.pool in
    let z = c.in_ok-zero.zero in
    let sp = c.in_ok-top.top in
    subst (λ (l : List TermId). BeginsAs two l) (sym c.write.ensures)
    (begins one two c.args.pool.now z sp c.word-2.ensures.grows c.in_ok-zero.ensures.made (subst (λ n. IsMade one two [] 32 (λ w. n) sp.number) c.stack_top.ensures c.in_ok-top.ensures.made))
