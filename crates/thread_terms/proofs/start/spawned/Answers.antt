use Rattle.std.proofs.Common.{[], ◌∙◌, List, ap, subst, sym}
use Rattle.bv_terms.specs.declared.node.TermId.{TermId}
use Rattle.step_terms.specs.Made.{IsMade}
use Rattle.thread_terms.specs.Standing.{SpawnedAs}
use Rattle.thread_terms.proofs.Standing.{written}
use Rattle.thread_terms.proofs.Starting.{spawns}
use Rattle.thread_terms.proofs.start.spawned.Goals as goal

pub returns-clause-begins : goal.returns-clause-begins
returns-clause-begins c =
    let old = c.args.pool.now in
    let one = c.word.new.pool in
    let two = c.word-2.new.pool in
    let z = c.in_ok-zero.zero in
    let sp = c.in_ok-top.top in
    let gp = c.args.gp in
    let argument = c.args.argument in
    let all = c.write-3.ensures ∙ ap (λ (l : List TermId). written l 10 argument) (c.write-2.ensures ∙ ap (λ (l : List TermId). written l 3 gp) c.write.ensures) in
    subst (λ (l : List TermId). SpawnedAs old two c.args.thread gp.number argument.number l) (sym all)
    (spawns old one two c.args.thread z sp gp argument c.word.ensures.grows c.word-2.ensures.grows c.requires.gp c.requires.argument c.in_ok-zero.ensures.made
    (subst (λ n. IsMade one two [] 32 (λ w. n) sp.number) c.stack_top.ensures c.in_ok-top.ensures.made))
