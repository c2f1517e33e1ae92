use Rattle.std.proofs.Common.{refl, arith}
use Rattle.std.proofs.lemmas.Bool.{false≢true}
use Rattle.clause_check.proofs.Judging as judging
use Rattle.clause_check.proofs.verdict.verdict_of.Goals as goal

pub overflow_add-result : goal.overflow_add-result
overflow_add-result c = omega (arith, judging.gap-within (c.args.clauses.now).clauses c.args.lines.now c.args.gap c.in-Some.at c.requires c.in-Some.is, c.len-count.ensures)

pub returns-in-Some : goal.returns-in-Some
returns-in-Some c = (c.in-Some.at, refl, judging.gap-some (c.args.clauses.now).clauses c.args.lines.now c.args.gap c.in-Some.at c.requires c.in-Some.is)

pub returns-then-ends_empty : goal.returns-then-ends_empty
returns-then-ends_empty c = (judging.gap-none (c.args.clauses.now).clauses c.args.lines.now c.args.gap c.requires c.in-None.is, (c.if-ends_empty.ensures).0 refl)

pub returns-else-ends_empty : goal.returns-else-ends_empty
returns-else-ends_empty c = (judging.gap-none (c.args.clauses.now).clauses c.args.lines.now c.args.gap c.requires c.in-None.is, λ ends. false≢true ((c.if-ends_empty.ensures).1 ends), c.len-count.ensures)
