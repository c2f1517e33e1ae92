use Rattle.std.proofs.Common.{arith}
use Rattle.clause_check.proofs.Judging as judging
use Rattle.clause_check.proofs.verdict.ends_empty.Goals as goal

pub returns-then-count-eq0 : goal.returns-then-count-eq0
returns-then-count-eq0 c = judging.ends-none c.args.lines.now (omega arith)

pub returns : goal.returns
returns c = judging.ends-last c.args.lines.now c.len-count.result c.line.result.now c.is_empty.result c.len-count.ensures c.line.ensures c.is_empty.ensures
