use Rattle.std.proofs.Common.{sym}
use Rattle.sched_text.specs.LineLaws.{IsFreeOf}
use Rattle.sched_text.proofs.Splits.{is_first, is_free, none_from}
use Rattle.sched_text.proofs.split.split_once.Goals as goal

pub returns-in_err-at-clause-none : goal.returns-in_err-at-clause-none
returns-in_err-at-clause-none c = none_from c.from_residual.result (IsFreeOf c.args.byte c.args.bytes.now) (is_free c.args.byte c.args.bytes.now (sym c.in_err-at.ensures.first))

pub returns-clause-first : goal.returns-clause-first
returns-clause-first c = (is_first c.args.byte c.args.bytes.now c.in_ok-at.at (sym c.in_ok-at.ensures.first)).free
