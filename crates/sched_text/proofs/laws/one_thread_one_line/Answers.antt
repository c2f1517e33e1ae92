use Rattle.sched_text.specs.TextLaws.{schedule_text-one_thread}
use Rattle.sched_text.proofs.laws.one_thread_one_line.Goals as goal

pub returns-clause-line : goal.returns-clause-line
returns-clause-line c = schedule_text-one_thread
