use Rattle.sched_text.specs.RunLaws.{steps_of-runs_of, runs_of-maximal, runs_of-steps_of}
use Rattle.sched_text.proofs.laws.runs_are_the_schedule.Goals as goal

pub returns-clause-steps : goal.returns-clause-steps
returns-clause-steps c = steps_of-runs_of

pub returns-clause-maximal : goal.returns-clause-maximal
returns-clause-maximal c = runs_of-maximal

pub returns-clause-only : goal.returns-clause-only
returns-clause-only c = runs_of-steps_of
