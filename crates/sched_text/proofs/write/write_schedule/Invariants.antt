use Rattle.std.proofs.Common.{◌≡◌, ◌≤◌, ◌++◌, length}
use Rattle.sched_text.specs.Text.{schedule_text}
use Rattle.sched_text.proofs.write.write_schedule.Given as goal

-- what is written and the text of what is left are the text of all
abbrev pub invariant-loop-run : goal.invariant-loop-run
invariant-loop-run l = record {
  few : length l.rest ≤ 1000000;
  whole : l.text.items ++ schedule_text l.rest ≡ schedule_text l.fn.schedule;
}

abbrev pub decreases-loop-run : goal.decreases-loop-run
decreases-loop-run l = length l.rest
