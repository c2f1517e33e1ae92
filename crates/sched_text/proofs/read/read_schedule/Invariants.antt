use Rattle.std.proofs.Common.{◌≤◌, ◌+◌, length}
use Rattle.sched_text.proofs.ReadLines.{IsRead}
use Rattle.sched_text.proofs.read.read_schedule.Given as goal

abbrev pub invariant-loop-rest : goal.invariant-loop-rest
invariant-loop-rest l = record {
  read : IsRead l.fn.bytes l.schedule l.last l.line l.rest;
  counted : l.line + length l.rest ≤ length l.fn.bytes + 1;
}

abbrev pub decreases-loop-rest : goal.decreases-loop-rest
decreases-loop-rest l = length l.rest
