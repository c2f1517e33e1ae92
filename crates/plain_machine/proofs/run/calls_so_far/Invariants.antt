use Rattle.std.proofs.Common.{◌≡◌, ◌≤◌, length, take}
use Rattle.rv_model.specs.Run.{records_of}
use Rattle.plain_machine.proofs.run.calls_so_far.Given as goal

abbrev pub invariant-loop-event : goal.invariant-loop-event
invariant-loop-event l = (l.count ≡ length (records_of (take l.event-index l.events))) × (l.count ≤ l.event-index)
