use Rattle.std.proofs.Common.{◌≡◌, take}
use Rattle.rv_model.specs.Run.{records_of}
use Rattle.plain_machine.proofs.run.records_of.Given as goal

abbrev pub invariant-loop-event : goal.invariant-loop-event
invariant-loop-event l = l.records ≡ records_of (take l.event-index l.events)
