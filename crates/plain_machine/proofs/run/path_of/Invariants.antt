use Rattle.std.proofs.Common.{◌≡◌, take}
use Rattle.rv_model.specs.Run.{path_of}
use Rattle.plain_machine.proofs.run.path_of.Given as goal

abbrev pub invariant-loop-event : goal.invariant-loop-event
invariant-loop-event l = l.path ≡ path_of l.thread (take l.event-index l.events)
