use Rattle.std.proofs.Common.{◌≡◌, map, take}
use Rattle.rv_model.specs.Thread.{losing}
use Rattle.plain_machine.proofs.machine.losing.Given as goal

abbrev pub invariant-loop-thread : goal.invariant-loop-thread
invariant-loop-thread l = l.left ≡ map (losing l.writes) (take l.thread-index l.threads)
