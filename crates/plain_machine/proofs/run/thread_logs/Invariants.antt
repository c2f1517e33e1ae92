use Rattle.std.proofs.Common.{◌≡◌, ◌++◌, drop}
use Rattle.rv_model.specs.Run.{thread_logs}
use Rattle.plain_machine.proofs.run.thread_logs.Given as goal

abbrev pub invariant-loop-number : goal.invariant-loop-number
invariant-loop-number l = l.logs ++ thread_logs l.number (drop l.number l.threads) l.events ≡ thread_logs 0 l.threads l.events
