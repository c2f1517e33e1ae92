use Rattle.std.proofs.Common.{rules}
use Rattle.guest_machine.proofs.BlockedLemmas.{blocked_there, free_there}
use Rattle.guest_machine.proofs.machine.Machine.is_blocked.Goals as goal

pub returns-then-not-is_call : goal.returns-then-not-is_call
returns-then-not-is_call c = free_there c.args.self.now c.args.tid (search rules)

pub returns : goal.returns
returns c = blocked_there c.args.self.now c.args.tid c.blocked.result (search rules) (search rules)
