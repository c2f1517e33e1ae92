use Rattle.std.proofs.Common.{rules}
use Rattle.guest_machine.proofs.BlockedLemmas.{held_up_there, ready_there}
use Rattle.guest_machine.proofs.machine.Machine.held_up.Goals as goal

pub returns-then-not-is_call : goal.returns-then-not-is_call
returns-then-not-is_call c = ready_there c.args.self.now c.args.tid (search rules)

pub returns : goal.returns
returns c = held_up_there c.args.self.now c.args.tid c.held_up.result (search rules) (search rules)
