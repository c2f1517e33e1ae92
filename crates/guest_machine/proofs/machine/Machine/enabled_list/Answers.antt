use Rattle.guest_machine.proofs.EnabledLemmas.{enabled_states}
use Rattle.guest_machine.proofs.machine.Machine.enabled_list.Goals as goal

pub returns-clause-state : goal.returns-clause-state
returns-clause-state c = λ state stands. enabled_states c.args.self.now state stands
