use Rattle.walk_facts.proofs.Quiet.{quiet_law}
use Rattle.walk_facts.proofs.law.other_steps_are_quiet.Goals as goal

pub returns : goal.returns
returns c = quiet_law
