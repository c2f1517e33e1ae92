use Rattle.walk_flow.proofs.Dependence.{flow_law}
use Rattle.walk_flow.proofs.law.steps_depend_on_flow.Goals as goal

pub returns : goal.returns
returns c = flow_law
