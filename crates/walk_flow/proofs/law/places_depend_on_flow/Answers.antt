use Rattle.walk_flow.proofs.Dependence.{place_flow_law}
use Rattle.walk_flow.proofs.law.places_depend_on_flow.Goals as goal

pub returns : goal.returns
returns c = place_flow_law
