use Rattle.walk_facts.proofs.Rights.{rights_law}
use Rattle.walk_facts.proofs.law.accesses_have_rights.Goals as goal

pub returns : goal.returns
returns c = rights_law
