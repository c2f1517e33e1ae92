use Rattle.walk_facts.proofs.Accesses.{accesses_law}
use Rattle.walk_facts.proofs.law.accesses_are_listed.Goals as goal

pub returns : goal.returns
returns c = accesses_law
