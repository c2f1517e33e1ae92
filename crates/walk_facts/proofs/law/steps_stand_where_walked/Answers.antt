use Rattle.walk_facts.proofs.Addresses.{fault_law, instruction_law}
use Rattle.walk_facts.proofs.law.steps_stand_where_walked.Goals as goal

pub returns : goal.returns
returns c = record { counted = instruction_law; fault = fault_law }
