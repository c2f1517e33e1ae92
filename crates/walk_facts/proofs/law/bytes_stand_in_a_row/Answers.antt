use Rattle.walk_facts.proofs.Writes.{address_law, writes_law}
use Rattle.walk_facts.proofs.law.bytes_stand_in_a_row.Goals as goal

pub returns : goal.returns
returns c = record { addresses = address_law; writes = writes_law }
