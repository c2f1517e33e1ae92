use Rattle.walk_facts.proofs.Givens.{bytes_law, given_law}
use Rattle.walk_facts.proofs.law.walks_ask_at_accesses.Goals as goal

pub returns : goal.returns
returns c = record { given = given_law; bytes = bytes_law }
