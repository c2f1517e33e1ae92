use Rattle.walk_facts.proofs.Links.{link_law, looks_back_law, reserved_law}
use Rattle.walk_facts.proofs.law.links_look_back.Goals as goal

pub returns : goal.returns
returns c = record { back = looks_back_law; link = link_law; reserved = reserved_law }
