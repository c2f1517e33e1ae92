use Rattle.sat_core.proofs.law.keys_differ.Goals as goal
use Rattle.sat_core.proofs.Answering as answering

pub returns : goal.returns
returns c = answering.keys_differ
