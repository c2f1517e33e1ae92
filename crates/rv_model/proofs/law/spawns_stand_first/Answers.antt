use Rattle.rv_model.proofs.SpawnLemmas.{spawn_first}
use Rattle.rv_model.proofs.law.spawns_stand_first.Goals as goal

pub returns : goal.returns
returns c = spawn_first
