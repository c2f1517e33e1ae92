use Rattle.rv_model.proofs.Genuine.{recorded}
use Rattle.rv_model.proofs.law.recorded_log_is_genuine.Goals as goal

pub returns : goal.returns
returns c = recorded
