use Rattle.rv_model.proofs.Bounds.{step_bound}
use Rattle.rv_model.proofs.law.step_retires_at_most_one.Goals as goal

pub returns : goal.returns
returns c = λ image state thread other n within all. (step_bound image state thread n within (record { each = all })).each other
