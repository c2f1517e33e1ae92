use Rattle.rv_model.proofs.Acts.{walks_on_at}
use Rattle.rv_model.proofs.law.notes_lead.Goals as goal

pub returns : goal.returns
returns c = walks_on_at
