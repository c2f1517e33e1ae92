use Rattle.rv_model.proofs.CallRows.{follows_row}
use Rattle.rv_model.proofs.law.calls_follow_table.Goals as goal

pub returns : goal.returns
returns c = follows_row
