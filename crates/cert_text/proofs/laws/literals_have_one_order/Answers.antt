use Rattle.cert_text.specs.OrderLaws.{either, not_itself, onward}
use Rattle.cert_text.proofs.laws.literals_have_one_order.Goals as goal

pub returns-clause-either : goal.returns-clause-either
returns-clause-either c = either

pub returns-clause-not_itself : goal.returns-clause-not_itself
returns-clause-not_itself c = not_itself

pub returns-clause-onward : goal.returns-clause-onward
returns-clause-onward c = onward
