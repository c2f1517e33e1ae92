use Rattle.stands_for.proofs.Given.{gives_accesses}
use Rattle.stands_for.proofs.law.order_gives_accesses.Goals as goal

pub returns : goal.returns
returns c = gives_accesses
