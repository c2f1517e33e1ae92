use Rattle.stands_for.proofs.Given.{decides_all}
use Rattle.stands_for.proofs.law.order_decides_all.Goals as goal

pub returns : goal.returns
returns c = decides_all
