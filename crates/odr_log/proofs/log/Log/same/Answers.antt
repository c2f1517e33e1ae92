use Rattle.odr_log.specs.SameLaws.{same_log-exact}
use Rattle.odr_log.proofs.log.Log.same.Goals as goal

pub returns-clause-exact : goal.returns-clause-exact
returns-clause-exact c = rw c.eq.ensures (same_log-exact c.args.self.now c.args.other.now)
