use Rattle.odr_log.specs.SameLaws.{same_thread-exact}
use Rattle.odr_log.proofs.log.ThreadLog.same.Goals as goal

pub returns-clause-exact : goal.returns-clause-exact
returns-clause-exact c = rw c.eq.ensures (same_thread-exact c.args.self.now c.args.other.now)
