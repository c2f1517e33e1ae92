use Rattle.std.proofs.Common.{refl}
use Rattle.guest_runs.proofs.logged.log_in.Goals as goal

pub returns-in-Ok : goal.returns-in-Ok
returns-in-Ok c = ((c.in-Ok.ensures.ok c.in-Ok.log).0 refl).1.0
