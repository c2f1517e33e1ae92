use Rattle.clause_check.proofs.Trying as trying
use Rattle.clause_check.proofs.trial.assume_one.Goals as goal

pub returns-in_ok-next-in-Open : goal.returns-in_ok-next-in-Open
returns-in_ok-next-in-Open c =
    rw c.is_some.ensures
    (trying.assumed-open c.args.engine c.in_ok-decided-in-Open.decided c.in_ok-next-in-Open.next c.args.lit c.in_ok-next-in-Open.clash c.in-Open.ensures (rw c.opposite.ensures at c.in_ok-decided-in-Open.ensures) c.in_ok-next-in-Open.ensures)
