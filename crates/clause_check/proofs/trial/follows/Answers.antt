use Rattle.std.proofs.Common.{ℕ, subst}
use Rattle.clause_check.specs.Trials.{IsTakenBack}
use Rattle.clause_check.proofs.Trying as trying
use Rattle.clause_check.proofs.trial.follows.Goals as goal

pub take_back-base-requires : goal.take_back-base-requires
take_back-base-requires c = rw c.len-count.ensures.number (trying.can-take_back c.args.engine c.in_ok-tried.tried c.in_ok-tried.ensures.above)

pub returns-clause-same : goal.returns-clause-same
returns-clause-same c =
    trying.taken_back c.args.engine c.in_ok-tried.tried c.take_back-base.result c.requires.calm c.in_ok-tried.ensures.above
    (subst (λ (n : ℕ). IsTakenBack c.in_ok-tried.tried n c.take_back-base.result) c.len-count.ensures.number c.take_back-base.ensures)

pub returns-clause-exact : goal.returns-clause-exact
returns-clause-exact c = c.in_ok-tried.ensures.exact
