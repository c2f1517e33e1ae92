use Rattle.odr_log.proofs.Whole.{first_bad-no_log, first_bad-one, some_first_bad}
use Rattle.odr_log.proofs.laws.one_first_bad.Goals as goal

pub returns-clause-one : goal.returns-clause-one
returns-clause-one c = first_bad-one

pub returns-clause-no_log : goal.returns-clause-no_log
returns-clause-no_log c = λ bytes p bad some. first_bad-no_log bytes p bad some.0 some.1 some.2

pub returns-clause-some : goal.returns-clause-some
returns-clause-some c = some_first_bad
