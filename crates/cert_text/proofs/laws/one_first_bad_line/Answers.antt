use Rattle.cert_text.specs.FirstBadLaws.{no_bad_line, one_bad_line}
use Rattle.cert_text.proofs.laws.one_first_bad_line.Goals as goal

pub returns-clause-none : goal.returns-clause-none
returns-clause-none c = λ cert bytes line is first. no_bad_line bytes cert line first is

pub returns-clause-one : goal.returns-clause-one
returns-clause-one c = one_bad_line
