use Rattle.cert_text.specs.FirstBadLaws.{one_cert}
use Rattle.cert_text.proofs.laws.one_cert_of_a_text.Goals as goal

pub returns : goal.returns
returns c = one_cert
