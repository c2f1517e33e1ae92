use Rattle.call_terms.proofs.Records.{records_tell}
use Rattle.call_terms.proofs.law.records_tell.Goals as goal

pub returns : goal.returns
returns c = records_tell
