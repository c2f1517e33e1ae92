use Rattle.valid_logs.proofs.Valid.{reads_bytes}
use Rattle.valid_logs.proofs.law.valid_logs_read_bytes.Goals as goal

pub returns : goal.returns
returns c = reads_bytes
