use Rattle.rv_model.proofs.Acts.{bytes_act_at, bytes_asked}
use Rattle.rv_model.proofs.law.only_reads_use_bytes.Goals as goal

pub returns : goal.returns
returns c = λ local fetched heard bytes. record { asks = bytes_asked local fetched heard.reach bytes; acts = bytes_act_at local fetched heard bytes }
