use Rattle.same_parts.proofs.Sameness.{same_bytes}
use Rattle.same_parts.proofs.law.same_bytes_are_parts.Goals as goal

pub returns : goal.returns
returns c = same_bytes
