use Rattle.written_parts.proofs.Writing.{parts}
use Rattle.written_parts.proofs.law.written_bytes_are_parts.Goals as goal

pub returns : goal.returns
returns c = parts
