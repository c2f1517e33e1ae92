use Rattle.read_parts.proofs.Whole.{readers_whole}
use Rattle.read_parts.proofs.law.readers_are_parts.Goals as goal

pub returns : goal.returns
returns c = readers_whole
