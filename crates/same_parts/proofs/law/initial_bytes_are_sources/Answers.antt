use Rattle.same_parts.proofs.Sources.{initial_sources}
use Rattle.same_parts.proofs.law.initial_bytes_are_sources.Goals as goal

pub returns : goal.returns
returns c = initial_sources
