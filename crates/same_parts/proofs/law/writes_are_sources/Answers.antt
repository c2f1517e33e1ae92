use Rattle.same_parts.proofs.Sources.{writes_sources}
use Rattle.same_parts.proofs.law.writes_are_sources.Goals as goal

pub returns : goal.returns
returns c = writes_sources
