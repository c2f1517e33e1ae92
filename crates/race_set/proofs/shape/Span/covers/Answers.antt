use Rattle.std.proofs.Common.{arith}
use Rattle.race_set.proofs.Spans.{covers_is, has_exactly}
use Rattle.race_set.proofs.shape.Span.covers.Goals as goal

pub returns-clause-covers : goal.returns-clause-covers
returns-clause-covers c = covers_is c.args.self.now c.args.byte (omega arith)

pub returns-clause-has : goal.returns-clause-has
returns-clause-has c = has_exactly c.args.self.now c.args.byte (omega arith) (omega arith) (omega arith)
