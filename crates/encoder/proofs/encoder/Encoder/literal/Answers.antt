use Rattle.encoder.proofs.Encoding.{encodes_one}
use Rattle.encoder.proofs.encoder.Encoder.literal.Goals as goal

pub returns-clause-encodes : goal.returns-clause-encodes
returns-clause-encodes c = encodes_one c.args.self.now.pool c.args.self.now.blaster c.bits.new.self c.args.self.now.clauses c.bits.new.clauses c.args.term.number c.in_ok-bits.ensures.blasted
