use Rattle.std.proofs.Common.{arith}
use Rattle.std.proofs.lemmas.Result.{on_ok_weaker}
use Rattle.encoder.proofs.Encoding.{encodes_one}
use Rattle.encoder.proofs.encoder.Encoder.append.Goals as goal

pub returns-clause-encodes : goal.returns-clause-encodes
returns-clause-encodes c = on_ok_weaker c.copy_bits.result
    (λ _. encodes_one c.args.self.now.pool c.args.self.now.blaster c.bits.new.self c.args.self.now.clauses c.bits.new.clauses c.args.term.number c.in_ok-bits.ensures.blasted) c.copy_bits.ensures

pub returns-clause-built : goal.returns-clause-built
returns-clause-built c = on_ok_weaker c.copy_bits.result
    (λ _. omega (arith, c.in_ok-bits.ensures.built.count, c.width-width.ensures.width, c.width-width.ensures.within.0)) c.copy_bits.ensures
