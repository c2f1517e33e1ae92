use Rattle.std.proofs.lemmas.Result.{on_ok_weaker}
use Rattle.encoder.proofs.Encoding.{requires_one}
use Rattle.encoder.proofs.encoder.Encoder.require.Goals as goal

pub returns-clause-requires_it : goal.returns-clause-requires_it
returns-clause-requires_it c = on_ok_weaker c.assert_true.result
    (λ asserts. requires_one c.args.self.now.pool c.args.self.now.blaster c.assert_true.new.self c.args.self.now.clauses c.assert_true.new.clauses c.args.term.number c.requires.known asserts)
    c.assert_true.ensures.asserts
