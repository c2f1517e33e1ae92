use Rattle.std.specs.Prelude.{◌∷◌, []}
use Rattle.encoder.proofs.Encoding.{encodes_none}
use Rattle.encoder.proofs.encoder.Encoder.test.Goals as goal

pub returns-in-Some-eq1-clause-encodes : goal.returns-in-Some-eq1-clause-encodes
returns-in-Some-eq1-clause-encodes c = encodes_none c.args.self.now (c.args.term.number ∷ []) c.requires.known

pub returns-in-Some-clause-encodes : goal.returns-in-Some-clause-encodes
returns-in-Some-clause-encodes c = encodes_none c.args.self.now (c.args.term.number ∷ []) c.requires.known
