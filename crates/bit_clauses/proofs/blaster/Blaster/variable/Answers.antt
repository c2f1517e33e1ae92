use Rattle.bit_clauses.proofs.Blasted.{blasted_none}
use Rattle.bit_clauses.proofs.blaster.Blaster.variable.Goals as goal

pub returns-in-Some-clause-blasted : goal.returns-in-Some-clause-blasted
returns-in-Some-clause-blasted c = λ nodes root occurs of. blasted_none c.args.self.now nodes c.args.clauses.now root of
