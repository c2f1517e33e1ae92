use Rattle.bit_clauses.proofs.Blasted.{blasted_none}
use Rattle.bit_clauses.proofs.blaster.Blaster.ensure_built.Goals as goal

pub returns-then-is_built-clause-blasted : goal.returns-then-is_built-clause-blasted
returns-then-is_built-clause-blasted c = blasted_none c.args.self.now c.args.pool.now c.args.clauses.now c.args.term.number c.requires.known
