use Rattle.step_terms.proofs.Making.{second_part}
use Rattle.step_terms.proofs.atomic.taken_over.Goals as goal

pub returns : goal.returns
returns c = second_part c.args.pool.now c.args.old.number c.args.word.number 32 c.requires
