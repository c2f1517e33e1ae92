use Rattle.bv_rewrite.proofs.Walking.{weigh}
use Rattle.bv_rewrite.proofs.walk.enter_child.Goals as goal

pub returns-clause-weight : goal.returns-clause-weight
returns-clause-weight c = rw c.in_ok-push.ensures.items (weigh c.args.walk.now.items c.args.child c.args.above.number c.requires.below)
