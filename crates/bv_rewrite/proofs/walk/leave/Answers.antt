use Rattle.std.proofs.Common.{nat_eq}
use Rattle.indexmap.specs.IndexMap.{get}
use Rattle.bv_rewrite.proofs.Walking.{done-insert}
use Rattle.bv_rewrite.proofs.walk.leave.Goals as goal

pub returns-clause-done : goal.returns-clause-done
returns-clause-done g c =
    done-insert c.args.pool.now c.made.new.pool (get nat_eq c.args.done.now) (get nat_eq c.insert.new.self) c.args.term.number c.in_ok-id.id c.made.ensures.older c.made.ensures.variables
    c.requires.within c.requires.done c.in_ok-id.ensures.stands c.in_ok-insert.ensures.updates.0
