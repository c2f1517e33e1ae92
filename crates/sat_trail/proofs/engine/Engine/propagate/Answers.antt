use Rattle.sat_trail.proofs.Running.{propagated}
use Rattle.sat_trail.proofs.engine.Engine.propagate.Goals as goal

pub returns : goal.returns
returns c =
    propagated c.self.inside.trail c.self.inside.index c.self.inside.next c.visit_rows.new.trail c.visit_rows.new.index c.in_ok-ran.ran c.args.self c.self.view_is c.in_ok-ran.ensures c.len-clauses.ensures.indexed
