use Rattle.sat_core.proofs.Leaving.{left-start}
use Rattle.sat_core.proofs.analysis.analyse.Goals as goal

pub find_cut-requires-clause-left : goal.find_cut-requires-clause-left
find_cut-requires-clause-left c =
    left-start (c.args.engine.now).clauses (c.args.engine.now).steps c.mark_all.new.marks.items c.args.clash c.clause.result.now c.requires c.clause.ensures.clause c.mark_all.ensures.all
