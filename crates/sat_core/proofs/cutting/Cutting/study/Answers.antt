use Rattle.sat_core.proofs.cutting.Cutting.study.Goals as goal

pub clause-requires : goal.clause-requires
clause-requires c = c.requires
