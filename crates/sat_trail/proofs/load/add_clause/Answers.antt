use Rattle.sat_trail.proofs.load.add_clause.Goals as goal

pub add-requires-clause-watched : goal.add-requires-clause-watched
add-requires-clause-watched c = c.in-Some.ensures
