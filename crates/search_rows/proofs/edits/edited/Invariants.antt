use Rattle.std.specs.Prelude.{All}
use Rattle.clause_store.specs.Formula.{IsKnown}
use Rattle.search_rows.proofs.edits.edited.Given as goal

abbrev pub invariant-loop-at : goal.invariant-loop-at
invariant-loop-at l = All (IsKnown l.vars) l.all
