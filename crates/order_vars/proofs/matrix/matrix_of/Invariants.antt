use Rattle.order_vars.proofs.Cells.{AreCells}
use Rattle.order_vars.proofs.matrix.matrix_of.Given as goal

abbrev pub invariant-loop-k : goal.invariant-loop-k
invariant-loop-k l = AreCells l.order l.chosen l.recorded l.k
