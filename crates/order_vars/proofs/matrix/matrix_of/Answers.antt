use Rattle.std.proofs.Common.{arith}
use Rattle.order_vars.proofs.Cells.{cells_all, cells_push}
use Rattle.order_vars.proofs.matrix.matrix_of.Goals as goal

pub returns-clause-cells : goal.returns-clause-cells
returns-clause-cells c =
    λ log is_order all i j i_in j_in.
    cells_all c.args.order.now c.args.chosen.now c.loop-k.recorded c.loop-k.k (omega (arith, c.loop-k-test.false)) c.loop-k.invariant log is_order all i j
    i_in j_in

pub loop-k-preserved : goal.loop-k-preserved
loop-k-preserved c =
    cells_push c.args.order.now c.args.chosen.now c.loop-k.recorded c.push.new.self c.before-in-loop-k.result c.loop-k.k
    (omega (arith, c.loop-k-test.true)) c.before-in-loop-k.ensures c.in_ok-push.ensures c.loop-k.invariant
