use Rattle.std.proofs.Common.{◌∙◌}
use Rattle.race_set.proofs.Positions.{cells_say, positions_square}
use Rattle.race_set.proofs.matrix.Matrix.of.Goals as goal

pub returns-clause-recorded : goal.returns-clause-recorded
returns-clause-recorded c =
    cells_say c.args.order.now c.args.shapes.now c.as_slice.result.now c.in_ok-cells.cells (c.as_slice.ensures.value ∙ c.in_ok-positions.ensures)
    c.in_ok-cells.ensures.cells

pub returns-clause-square : goal.returns-clause-square
returns-clause-square c =
    positions_square c.args.shapes.now c.as_slice.result.now c.in_ok-cells.cells (c.as_slice.ensures.value ∙ c.in_ok-positions.ensures) c.in_ok-cells.ensures.square
