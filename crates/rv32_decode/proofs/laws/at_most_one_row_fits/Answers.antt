-- The law of the table.
use Rattle.rv32_decode.proofs.Disjoint.{at_most_one}
use Rattle.rv32_decode.proofs.laws.at_most_one_row_fits.Goals as goal

pub returns : goal.returns
returns c = at_most_one
