-- The laws of the table.
use Rattle.rv32_decode.proofs.Disjoint.{row_is_read, instructions_fit}
use Rattle.rv32_decode.proofs.laws.row_that_fits_is_read.Goals as goal

pub returns-clause-read : goal.returns-clause-read
returns-clause-read c = row_is_read

pub returns-clause-only : goal.returns-clause-only
returns-clause-only c = instructions_fit
