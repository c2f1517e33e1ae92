use Rattle.access_fits.proofs.Decided.{decided_fits_law}
use Rattle.access_fits.proofs.law.schedules_fit_by_decided_order.Goals as goal

pub returns : goal.returns
returns c = decided_fits_law
