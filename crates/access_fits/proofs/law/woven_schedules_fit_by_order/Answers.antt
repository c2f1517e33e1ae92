use Rattle.access_fits.proofs.Woven.{woven_fits_law}
use Rattle.access_fits.proofs.law.woven_schedules_fit_by_order.Goals as goal

pub returns : goal.returns
returns c = woven_fits_law
