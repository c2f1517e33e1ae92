use Rattle.access_fits.proofs.Along.{fits_by_order}
use Rattle.access_fits.proofs.law.fits_by_order.Goals as goal

pub returns : goal.returns
returns c = fits_by_order
