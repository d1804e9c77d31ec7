use Rattle.drawn_releases.proofs.Fits as fits
use Rattle.drawn_releases.proofs.releases_fit.Goals as goal

pub returns : goal.returns
returns c = fits.releases_fit
