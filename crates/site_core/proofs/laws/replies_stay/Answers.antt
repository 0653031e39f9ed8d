use Rattle.site_core.proofs.Fitting.{fits_grows, fits_less}
use Rattle.site_core.proofs.laws.replies_stay.Goals as goal

pub returns-clause-grown : goal.returns-clause-grown
returns-clause-grown g c = fits_grows g.L.Language.meaning g.L.Language.listed

pub returns-clause-less : goal.returns-clause-less
returns-clause-less g c = fits_less g.L.Language.meaning g.L.Language.listed
