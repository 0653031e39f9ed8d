use Rattle.site_core.proofs.Growing.{stays}
use Rattle.site_core.proofs.laws.snapshots_stay.Goals as goal

pub returns : goal.returns
returns g c = stays
