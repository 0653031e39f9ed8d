use Rattle.site_core.proofs.Sets.{latest_sets}
use Rattle.site_core.proofs.laws.sets_are_the_latest.Goals as goal

pub returns : goal.returns
returns g c = latest_sets
