use Rattle.std.proofs.Common.{refl}
use Rattle.site_bundle.proofs.WalkSteps.{no_node}
use Rattle.site_bundle.proofs.walking.read_facts.Goals as goal

pub returns-in-None : goal.returns-in-None
returns-in-None g c = no_node _ _ c.args.front.now c.args.name.now _ _ c.in-None.ensures refl
