use Rattle.std.proofs.Common.{sym, ◌∙◌}
use Rattle.catalog_reading.proofs.RisingNames.{attributes_rise, none_left}
use Rattle.catalog_reading.proofs.resources.attributes_said.Goals as goal

pub from_vec-requires : goal.from_vec-requires
from_vec-requires c =
    attributes_rise c.args.members.now.entries _
    (sym c.loop-name.invariant ∙ none_left _ _ c.in-None.ensures.steps.0) c.iter-name-items.ensures.ordered
