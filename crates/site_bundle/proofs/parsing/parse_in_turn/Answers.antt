use Rattle.std.proofs.Common.{◌∙◌}
use Rattle.site_bundle.proofs.parsing.parse_in_turn.Goals as goal

pub returns : goal.returns
returns c = c.in_ok-files.ensures ∙ c.in_ok-manifests.ensures
