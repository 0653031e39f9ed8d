use Rattle.std.proofs.Common.{ap, [], ◌∙◌}
use Rattle.site_bundle.specs.SiteView.{put_in}
use Rattle.site_bundle.proofs.parsing.parse_all.Goals as goal

pub returns : goal.returns
returns g c = c.in_ok-files.ensures ∙ ap (put_in []) c.in_ok-parsed.ensures ∙ c.in_ok-manifests.ensures
