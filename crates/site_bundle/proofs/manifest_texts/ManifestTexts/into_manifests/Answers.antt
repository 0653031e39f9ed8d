use Rattle.std.proofs.Common.{ap, [], ◌∙◌}
use Rattle.site_bundle.specs.SiteView.{put_in}
use Rattle.site_bundle.proofs.SiteLemmas.{put_in_rising}
use Rattle.site_bundle.proofs.manifest_texts.ManifestTexts.into_manifests.Goals as goal

pub returns : goal.returns
returns c = ap (put_in []) c.in_ok-manifests.ensures ∙ put_in_rising _ c.self.invariant.0 ∙ c.self.view_is
