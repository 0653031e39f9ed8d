use Rattle.std.proofs.Common.{ap, ◌∙◌}
use Rattle.std.specs.FinMap.{find}
use Rattle.pp_values.specs.Rising.{text_cmp}
use Rattle.site_bundle.proofs.SiteLemmas.{lookup-find}
use Rattle.site_bundle.proofs.manifest_texts.ManifestTexts.get.Goals as goal

pub returns : goal.returns
returns c =
    c.get.ensures.value ∙ lookup-find c.self.inside.by_path.entries c.args.path.now
    ∙ ap (find text_cmp c.args.path.now) c.self.view_is
