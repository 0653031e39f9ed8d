use Rattle.std.proofs.Common.{ap, ◌∙◌}
use Rattle.std.specs.FinMap.{find}
use Rattle.pp_values.specs.Rising.{text_cmp}
use Rattle.site_bundle.specs.Listing.{text_of}
use Rattle.site_bundle.proofs.SiteLemmas.{viewed, lookup-shown, viewed_read}
use Rattle.site_bundle.proofs.site_files.SiteFiles.get.Goals as goal

pub returns-clause-text : goal.returns-clause-text
returns-clause-text c =
    viewed text_of c.get.result _ c.get.ensures.value
    ∙ lookup-shown text_of c.self.inside.by_path.entries c.args.path.now
    ∙ ap (find text_cmp c.args.path.now) c.self.view_is

pub returns-clause-read : goal.returns-clause-read
returns-clause-read c = viewed_read c.get.result c.self.inside.by_path.entries c.args.path.now c.get.ensures.value
    c.self.invariant.1
