use Rattle.std.proofs.Common.{ap, ◌∙◌}
use Rattle.site_io.specs.Folders.{folder_front}
use Rattle.site_bundle.proofs.FolderSteps.{site_stopped, site_found}
use Rattle.site_bundle.proofs.folder.read_bundle_in.Goals as goal

pub returns-in_err-gathered : goal.returns-in_err-gathered
returns-in_err-gathered g c =
    site_stopped c.args.folder.now _ _ _
    (c.as_str-2.ensures.text ∙ c.in_ok-front.ensures ∙ ap folder_front c.as_str.ensures.text)
    c.from_residual-in_err-gathered.ensures.1 c.in_err-gathered.ensures

pub returns : goal.returns
returns g c =
    site_found c.args.folder.now _ _ _
    (c.as_str-2.ensures.text ∙ c.in_ok-front.ensures ∙ ap folder_front c.as_str.ensures.text)
    c.in_ok-gathered.ensures c.bundle_with.ensures
