use Rattle.std.proofs.Common.{◌≡◌, List, sym, subst}
use Rattle.std.specs.Prelude.{IfOk, IsSome}
use Rattle.std.specs.FinMap.{find}
use Rattle.pp_values.specs.Rising.{text_cmp}
use Rattle.pp_values.specs.declared.place.TheConstants.{MAIN_MANIFEST}
use Rattle.site_bundle.specs.SiteView.{SiteView, Filed}
use Rattle.site_bundle.proofs.site.site_in_turn.Goals as goal

pub site_of_files-requires : goal.site_of_files-requires
site_of_files-requires c =
    subst (λ (files : List Filed). IsSome (find text_cmp MAIN_MANIFEST.now files)) (sym c.in_ok-files.ensures) c.requires

pub returns : goal.returns
returns c =
    subst (λ (files : List Filed). IfOk c.site_of_files.result
    (λ (s : SiteView). s ≡ record { manifests = files; «data» = c.args.others; nodes = c.args.nodes }))
    c.in_ok-files.ensures c.site_of_files.ensures
