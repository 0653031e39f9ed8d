use Rattle.std.proofs.Common.{sym, subst, refl}
use Rattle.std.specs.Prelude.{IsSome}
use Rattle.std.specs.FinMap.{find}
use Rattle.pp_values.specs.Rising.{text_cmp}
use Rattle.pp_values.specs.declared.place.TheConstants.{MAIN_MANIFEST}
use Rattle.site_bundle.specs.declared.kept_files.KeptFiles.{KeptFiles}
use Rattle.site_bundle.specs.Given.{is_manifest_path}
use Rattle.site_bundle.specs.SiteView.{manifests_among}
use Rattle.site_bundle.proofs.KeptLemmas.{key_among}
use Rattle.site_bundle.proofs.SiteLemmas.{found_if_given}
use Rattle.site_bundle.proofs.site.make_site.Goals as goal

pub site_in_turn-requires : goal.site_in_turn-requires
site_in_turn-requires c =
    subst (λ (files : KeptFiles). IsSome (find text_cmp MAIN_MANIFEST.now files.manifests)) (sym c.in_ok-manifests.ensures)
    (found_if_given MAIN_MANIFEST.now (manifests_among c.args.files)
    (key_among is_manifest_path MAIN_MANIFEST.now c.args.files refl c.requires.main))
