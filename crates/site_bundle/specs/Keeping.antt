-- The files of a site, of either kind.
use Rattle.std.specs.Prelude.{ℕ, if◌then◌else◌, List, []}
use Rattle.std.specs.FinMap.{put}
use Rattle.pp_values.specs.Rising.{text_cmp}
use Rattle.site_bundle.specs.declared.kept_files.KeptFiles.{KeptFiles}
use Rattle.site_bundle.specs.Given.{is_manifest_path}
use Rattle.site_bundle.specs.SiteView.{Filed, manifests_among, data_among, put_in}

abbrev pub no_files : KeptFiles
no_files = record { manifests = []; «data» = [] }

-- the files with this text at a path: its path says of which kind it is
abbrev pub with_text : List ℕ → List ℕ → KeptFiles → KeptFiles
with_text path text files =
    if is_manifest_path path
    then record { manifests = put text_cmp path text files.manifests; «data» = files.data }
    else record { manifests = files.manifests; «data» = put text_cmp path text files.data }

-- all of these files
abbrev pub kept : List Filed → KeptFiles
kept files = record { manifests = put_in [] (manifests_among files); «data» = put_in [] (data_among files) }
