-- What an evaluation reads.
use Rattle.std.specs.Prelude.{ℕ, List, Option, option_map, refl}
use Rattle.std.specs.BTreeMap.{is_at}
use Rattle.std.specs.Coded.{Coded, code_by, coded×, coded_list}
use Rattle.std.specs.FinMap.{find}
use Rattle.std.specs.Map.{lookup}
use Rattle.std.specs.Option.{option_or}
use Rattle.hiera_config.specs.Documents.{File as DataFile}
use Rattle.pp_tree.specs.contracts.file.File as file
use Rattle.pp_tree.specs.contracts.manifest_file.ManifestFile as manifest
use Rattle.pp_values.specs.Codes.{coded_text}
use Rattle.pp_values.specs.Rising.{text_cmp}
use Rattle.pp_tree.specs.declared.file.File.{File}
use Rattle.pp_tree.specs.declared.manifest_file.ManifestFile.{ManifestFile}

-- the main manifest, and all of the site by their paths, in byte order; the paths and texts of the site's data
pub record Environment : Type 0 where
  pub main : File
  pub files : List (List ℕ × ManifestFile)
  pub site_data : List DataFile

-- the text of the file at a path, a manifest or another one
abbrev pub text_at : List ℕ → Environment → Option (List ℕ)
text_at path m =
    option_or (option_map (λ f. f.text) (lookup (is_at (text_cmp path)) m.files)) (find text_cmp path m.site_data)

abbrev pub coded_environment : Coded Environment
coded_environment =
    code_by (File × (List (List ℕ × ManifestFile) × List DataFile))
    (coded× file.the_row.coded (coded× (coded_list (coded× coded_text manifest.the_row.coded))
    (coded_list (coded× coded_text coded_text))))
    (λ e. (e.main, (e.files, e.site_data))) (λ p. record { main = p.0; files = p.1.0; site_data = p.1.1 }) (λ _. refl)
