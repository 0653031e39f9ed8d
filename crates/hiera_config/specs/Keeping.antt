-- How the files of data are kept.
use Rattle.std.specs.Prelude.{◌≡◌, ℕ, List, map, option_map}
use Rattle.std.specs.List.{All}
use Rattle.serde_json.specs.Read.{read}
use Rattle.serde_json.specs.View.{view as json_view}
use Rattle.hiera_config.specs.declared.site_data.DataFile.{DataFile}
use Rattle.hiera_config.specs.Config.{config_read}
use Rattle.hiera_config.specs.Documents.{File, is_of_module}
use Rattle.hiera_config.specs.FileOptions.{KeepsFile}
use Rattle.hiera_config.specs.Flags.{Knows}
use Rattle.hiera_config.specs.SoundData.{is_sound_document}

-- paths and texts
abbrev pub filed : List (List ℕ × DataFile) → List File
filed = map (λ e. (e.0, e.1.text))

-- what is kept of the file at a path is what its text means
pub record IsKept (path : List ℕ) (file : DataFile) : Type 0 where
  pub json : option_map json_view file.json ≡ read file.text
  pub config : file.config ≡ config_read (is_of_module path) file.text
  pub flags : Knows file.flags.items (option_map json_view file.json)
  pub sound : file.is_sound ≡ is_sound_document (option_map json_view file.json)
  pub options : KeepsFile (option_map json_view file.json) file.options

abbrev pub AreKept : List (List ℕ × DataFile) → Type 0
AreKept es = All (λ e. IsKept e.0 e.1) es
