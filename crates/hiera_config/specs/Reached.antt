-- What the levels of a node come to, whatever the key: files, and faults in their places.
use Rattle.std.specs.Prelude.{ℕ, List, [], ◌∷◌, ◌++◌, Option, None, Some, Ok, Err}
use Rattle.serde_json.specs.Data.{Data}
use Rattle.serde_json.specs.Read.{read}
use Rattle.pp_values.specs.Datum.{Datum}
use Rattle.pp_values.specs.declared.fault.What.{What}
use Rattle.hiera_config.specs.declared.config.Config.{Config}
use Rattle.hiera_config.specs.declared.config.Level.{Level}
use Rattle.hiera_config.specs.declared.config.LevelPaths.{LevelPaths}
use Rattle.hiera_config.specs.declared.config.LevelPaths.TheVariants as paths
use Rattle.hiera_config.specs.Documents.{File, text_at}
use Rattle.hiera_config.specs.Meant.{Meant, go_on, in_turn}
use Rattle.hiera_config.specs.Sources.{Source, in_document, path_of, config_in, global_folder, module_folder}
use Rattle.hiera_config.specs.Variables.{Variables, hiding, variable, mapped_values}

pub data Reached : Type 0 where
  -- a file that stands at this path, and the JSON that it is
  file : List ℕ → Option Data → Reached
  -- no path, or no levels
  broken : What → Reached

-- ---- where a level leads

abbrev pub file_if : List ℕ → Option (List ℕ) → List Reached
file_if path None = []
file_if path (Some text) = file path (read text) ∷ []

abbrev pub file_at : List File → List ℕ → List Reached
file_at files path = file_if path (text_at path files)

abbrev pub come_to : List File → Meant (List ℕ) → List Reached
come_to files (Ok path) = file_at files path
come_to files (Err w) = broken w ∷ []

unfoldable pub in_template : List File → List ℕ → Level → Variables → List ℕ → List Reached
in_template files folder level v template = come_to files (path_of v folder level template)

-- one after another
unfoldable pub each : {A : Type 0} → (A → List Reached) → List A → List Reached
each f [] = []
each f (x ∷ xs) = f x ++ each f xs

abbrev pub in_templates : List File → List ℕ → Level → Variables → List (List ℕ) → List Reached
in_templates files folder level v ts = each (in_template files folder level v) ts

-- the name stands for each value in turn
abbrev pub in_mapped : List File → List ℕ → Level → Variables → List ℕ → List ℕ → List Datum → List Reached
in_mapped files folder level v name template ds =
    each (λ d. in_template files folder level (hiding name d v) template) ds

abbrev pub in_paths : List File → Variables → List ℕ → Level → LevelPaths → List Reached
in_paths files v folder level (paths.Templates ts) = in_templates files folder level v ts
in_paths files v folder level (paths.Mapped name_read name template) =
    in_mapped files folder level v name template (mapped_values (variable v name_read))

abbrev pub in_level : List File → Variables → List ℕ → Level → List Reached
in_level files v folder level = in_paths files v folder level level.paths

abbrev pub in_levels : List File → Variables → List ℕ → List Level → List Reached
in_levels files v folder levels = each (in_level files v folder) levels

-- a configuration that is none stands in the place of its levels
abbrev pub in_config : (Config → List Reached) → Meant Config → List Reached
in_config levels (Ok config) = levels config
in_config levels (Err w) = broken w ∷ []

abbrev pub in_layer : List File → Variables → List ℕ → List Reached
in_layer files v folder = in_config (λ c. in_levels files v folder c.levels) (config_in files folder)

abbrev pub in_default : List File → Variables → List ℕ → List Reached
in_default files v folder = in_config (λ c. in_levels files v folder c.default_levels) (config_in files folder)

abbrev pub in_module : List File → Variables → Option (List ℕ) → List Reached
in_module files v None = []
in_module files v (Some name) = in_layer files v (module_folder name)

-- the global layer, the environment, and this module, if there is one
abbrev pub reach : List File → Variables → Option (List ℕ) → List Reached
reach files v name = in_layer files v global_folder ++ (in_layer files v [] ++ in_module files v name)

-- the default levels of this module
abbrev pub reach_default : List File → Variables → Option (List ℕ) → List Reached
reach_default files v None = []
reach_default files v (Some name) = in_default files v (module_folder name)

-- ---- what they have for a key

abbrev pub read_from : List ℕ → List Source → Reached → Meant (List Source)
read_from key found (file path d) = in_document key found path d
read_from key found (broken w) = Err w

-- the default levels count where no source has the key
abbrev pub or_default : List ℕ → List Reached → List Source → Meant (List Source)
or_default key rs [] = in_turn (read_from key) [] rs
or_default key rs (s ∷ found) = Ok (s ∷ found)

-- the sources of a key (`proofs/ReachLemmas.antt`: this is what `sources` is)
abbrev pub read_all : List ℕ → List Reached → List Reached → Meant (List Source)
read_all key rs defaults = go_on (in_turn (read_from key) [] rs) (or_default key defaults)
