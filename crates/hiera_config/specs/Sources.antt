-- The sources of a key: the documents that have it, the highest first.
use Rattle.std.specs.Prelude.{ℕ, Bool, true, false, ◌&&◌, ◌||◌, ◌==◌, if◌then◌else◌, List, [], ◌∷◌, ◌++◌, Option, None}
use Rattle.std.specs.Prelude.{Some, Ok, Err, codes}
use Rattle.std.specs.Char.{is_ascii_lowercase, is_ascii_alphanumeric}
use Rattle.serde_json.specs.Data.{Data}
use Rattle.serde_json.specs.Find.{get}
use Rattle.serde_json.specs.Read.{read}
use Rattle.pp_values.specs.Datum.{Datum}
use Rattle.pp_values.specs.declared.fault.What.TheVariants as what
use Rattle.hiera_config.specs.declared.config.LevelPaths.{LevelPaths}
use Rattle.hiera_config.specs.declared.config.LevelPaths.TheVariants as paths
use Rattle.hiera_config.specs.declared.config.Level.{Level}
use Rattle.hiera_config.specs.declared.config.Config.{Config}
use Rattle.hiera_config.specs.Config.{config_read}
use Rattle.hiera_config.specs.Cuts.{Cut, cut_at}
use Rattle.hiera_config.specs.Documents.{File, text_at, is_of_module, is_document, strict}
use Rattle.hiera_config.specs.Meant.{Meant, go_on, in_turn}
use Rattle.hiera_config.specs.Variables.{Variables, hiding, variable, path_text, mapped_values}

-- a value of the key, and the path of the document that has it
abbrev pub Source : Type 0
Source = Datum × List ℕ

-- ---- one document

abbrev pub value_or_fault : List Source → List ℕ → Option Datum → Meant (List Source)
value_or_fault found path None = Err (what.BadData path)
value_or_fault found path (Some d) = Ok (found ++ (d, path) ∷ [])

abbrev pub in_member : List Source → List ℕ → Option Data → Meant (List Source)
in_member found path None = Ok found
in_member found path (Some d) = value_or_fault found path (strict d)

abbrev pub in_document : List ℕ → List Source → List ℕ → Option Data → Meant (List Source)
in_document key found path None = Err (what.BadData path)
in_document key found path (Some d) =
    if is_document d then in_member found path (get key d) else Err (what.BadData path)

abbrev pub in_text : List ℕ → List Source → List ℕ → Option (List ℕ) → Meant (List Source)
in_text key found path None = Ok found
in_text key found path (Some text) = in_document key found path (read text)

-- Behind the sources so far, what the file at a path has for the key. Where there is no file, nothing; where it is no
-- object, or a number of the key's value is no 64-bit integer, the file is faulty.
abbrev pub in_file : List File → List ℕ → List Source → List ℕ → Meant (List Source)
in_file files key found path = in_text key found path (text_at path files)

-- ---- one level

-- a path: the configuration's folder, the level's folder of data, `/`, and what the template says
abbrev pub joined_path : List ℕ → List ℕ → List ℕ → List ℕ
joined_path folder inner template = folder ++ inner ++ codes "/" ++ template

abbrev pub path_of : Variables → List ℕ → Level → List ℕ → Meant (List ℕ)
path_of variables folder level template =
    go_on (path_text variables level.folder)
    (λ inner. go_on (path_text variables template) (λ path. Ok (joined_path folder inner path)))

unfoldable pub in_template : List File → List ℕ → List ℕ → Level → Variables → List Source → List ℕ
    → Meant (List Source)
in_template files key folder level variables found template =
    go_on (path_of variables folder level template) (in_file files key found)

-- the name stands for each value in turn
unfoldable pub in_mapped : List File → List ℕ → List ℕ → Level → Variables → List ℕ → List ℕ → List Source → Datum
    → Meant (List Source)
in_mapped files key folder level variables name template found d =
    in_template files key folder level (hiding name d variables) found template

abbrev pub in_paths : List File → List ℕ → List ℕ → Variables → Level → LevelPaths → List Source → Meant (List Source)
in_paths files key folder variables level (paths.Templates ts) found =
    in_turn (in_template files key folder level variables) found ts
in_paths files key folder variables level (paths.Mapped name_read name template) found =
    in_turn (in_mapped files key folder level variables name template) found
    (mapped_values (variable variables name_read))

unfoldable pub in_level : List File → List ℕ → List ℕ → Variables → List Source → Level → Meant (List Source)
in_level files key folder variables found level = in_paths files key folder variables level level.paths found

abbrev pub in_levels : List File → List ℕ → List ℕ → Variables → List Source → List Level → Meant (List Source)
in_levels files key folder variables found levels = in_turn (in_level files key folder variables) found levels

-- ---- layers

-- where a layer's configuration stands: this folder, which is empty or ends with `/`
abbrev pub config_path : List ℕ → List ℕ
config_path folder = folder ++ codes "hiera.yaml"

abbrev pub global_folder : List ℕ
global_folder = codes "global/"

abbrev pub module_folder : List ℕ → List ℕ
module_folder name = codes "modules/" ++ name ++ codes "/"

abbrev pub no_levels : Config
no_levels = record { levels = []; default_levels = [] }

abbrev pub config_or_bad : List ℕ → Option Config → Meant Config
config_or_bad path None = Err (what.BadData path)
config_or_bad path (Some config) = Ok config

-- its path tells whether it is a module's
abbrev pub config_at : List ℕ → Option (List ℕ) → Meant Config
config_at path None = Ok no_levels
config_at path (Some text) = config_or_bad path (config_read (is_of_module path) text)

-- the configuration of a folder; without one there are no levels
abbrev pub config_in : List File → List ℕ → Meant Config
config_in files folder = config_at (config_path folder) (text_at (config_path folder) files)

-- the levels of the global layer, or of the environment
unfoldable pub in_layer : List File → List ℕ → Variables → List ℕ → List Source → Meant (List Source)
in_layer files key variables folder found =
    go_on (config_in files folder) (λ config. in_levels files key folder variables found config.levels)

-- the default levels count where no source has the key
abbrev pub or_default : List File → List ℕ → Variables → List ℕ → List Level → List Source → Meant (List Source)
or_default files key variables folder levels [] = in_levels files key folder variables [] levels
or_default files key variables folder levels (s ∷ found) = Ok (s ∷ found)

abbrev pub in_module_config : List File → List ℕ → Variables → List ℕ → List Source → Config → Meant (List Source)
in_module_config files key variables folder found config =
    go_on (in_levels files key folder variables found config.levels)
    (or_default files key variables folder config.default_levels)

unfoldable pub in_module : List File → List ℕ → Variables → Option (List ℕ) → List Source → Meant (List Source)
in_module files key variables None found = Ok found
in_module files key variables (Some name) found =
    go_on (config_in files (module_folder name)) (in_module_config files key variables (module_folder name) found)

-- the sources of a key: of the global layer, of the environment, and of this module, if there is one
abbrev pub sources : List File → Variables → Option (List ℕ) → List ℕ → Meant (List Source)
sources files variables name key =
    go_on (in_layer files key variables global_folder [])
    (λ found. go_on (in_layer files key variables [] found) (in_module files key variables name))

-- ---- the module of a key

abbrev pub begins_name : ℕ → Bool
begins_name b = is_ascii_lowercase b || (b == 95)

abbrev pub is_name_byte : ℕ → Bool
is_name_byte b = is_ascii_alphanumeric b || (b == 95)

-- a letter, a digit or `_`, or `-` before one of these
abbrev pub stands : ℕ → List ℕ → Bool
stands b [] = is_name_byte b
stands b (c ∷ cs) = is_name_byte b || ((b == 45) && is_name_byte c)

abbrev pub goes_on_name : List ℕ → Bool
goes_on_name [] = true
goes_on_name (b ∷ bs) = stands b bs && goes_on_name bs

-- a segment of a name that begins in lower case or with `_`
abbrev pub is_segment : List ℕ → Bool
is_segment [] = false
is_segment (b ∷ bs) = begins_name b && goes_on_name bs

abbrev pub segment_before : Option Cut → Option (List ℕ)
segment_before None = None
segment_before (Some c) = if is_segment c.0 then Some c.0 else None

-- what stands before the first `::`, where that can be a module's name
abbrev pub module_of : List ℕ → Option (List ℕ)
module_of key = segment_before (cut_at (codes "::") key)
