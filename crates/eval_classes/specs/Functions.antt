-- Where the function of a name is found that the site defines.
use Rattle.std.specs.Prelude.{ℕ, List, [], ◌∷◌, ◌++◌, Option, None, Some, option_map, option_and_then, Result, Ok, Err}
use Rattle.std.specs.Prelude.{codes}
use Rattle.std.specs.Map.{lookup}
use Rattle.pp_tree.specs.Names.{same_name}
use Rattle.pp_tree.specs.declared.definition.Definition.{Definition}
use Rattle.pp_tree.specs.declared.definition.Definition.TheVariants as d
use Rattle.pp_tree.specs.declared.definition.Function.{Function}
use Rattle.pp_tree.specs.declared.file.File.{File}
use Rattle.pp_tree.specs.declared.manifest_file.ManifestFile.{ManifestFile}
use Rattle.pp_tree.specs.declared.table.DefinitionName.TheVariants as names
use Rattle.pp_values.specs.declared.fault.Fault.{Fault}
use Rattle.pp_values.specs.declared.place.TheConstants.{MAIN_MANIFEST}
use Rattle.res_core.specs.TagNames.{segments}
use Rattle.eval_world.specs.Environment.{Environment}
use Rattle.eval_classes.specs.Definitions.{file_at}
use Rattle.eval_classes.specs.declared.site_function.SiteFunction as held

-- a function, and the path of the file that it stands in
abbrev pub FunctionIn : Type 0
FunctionIn = Function × List ℕ

-- what was found, as it is told
abbrev pub seen : Option held.SiteFunction → Option FunctionIn
seen o = option_map (λ f. (f.function.now, f.file)) o

-- ---- files of modules

abbrev pub file_of_function : List ℕ → List ℕ → List ℕ
file_of_function m f = codes "modules/" ++ (m ++ (codes "/functions/" ++ (f ++ codes ".pp")))

-- `m::f` is defined in `modules/m/functions/f.pp`; a name of another number of segments has no such file
abbrev pub path_by : List (List ℕ) → Option (List ℕ)
path_by [] = None
path_by (m ∷ []) = None
path_by (m ∷ f ∷ []) = Some (file_of_function m f)
path_by (m ∷ f ∷ s ∷ ss) = None

abbrev pub function_path : List ℕ → Option (List ℕ)
function_path name = path_by (segments name)

-- ---- functions

abbrev pub function_by : Definition → Option Function
function_by (d.Class c) = None
function_by (d.Define f) = None
function_by (d.Function f) = Some f
function_by (d.Node n) = None
function_by (d.SameNode first) = None

-- what a file defines as the function of a name
abbrev pub function_in : List ℕ → File → Option Function
function_in name file = option_and_then function_by (lookup (same_name (names.Function name)) file.definitions)

abbrev pub in_file : List ℕ → Option Function → Option FunctionIn
in_file path o = option_map (λ f. (f, path)) o

-- a file with a fault gives that fault
abbrev pub read_in : List ℕ → List ℕ → Result File Fault → Result (Option FunctionIn) Fault
read_in name path (Ok file) = Ok (in_file path (function_in name file))
read_in name path (Err f) = Err f

abbrev pub in_manifest : List ℕ → List ℕ → Option ManifestFile → Result (Option FunctionIn) Fault
in_manifest name path None = Ok None
in_manifest name path (Some f) = read_in name path f.read

abbrev pub function_in_module : Environment → List ℕ → Option (List ℕ) → Result (Option FunctionIn) Fault
function_in_module m name None = Ok None
function_in_module m name (Some path) = in_manifest name path (file_at m path)

abbrev pub or_function_in_module : Option Function → Environment → List ℕ → Result (Option FunctionIn) Fault
or_function_in_module (Some f) m name = Ok (Some (f, MAIN_MANIFEST.now))
or_function_in_module None m name = function_in_module m name (function_path name)

-- The function of a name without a leading `::`, whose letters stay as they are: what the main manifest defines, and else
-- what the one file of a module defines that the name gives.
unfoldable pub function_found : Environment → List ℕ → Result (Option FunctionIn) Fault
function_found m name = or_function_in_module (function_in name m.main) m name
