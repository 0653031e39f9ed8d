-- Where the definition of a class or of a define is found by its name.
use Rattle.std.specs.Prelude.{ℕ, zero, suc, Bool, false, ◌||◌, if◌then◌else◌, List, [], ◌∷◌, ◌++◌, length}
use Rattle.std.specs.Prelude.{Option, None, Some, option_map, option_and_then, is_some, Result, Ok, Err, codes, map}
use Rattle.std.specs.BTreeMap.{is_at}
use Rattle.std.specs.Map.{lookup}
use Rattle.std.specs.Str.{bytes_eq}
use Rattle.pp_tree.specs.Names.{normal, same_name}
use Rattle.pp_tree.specs.declared.definition.Class.{Class}
use Rattle.pp_tree.specs.declared.definition.Define.{Define}
use Rattle.pp_tree.specs.declared.definition.Definition.{Definition}
use Rattle.pp_tree.specs.declared.definition.Definition.TheVariants as d
use Rattle.pp_tree.specs.declared.definition.Name.{Name}
use Rattle.pp_tree.specs.declared.expr.Expr.{Expr}
use Rattle.pp_tree.specs.declared.file.File.{File}
use Rattle.pp_tree.specs.declared.manifest_file.ManifestFile.{ManifestFile}
use Rattle.pp_tree.specs.declared.param.Param.{Param}
use Rattle.pp_tree.specs.declared.table.DefinitionName.{DefinitionName}
use Rattle.pp_tree.specs.declared.table.DefinitionName.TheVariants.{Code}
use Rattle.pp_values.specs.Faults.{fault}
use Rattle.pp_values.specs.Rising.{text_cmp}
use Rattle.pp_values.specs.declared.fault.Fault.{Fault}
use Rattle.pp_values.specs.declared.fault.What.TheVariants as what
use Rattle.pp_values.specs.declared.place.Place.{Place}
use Rattle.pp_values.specs.declared.place.TheConstants.{MAIN_MANIFEST}
use Rattle.res_core.specs.TagNames.{segments}
use Rattle.eval_world.specs.Environment.{Environment}
use Rattle.eval_classes.specs.declared.found.Found.{Found}
use Rattle.eval_classes.specs.declared.found.Found.TheVariants as found

-- ---- files of modules

abbrev pub step_to : List ℕ → List ℕ
step_to s = codes "/" ++ s

-- `/a/b` for the segments `a` and `b`
unfoldable pub below : List (List ℕ) → List ℕ
below [] = []
below (s ∷ ss) = step_to s ++ below ss

abbrev pub init_of : List ℕ → List ℕ
init_of m = m ++ codes "/manifests/init.pp"

abbrev pub further_of : List ℕ → List (List ℕ) → List ℕ
further_of m ss = m ++ (codes "/manifests" ++ (below ss ++ codes ".pp"))

-- `m` is defined in `modules/m/manifests/init.pp`, `m::a::b` in `modules/m/manifests/a/b.pp`
abbrev pub within_modules : List (List ℕ) → List ℕ
within_modules [] = []
within_modules (m ∷ []) = init_of m
within_modules (m ∷ s ∷ ss) = further_of m (s ∷ ss)

abbrev pub module_path : List ℕ → List ℕ
module_path name = codes "modules/" ++ within_modules (segments name)

abbrev pub first_segment : List (List ℕ) → List ℕ
first_segment [] = []
first_segment (m ∷ ss) = m

-- ---- definitions

abbrev pub defined_in : List ℕ → File → Option Definition
defined_in name file = lookup (same_name (Code name)) file.definitions

-- a file with a fault gives that fault
abbrev pub defined_by : List ℕ → Result File Fault → Result (Option Definition) Fault
defined_by name (Ok file) = Ok (defined_in name file)
defined_by name (Err f) = Err f

abbrev pub in_module : List ℕ → Option ManifestFile → Result (Option Definition) Fault
in_module name None = Ok None
in_module name (Some f) = defined_by name f.read

-- the manifest at this path
abbrev pub file_at : Environment → List ℕ → Option ManifestFile
file_at m path = lookup (is_at (text_cmp path)) m.files

abbrev pub found_in_module : Environment → List ℕ → Result (Option Definition) Fault
found_in_module m name = in_module name (file_at m (module_path name))

abbrev pub or_in_module : Option Definition → Environment → List ℕ → Result (Option Definition) Fault
or_in_module (Some x) m name = Ok (Some x)
or_in_module None m name = found_in_module m name

-- What the main manifest defines under a name settles it, whatever it is. Else it is what the one file of a module
-- defines that the name gives.
unfoldable pub definition_of : Environment → List ℕ → Result (Option Definition) Fault
definition_of m name = or_in_module (defined_in name m.main) m name

abbrev pub found_one : Option Definition → Result (Option Definition) Fault
found_one o = Ok o

-- what was found, as it is told
abbrev pub told : Found → Result (Option Definition) Fault
told found.Nothing = Ok None
told (found.Definition x) = Ok (Some x.now)
told (found.Fault f) = Err f.now

-- ---- where a definition stands

abbrev pub in_main : Environment → List ℕ → Bool
in_main m name = is_some (defined_in name m.main)

-- the path of its file
abbrev pub file_of : Environment → List ℕ → List ℕ
file_of m name = if in_main m name then MAIN_MANIFEST.now else module_path name

-- the module whose folder holds the file; the main manifest is in none
abbrev pub module_of : Environment → List ℕ → List ℕ
module_of m name = if in_main m name then [] else first_segment (segments name)

-- ---- classes

abbrev pub class_by : Definition → Option Class
class_by (d.Class c) = Some c
class_by (d.Define f) = None
class_by (d.Function f) = None
class_by (d.Node n) = None
class_by (d.SameNode first) = None

abbrev pub class_or : List ℕ → Place → Option Class → Result Class Fault
class_or name at (Some c) = Ok c
class_or name at None = Err (fault at (what.UnknownClass name))

abbrev pub class_among : List ℕ → Place → Result (Option Definition) Fault → Result Class Fault
class_among name at (Ok o) = class_or name at (option_and_then class_by o)
class_among name at (Err f) = Err f

-- the class of a name, or F4 at this place
unfoldable pub class_found : Environment → List ℕ → Place → Result Class Fault
class_found m name at = class_among name at (definition_of m name)

-- the name of a class: that of its definition, without a leading `::` and in lower case
abbrev pub class_name : Class → List ℕ
class_name c = normal c.name.text

-- the source of what a class declares
abbrev pub class_source : List ℕ → List ℕ
class_source name = codes "class " ++ name

-- ---- the parent of a class

-- the name behind `inherits`
abbrev pub written_parent : Class → Option (List ℕ)
written_parent c = option_map (λ (n : Name). normal n.text) c.inherits

-- the class that was found, where it is one
abbrev pub class_told : Result (Option Definition) Fault → Option Class
class_told (Ok o) = option_and_then class_by o
class_told (Err f) = None

-- the parent of the class of a name, where there is such a class
abbrev pub parent_at : Environment → List ℕ → Option (List ℕ)
parent_at m name = option_and_then written_parent (class_told (definition_of m name))

-- on the way from a class over its parents, of so many classes one has this name
unfoldable pub comes_to : ℕ → Environment → List ℕ → Option (List ℕ) → Bool
comes_to zero m name at = false
comes_to (suc left) m name None = false
comes_to (suc left) m name (Some at) = bytes_eq at name || comes_to left m name (parent_at m at)

-- the names under which a file has definitions; none where it has a fault
abbrev pub names_read : Result File Fault → List DefinitionName
names_read (Ok file) = map (λ e. e.0) file.definitions
names_read (Err f) = []

abbrev pub names_within : List (List ℕ × ManifestFile) → List DefinitionName
names_within [] = []
names_within (f ∷ fs) = names_read f.1.read ++ names_within fs

-- the names under which the site has definitions
abbrev pub all_names : Environment → List DefinitionName
all_names m = map (λ e. e.0) m.main.definitions ++ names_within m.files

-- One more than there are definitions: no way has more classes on it, but one that comes back to a class.
abbrev pub longest_way : Environment → ℕ
longest_way m = suc (length (all_names m))

-- a class of this name that inherits from itself, in any number of steps
abbrev pub inherits_itself : Environment → List ℕ → Class → Bool
inherits_itself m name c = comes_to (longest_way m) m name (written_parent c)

-- .. counts as one without a parent
unfoldable pub parent_of : Environment → List ℕ → Class → Option (List ℕ)
parent_of m name c = if inherits_itself m name c then None else written_parent c

-- ---- defines

abbrev pub define_by : Definition → Option Define
define_by (d.Class c) = None
define_by (d.Define f) = Some f
define_by (d.Function f) = None
define_by (d.Node n) = None
define_by (d.SameNode first) = None

abbrev pub define_or : List ℕ → Place → Option Define → Result Define Fault
define_or kind at (Some f) = Ok f
define_or kind at None = Err (fault at (what.UnknownType kind))

abbrev pub define_among : List ℕ → Place → Result (Option Definition) Fault → Result Define Fault
define_among kind at (Ok o) = define_or kind at (option_and_then define_by o)
define_among kind at (Err f) = Err f

-- the define of a name, or F5 at this place
unfoldable pub define_found : Environment → List ℕ → Place → Result Define Fault
define_found m kind at = define_among kind at (definition_of m kind)

-- the names of parameters, in their order
abbrev pub param_names : List (Param Expr) → List (List ℕ)
param_names ps = map (λ p. p.name) ps
