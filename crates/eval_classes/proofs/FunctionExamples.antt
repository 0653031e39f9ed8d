-- Where functions are found, at worked examples. Each line with `refl` holds by computing.
use Rattle.std.proofs.Common.{◌≡◌, ℕ, List, [], ◌∷◌, None, Some, Ok, Err, refl, codes}
use Rattle.pp_tree.specs.Building.{function_of, name_at}
use Rattle.pp_tree.specs.declared.definition.Definition.{Definition}
use Rattle.pp_tree.specs.declared.definition.Definition.TheVariants as definition
use Rattle.pp_tree.specs.declared.definition.Function.{Function}
use Rattle.pp_tree.specs.declared.table.DefinitionName.{DefinitionName}
use Rattle.pp_tree.specs.declared.table.DefinitionName.TheVariants as names
use Rattle.pp_values.specs.Faults.{fault}
use Rattle.pp_values.specs.declared.fault.Fault.{Fault}
use Rattle.pp_values.specs.declared.fault.What.TheVariants as what
use Rattle.res_core.specs.TagNames.{segments}
use Rattle.eval_world.specs.Environment.{Environment}
use Rattle.eval_classes.specs.Functions.{function_found, function_path}
use Rattle.eval_classes.proofs.Samples.{class, entry, faulty_file, place, read_file, site_of}

-- ---- files

paths : (function_path (codes "m::f") ≡ Some (codes "modules/m/functions/f.pp"))
    × (function_path (codes "f") ≡ None)
    × (function_path (codes "m::a::f") ≡ None)
unfolding segments
paths = (refl, refl, refl)

-- ---- functions

abbrev function : List ℕ → ℕ → Function
function name at = function_of (name_at name at) [] None [] at

abbrev function_entry : List ℕ → ℕ → DefinitionName × Definition
function_entry name at = (names.Function name, definition.Function (function name at))

abbrev main_path : List ℕ
main_path = codes "manifests/site.pp"

abbrev file_path : List ℕ
file_path = codes "modules/m/functions/f.pp"

-- `f` and `m::f` of the main manifest, and `m::f` of its module file
abbrev in_main : Environment
in_main = site_of (function_entry (codes "f") 3 ∷ function_entry (codes "m::f") 4 ∷ [])
    (read_file file_path (function_entry (codes "m::f") 5 ∷ []) ∷ [])

-- the main manifest comes first, and letters stay as they are
main_first : (function_found in_main (codes "f") ≡ Ok (Some (function (codes "f") 3, main_path)))
    × (function_found in_main (codes "m::f") ≡ Ok (Some (function (codes "m::f") 4, main_path)))
    × (function_found in_main (codes "F") ≡ Ok None)
unfolding function_found segments
main_first = (refl, refl, refl)

-- `m::f` of its module file, which holds another function and a class of the name too
abbrev in_module : Environment
in_module = site_of (entry (codes "m::f") (class (codes "m::f") [] None 1) ∷ [])
    (read_file file_path (function_entry (codes "g") 1 ∷ function_entry (codes "m::f") 5 ∷ []) ∷ [])

-- a class of the main manifest settles no function; what the file defines beside is not found by its own name
module_next : (function_found in_module (codes "m::f") ≡ Ok (Some (function (codes "m::f") 5, file_path)))
    × (function_found in_module (codes "g") ≡ Ok None)
    × (function_found in_module (codes "m::g") ≡ Ok None)
unfolding function_found segments
module_next = (refl, refl, refl)

abbrev broken : Fault
broken = fault (place 7) what.Syntax

-- a file with a fault gives that fault where it is used
fault_of_file :
    (function_found (site_of [] (faulty_file file_path broken ∷ [])) (codes "m::f") ≡ Err broken)
    × (function_found (site_of (function_entry (codes "m::f") 4 ∷ []) (faulty_file file_path broken ∷ []))
    (codes "m::f") ≡ Ok (Some (function (codes "m::f") 4, main_path)))
unfolding function_found segments
fault_of_file = (refl, refl)
