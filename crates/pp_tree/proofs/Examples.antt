-- The definitions at worked examples.
use Rattle.std.proofs.Common.{◌≡◌, true, false, [], ◌∷◌, Option, None, Some, Ok, Err, refl}
use Rattle.std.specs.Prelude.{codes, pos}
use Rattle.std.specs.declared.cmp.Ordering.TheVariants.{Less, Equal, Greater}
use Rattle.pp_tree.specs.declared.definition.Definition.TheVariants as d
use Rattle.pp_tree.specs.declared.definition.Class.{Class}
use Rattle.pp_tree.specs.declared.definition.Define.{Define}
use Rattle.pp_tree.specs.declared.definition.Function.{Function}
use Rattle.pp_tree.specs.declared.definition.Node.{Node}
use Rattle.pp_tree.specs.declared.expr.Form.{Form}
use Rattle.pp_tree.specs.declared.expr.Form.TheVariants as f
use Rattle.pp_tree.specs.declared.table.DefinitionName.TheVariants as n
use Rattle.pp_tree.specs.declared.table.TableStop.TheVariants.{Doubled}
use Rattle.pp_tree.specs.Building.{expr_at, line_of, form_of, Text, name_at, class_of, define_of, function_of, node_of, node_name}
use Rattle.pp_tree.specs.Names.{without_front_colons, normal, same_name, name_cmp}
use Rattle.pp_tree.specs.Tables.{table_of, table_from, all_rows, rows_of, place_of}

-- one `::` at the front is dropped, and letters are lower-cased
normal_name : normal (codes "::Ntp::Server") ≡ codes "ntp::server"
unfolding normal without_front_colons
normal_name = refl

only_one_pair : normal (codes "::::a") ≡ codes "::a"
unfolding normal without_front_colons
only_one_pair = refl

one_colon_stays : normal (codes ":a") ≡ codes ":a"
unfolding normal without_front_colons
one_colon_stays = refl

-- a class and a node may have one name
class_is_no_node : same_name (n.Code (codes "a")) (n.Node (Some (codes "a"))) ≡ false
class_is_no_node = refl

-- the names of nodes are as they are written
nodes_keep_case : same_name (n.Node (Some (codes "A"))) (n.Node (Some (codes "a"))) ≡ false
nodes_keep_case = refl

-- a class and a function may have one name, and functions keep their case
functions_apart : (same_name (n.Code (codes "a")) (n.Function (codes "a")) ≡ false)
    × (same_name (n.Node (Some (codes "a"))) (n.Function (codes "a")) ≡ false)
    × (same_name (n.Function (codes "aB")) (n.Function (codes "ab")) ≡ false)
    × (same_name (n.Function (codes "aB")) (n.Function (codes "aB")) ≡ true)
functions_apart = (refl, refl, refl, refl)

functions_in_order : (name_cmp (n.Node (Some (codes "z"))) (n.Function (codes "a")) ≡ Less)
    × (name_cmp (n.Function (codes "a")) (n.Code (codes "z")) ≡ Greater)
    × (name_cmp (n.Function (codes "B")) (n.Function (codes "a")) ≡ Less)
functions_in_order = (refl, refl, refl)

-- classes and defines come before nodes, and `default` before the other nodes; letters by their bytes
names_in_order : (name_cmp (n.Code (codes "z")) (n.Node None) ≡ Less) × (name_cmp (n.Node None) (n.Node (Some [])) ≡ Less)
    × (name_cmp (n.Node (Some (codes "B"))) (n.Node (Some (codes "a"))) ≡ Less) × (name_cmp (n.Code (codes "ab")) (n.Code (codes "a")) ≡ Greater)
    × (name_cmp (n.Node (Some (codes "a"))) (n.Node (Some (codes "a"))) ≡ Equal)
names_in_order = (refl, refl, refl, refl, refl)

-- an expression gives back its line and its form
opened : form_of (expr_at 3 (f.Number (pos 7))) ≡ f.Number (pos 7)
opened = refl

line : line_of (expr_at 3 (f.Variable (codes "x"))) ≡ 3
line = refl

-- a definition goes by cases on the form
abbrev variable_in : Form → Option Text
variable_in (f.Variable name) = Some name
variable_in _ = None

variable_found : variable_in (form_of (expr_at 1 (f.Variable (codes "x")))) ≡ Some (codes "x")
variable_found = refl

variable_missing : variable_in (form_of (expr_at 1 (f.Parentheses (expr_at 1 (f.Variable (codes "x")))))) ≡ None
variable_missing = refl

abbrev class_a : Class
class_a = class_of (name_at (codes "a") 1) [] None [] 1

abbrev define_A : Define
define_A = define_of (name_at (codes "::A") 2) [] [] 2

abbrev nodes : Node
nodes = node_of (node_name (Some (codes "a")) 3 ∷ node_name None 4 ∷ []) [] 3

abbrev node_twice : Node
node_twice = node_of (node_name (Some (codes "b")) 5 ∷ node_name (Some (codes "b")) 6 ∷ []) [] 5

-- places count from 0; a name that is not there has none
places : (place_of (n.Node None) ((n.Code (codes "a"), d.Class class_a) ∷ (n.Node None, d.Node nodes) ∷ []) ≡ Some 1)
    × (place_of (n.Code (codes "b")) ((n.Code (codes "a"), d.Class class_a) ∷ []) ≡ None)
unfolding place_of
places = (refl, refl)

-- `class a {}`, and `node 'a', default {}`, whose second name leads to the first
a_table : table_of (d.Class class_a ∷ d.Node nodes ∷ [])
    ≡ Ok ((n.Code (codes "a"), d.Class class_a) ∷ (n.Node (Some (codes "a")), d.Node nodes) ∷ (n.Node None, d.SameNode (Some (codes "a"))) ∷ [])
unfolding table_of table_from all_rows rows_of normal without_front_colons
a_table = refl

-- `class a {}` and then `define ::A() {}`: the line is that of the second
doubled_code : table_of (d.Class class_a ∷ d.Define define_A ∷ []) ≡ Err (Doubled 2)
unfolding table_of table_from all_rows rows_of normal without_front_colons
doubled_code = refl

-- a node that lists a name twice, at the line of the second
doubled_in_node : table_of (d.Class class_a ∷ d.Node node_twice ∷ []) ≡ Err (Doubled 6)
unfolding table_of table_from all_rows rows_of normal without_front_colons
doubled_in_node = refl

abbrev function_aB : Function
function_aB = function_of (name_at (codes "::aB") 7) [] (Some (expr_at 7 (f.Type (codes "Integer")))) [] 7

-- `class a {}` and `function ::aB() >> Integer {}`: the name keeps its letters
with_function : table_of (d.Class class_a ∷ d.Function function_aB ∷ [])
    ≡ Ok ((n.Code (codes "a"), d.Class class_a) ∷ (n.Function (codes "aB"), d.Function function_aB) ∷ [])
unfolding table_of table_from all_rows rows_of normal without_front_colons
with_function = refl

doubled_function : table_of (d.Function function_aB ∷ d.Class class_a ∷ d.Function function_aB ∷ []) ≡ Err (Doubled 7)
unfolding table_of table_from all_rows rows_of normal without_front_colons
doubled_function = refl

-- no definitions, no names; nothing for a node without a name
empty_table : table_of (d.Node (node_of [] [] 1) ∷ d.SameNode None ∷ []) ≡ Ok []
unfolding table_of table_from all_rows rows_of
empty_table = refl
