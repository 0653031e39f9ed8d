-- The table of a file's definitions.
use Rattle.std.specs.Prelude.{ℕ, suc, List, [], ◌∷◌, ◌++◌, ◌≡◌, Option, None, Some, Result, Ok, Err, is_some}
use Rattle.std.specs.Prelude.{if◌then◌else◌, map}
use Rattle.std.specs.Map.{lookup}
use Rattle.std.specs.BTreeMap.{BTreeMap, get}
use Rattle.std.specs.Option.{option_map}
use Rattle.pp_tree.specs.declared.definition.Definition.{Definition}
use Rattle.pp_tree.specs.declared.definition.Definition.TheVariants as d
use Rattle.pp_tree.specs.declared.definition.Node.{Node}
use Rattle.pp_tree.specs.declared.definition.NodeName.{NodeName}
use Rattle.pp_tree.specs.declared.rows.Row.{Row}
use Rattle.pp_tree.specs.declared.table.DefinitionName.{DefinitionName}
use Rattle.pp_tree.specs.declared.table.DefinitionName.TheVariants as n
use Rattle.pp_tree.specs.declared.table.TableStop.{TableStop}
use Rattle.pp_tree.specs.declared.table.TableStop.TheVariants.{Doubled, Memory}
use Rattle.pp_tree.specs.Names.{normal, same_name, name_cmp, without_front_colons}

-- a table is seen as its names and definitions, in the order in which they were put in
abbrev pub Entries : Type 0
Entries = List (DefinitionName × Definition)

-- the place of the first entry of a name, counted from 0
unfoldable pub place_of : DefinitionName → Entries → Option ℕ
place_of name [] = None
place_of name (e ∷ es) = if same_name name e.0 then Some 0 else option_map suc (place_of name es)

-- the map leads from each name to its place
abbrev pub ArePlaces : BTreeMap DefinitionName ℕ → Entries → Type 0
ArePlaces places entries = (name : DefinitionName) → get name_cmp places name ≡ place_of name entries

abbrev pub row : DefinitionName → Definition → ℕ → Row
row name definition at = record { name = name; definition = definition; at = at }

-- a further name of the node definition whose first name is this
abbrev pub further_row : Option (List ℕ) → NodeName → Row
further_row first x = row (n.Node x.name) (d.SameNode first) x.at

-- a node definition stands under its first name, and under each further one stands what the first was
abbrev pub node_rows : Node → List NodeName → List Row
node_rows node [] = []
node_rows node (first ∷ more) = row (n.Node first.name) (d.Node node) first.at ∷ map (further_row first.name) more

-- what a definition puts into a table: nothing, if it is a node without a name, or no definition as written
unfoldable pub rows_of : Definition → List Row
rows_of (d.Class c) = row (n.Code (normal c.name.text)) (d.Class c) c.name.at ∷ []
rows_of (d.Define f) = row (n.Code (normal f.name.text)) (d.Define f) f.name.at ∷ []
rows_of (d.Function f) = row (n.Function (without_front_colons f.name.text)) (d.Function f) f.name.at ∷ []
rows_of (d.Node node) = node_rows node node.names
rows_of (d.SameNode first) = []

unfoldable pub all_rows : List Definition → List Row
all_rows [] = []
all_rows (x ∷ xs) = rows_of x ++ all_rows xs

-- the rows after those that are in the table, up to the first whose name is there already
unfoldable pub table_from : Entries → List Row → Result Entries TableStop
table_from done [] = Ok done
table_from done (r ∷ rs) =
    if is_some (lookup (same_name r.name) done) then Err (Doubled r.at)
    else table_from (done ++ (r.name, r.definition) ∷ []) rs

unfoldable pub table_of : List Definition → Result Entries TableStop
table_of definitions = table_from [] (all_rows definitions)

-- the fault that a stop tells, if it is none of memory
abbrev pub doubled_told : TableStop → Option TableStop
doubled_told (Doubled at) = Some (Doubled at)
doubled_told Memory = None
