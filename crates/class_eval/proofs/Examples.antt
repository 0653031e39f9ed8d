-- The definitions at worked examples. Each line with `refl` holds by computing.
use Rattle.std.proofs.Common.{◌≡◌, true, false, [], ◌∷◌, None, Some, Ok, Err, refl, codes, pos}
use Rattle.pp_tree.specs.Building.{expr_at, node_name, override, reference}
use Rattle.pp_tree.specs.Building.{node_of as node_of_names}
use Rattle.pp_tree.specs.Tables.{Entries}
use Rattle.pp_tree.specs.declared.definition.Definition.TheVariants as definition
use Rattle.pp_tree.specs.declared.definition.Node.{Node}
use Rattle.pp_tree.specs.declared.expr.Expr.{Expr}
use Rattle.pp_tree.specs.declared.expr.Form as forms
use Rattle.pp_tree.specs.declared.expr.Form.TheVariants as f
use Rattle.pp_tree.specs.declared.resource.Reference.{Reference}
use Rattle.pp_tree.specs.declared.table.DefinitionName.TheVariants as name
use Rattle.pp_types.specs.Names.{data_type_named}
use Rattle.pp_values.specs.Datum as d
use Rattle.pp_values.specs.Faults.{fault}
use Rattle.pp_values.specs.declared.fault.What.TheVariants as what
use Rattle.attribute_lines.specs.Reading.{lines_from}
use Rattle.class_eval.specs.Evaluating.{at_depth, value_at, block_at, has_nodes, node_of, node_owner, node_rule, nodes_rule}
use Rattle.class_eval.specs.TopNames.{host_of, domain_of}
use Rattle.class_eval.specs.Meaning.{within, value_rule}
use Rattle.class_eval.specs.Statements.{statements_from, or_before}
use Rattle.scope_core.specs.declared.scope_kind.ScopeKind.TheVariants as kind
use Rattle.eval_calls.specs.VariableNames.{is_variable}
use Rattle.eval_classes.specs.Entering.{enter_rule, with_body}
use Rattle.eval_forms.specs.Accesses.{accessed_rule}
use Rattle.eval_forms.specs.Answering.{combined}
use Rattle.eval_forms.specs.Types.{type_rule}
use Rattle.eval_overrides.specs.OverrideStatements.{lines_put, override_rule, target_rule}
use Rattle.eval_world.specs.Arguments.{argument_rule, values_from}
use Rattle.eval_world.specs.Worlds.{top, place_at}
use Rattle.eval_world.specs.declared.world.World.{World}

-- ---- the name of a node

host : host_of (codes "web1.example.com") ≡ d.text (codes "web1")
host = refl

domain : domain_of (codes "web1.example.com") ≡ d.text (codes "example.com")
domain = refl

no_domain : domain_of (codes "web1") ≡ d.undef
no_domain = refl

-- ---- names of top scope

variable : is_variable (codes "os_2") ≡ true
variable = refl

no_variables : (is_variable (codes "Os") ≡ false) × (is_variable (codes "2os") ≡ false)
    × (is_variable (codes "o-s") ≡ false) × (is_variable []) ≡ false
no_variables = (refl, refl, refl, refl)

-- ---- depth

-- `1` on line 7, and the same in parentheses on line 6
abbrev one : Expr
one = expr_at 7 (f.Number (pos 1))

abbrev deeper : Expr
deeper = expr_at 6 (f.Parentheses one)

deepest_value : (w : World) → value_at one top 1000 w ≡ Ok (d.int (pos 1), w)
unfolding within value_rule forms.out-Form denote.Hole.Carrier.out
deepest_value w = refl

-- no level is left
too_deep : (w : World) → value_at deeper top 1001 w ≡ Err (fault (place_at w top 6) what.DepthLimit)
unfolding within
too_deep w = refl

-- `File['x'] { }`, whose argument stands on line 7, one level deeper than the statement
abbrev file_x : Reference Expr
file_x = reference (codes "File") (expr_at 7 (f.Text (codes "x")) ∷ []) 6

deepest_override : (w : World) → override_rule (at_depth 999) (override file_x [] 6) top w ≡ Ok (tt, w)
unfolding within override_rule target_rule type_rule data_type_named accessed_rule combined values_from argument_rule value_rule lines_from lines_put forms.out-Form denote.Hole.Carrier.out
deepest_override w = refl

-- what stands too deep is the argument, also where the statement would stand too deep itself
override_too_deep : (w : World) →
    (override_rule (at_depth 1000) (override file_x [] 6) top w ≡ Err (fault (place_at w top 7) what.DepthLimit))
    × override_rule (at_depth 1001) (override file_x [] 6) top w ≡ Err (fault (place_at w top 7) what.DepthLimit)
unfolding within override_rule target_rule type_rule data_type_named accessed_rule values_from argument_rule
override_too_deep w = (refl, refl)

-- ---- nodes

-- `node 'a', 'b' { }` at line 3, and `node default { }` at line 4
abbrev two : Node
two = node_of_names (node_name (Some (codes "a")) 3 ∷ node_name (Some (codes "b")) 3 ∷ []) [] 3

abbrev default : Node
default = node_of_names (node_name None 4 ∷ []) [] 4

abbrev nodes : Entries
nodes =
    (name.Node (Some (codes "a")), definition.Node two)
    ∷ (name.Node (Some (codes "b")), definition.SameNode (Some (codes "a")))
    ∷ (name.Node None, definition.Node default)
    ∷ []

first_name : node_of nodes (codes "a") ≡ Some two
unfolding node_of
first_name = refl

further_name : node_of nodes (codes "b") ≡ Some two
unfolding node_of
further_name = refl

-- names are exact
other_name : node_of nodes (codes "A") ≡ Some default
unfolding node_of
other_name = refl

-- F19 where nodes are defined and none of them is for this one; nothing where none is defined
no_node : (w : World) → nodes_rule ((name.Node (Some (codes "a")), definition.Node two) ∷ []) (codes "c") w
    ≡ Err (fault (place_at w top 1) (what.NoNode (codes "c")))
unfolding nodes_rule has_nodes node_of
no_node w = refl

no_nodes : (w : World) → nodes_rule [] (codes "c") w ≡ Ok (tt, w)
unfolding nodes_rule has_nodes
no_nodes w = refl

-- its block has depth 1, and F29 would stand where the definition begins
node_block : (w : World) → node_rule default w
    ≡ Ok (tt, with_body kind.Node 0 0 node_owner w)
unfolding node_rule enter_rule within statements_from
node_block w = refl

-- ---- blocks

empty_block : (w : World) → block_at [] 5 top 1000 w ≡ Ok (d.undef, w)
unfolding within statements_from
empty_block w = refl

-- it is refused at the line of what it belongs to
block_too_deep : (w : World) → block_at [] 5 top 1001 w ≡ Err (fault (place_at w top 5) what.DepthLimit)
unfolding within
block_too_deep w = refl

-- the value of a statement that gives none is that of the one before
no_value : or_before None (d.flag true) ≡ d.flag true
no_value = refl

a_value : or_before (Some d.undef) (d.flag true) ≡ d.undef
a_value = refl
