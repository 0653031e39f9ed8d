-- What the calls of an evaluator mean.
use Rattle.std.specs.Prelude.{ℕ, ◌+◌, ◌-◌, ⊤, Bool, true, false, ◌||◌, List, [], ◌∷◌, Option, None, Some}
use Rattle.std.specs.Prelude.{option_and_then, unwrap_or, Result, Ok, codes}
use Rattle.std.specs.Map.{lookup}
use Rattle.pp_tree.specs.Names.{normal, same_name}
use Rattle.pp_tree.specs.Tables.{Entries}
use Rattle.pp_tree.specs.declared.definition.Class.{Class}
use Rattle.pp_tree.specs.declared.definition.Definition.{Definition}
use Rattle.pp_tree.specs.declared.definition.Definition.TheVariants as definition
use Rattle.pp_tree.specs.declared.definition.Node.{Node}
use Rattle.pp_tree.specs.declared.expr.Expr.{Expr}
use Rattle.pp_tree.specs.declared.file.File.{File}
use Rattle.pp_tree.specs.declared.statement.Statement.{Statement}
use Rattle.pp_tree.specs.declared.table.DefinitionName.{DefinitionName}
use Rattle.pp_tree.specs.declared.table.DefinitionName.TheVariants as name
use Rattle.pp_tree.specs.declared.template.Template.{Template}
use Rattle.pp_values.specs.Datum as d
use Rattle.pp_values.specs.Datum.{Datum}
use Rattle.pp_values.specs.Settings.{Setting}
use Rattle.pp_values.specs.declared.fault.Fault.{Fault}
use Rattle.pp_values.specs.declared.fault.What.TheVariants as what
use Rattle.pp_values.specs.declared.place.Place.{Place}
use Rattle.pp_values.specs.declared.place.TheConstants.{MAIN_MANIFEST}
use Rattle.res_book.specs.Rows.{number_of}
use Rattle.scope_core.specs.declared.scope_kind.ScopeKind.TheVariants as kind
use Rattle.class_eval.specs.Meaning.{within}
use Rattle.class_eval.specs.Statements.{emitted_rule, statements_from}
use Rattle.eval_classes.specs.Bodies.{run_rule}
use Rattle.eval_classes.specs.Definitions.{class_found, class_name, param_names}
use Rattle.eval_classes.specs.Entering.{enter_rule}
use Rattle.eval_classes.specs.Included.{declared_once}
use Rattle.eval_classes.specs.Listing.{class_declared, class_reference}
use Rattle.eval_classes.specs.declared.body_owner.BodyOwner.{BodyOwner}
use Rattle.eval_resources.specs.Checks.{settings_known}
use Rattle.eval_world.specs.Inner.{Inner}
use Rattle.eval_world.specs.Outcomes.{Step, ◌>>=◌, ◌>>◌, pure, answered}
use Rattle.eval_world.specs.Worlds.{fault, top}
use Rattle.eval_world.specs.declared.here.Here.{Here}
use Rattle.eval_world.specs.declared.world.World.{World}

-- the greatest depth that is evaluated
abbrev pub greatest : ℕ
greatest = 1000

-- what stands at a depth: as many levels are left as from there to the greatest, itself included
abbrev pub at_depth : ℕ → Inner
at_depth depth = within (greatest + 1 - depth)

abbrev pub value_at : Expr → Here → ℕ → Step Datum
value_at e here depth = (at_depth depth).value e here

-- a block that belongs to what begins at this line
abbrev pub block_at : List Statement → ℕ → Here → ℕ → Step Datum
block_at b line here depth = (at_depth depth).block b line here

-- ---- nodes

abbrev pub is_node : Definition → Bool
is_node (definition.Class c) = false
is_node (definition.Define f) = false
is_node (definition.Function f) = false
is_node (definition.Node n) = true
is_node (definition.SameNode first) = false

abbrev pub is_node_told : Option Definition → Bool
is_node_told None = false
is_node_told (Some x) = is_node x

-- some node is defined
unfoldable pub has_nodes : Entries → Bool
has_nodes [] = false
has_nodes (e ∷ es) = is_node e.1 || has_nodes es

abbrev pub node_by : Definition → Option Node
node_by (definition.Class c) = None
node_by (definition.Define f) = None
node_by (definition.Function f) = None
node_by (definition.Node n) = Some n
node_by (definition.SameNode first) = None

-- the definition that stands under a first name, or under none for `default`
abbrev pub first_named : Entries → Option (List ℕ) → Option Node
first_named es x = option_and_then node_by (lookup (same_name (name.Node x)) es)

-- a further name leads to the first
abbrev pub node_told : Entries → Definition → Option Node
node_told es (definition.Class c) = None
node_told es (definition.Define f) = None
node_told es (definition.Function f) = None
node_told es (definition.Node n) = Some n
node_told es (definition.SameNode first) = first_named es first

abbrev pub node_under : Entries → DefinitionName → Option Node
node_under es x = option_and_then (node_told es) (lookup (same_name x) es)

abbrev pub node_named : Entries → Option (List ℕ) → Option Node
node_named es x = node_under es (name.Node x)

abbrev pub or_default : Option Node → Entries → Option Node
or_default (Some n) es = Some n
or_default None es = node_named es None

-- the definition of a node: with its exact name, or else `default`
unfoldable pub node_of : Entries → List ℕ → Option Node
node_of es x = or_default (node_named es (Some x)) es

abbrev pub node_owner : BodyOwner
node_owner = record { file = MAIN_MANIFEST.now; source = codes "node"; resource = 0 }

-- its block in the node's scope, at depth 1; what it declares stands in `Class[main]`
unfoldable pub node_rule : Node → Step (Unit {0})
node_rule n = do
  own ← enter_rule kind.Node 0 0 node_owner
  block_at n.block n.at own 1
  pure tt

-- F19 at line 1 of the main manifest, where nodes are defined and none of them is for this one
abbrev pub chosen : Option Node → List ℕ → Step (Unit {0})
chosen (Some n) x = node_rule n
chosen None x = fault top 1 (what.NoNode x)

abbrev pub nodes_by : Bool → Entries → List ℕ → Step (Unit {0})
nodes_by false es x = pure tt
nodes_by true es x = chosen (node_of es x) x

unfoldable pub nodes_rule : Entries → List ℕ → Step (Unit {0})
nodes_rule es x = nodes_by (has_nodes es) es x

-- ---- the main manifest

-- The statements of the main manifest begin at depth 1, in top scope. Then the node's definition is evaluated, where
-- nodes are defined.
unfoldable pub main_rule : File → List ℕ → Step (Unit {0})
main_rule main x = do
  statements_from (at_depth 1) d.undef main.statements top
  nodes_rule main.definitions x

-- ---- classes and instances

-- the number of a class
abbrev pub number_in : Class → World → ℕ
number_in c w = unwrap_or (number_of (class_reference (class_name c)) w.book) 0

abbrev pub class_number : Class → Step ℕ
class_number c = λ w. Ok (number_in c w, w)

-- F10 at the first name that the class does not take
abbrev pub given_checked : Class → List Setting → Place → Result ⊤ Fault
given_checked c given at = settings_known (class_reference (class_name c)) (param_names c.params) at given

-- A class is declared whose body stands at the depth of what is inside: as by `include`, or with what is given as by
-- `class { }`, where it must not be declared already.
abbrev pub class_given : Inner → Class → Option (List Setting) → Place → Here → Step (Unit {0})
class_given inner c None at here = declared_once inner c at here.owner
class_given inner c (Some given) at here = do
  answered (given_checked c given at)
  class_declared inner c given at here.owner

unfoldable pub class_within : Inner → List ℕ → Option (List Setting) → Place → Here → Step ℕ
class_within inner x given at here = do
  c ← (λ w. answered (class_found w.environment (normal x) at) w)
  class_given inner c given at here
  class_number c

abbrev pub class_at : List ℕ → Option (List Setting) → Place → Here → ℕ → Step ℕ
class_at x given at here depth = class_within (at_depth depth) x given at here

-- the instance of a declaration, which stands at this depth
abbrev pub instance_at : ℕ → ℕ → Step (Unit {0})
instance_at number depth = run_rule (at_depth depth) number

-- ---- templates

-- A template without what it is given. Its statements stand at this depth.
abbrev pub render_at : Template → Here → ℕ → Step Datum
render_at t here depth = emitted_rule (at_depth depth) t.block here
