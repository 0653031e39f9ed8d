-- Words for the trees that a definition makes: one for each struct, which takes the fields in their order.
-- A struct that contains itself is rolled up from the record of its fields, and `out-Expr` and its like open one level
-- again.
-- The variants of an enum are the constructors of its `TheVariants`, as
-- `Rattle.pp_tree.specs.declared.expr.Form.TheVariants`.
use Rattle.std.specs.Prelude.{ℕ, Bool, List, Option}
use Rattle.pp_tree.specs.declared.collector.Collector.{Collector, roll-Collector}
use Rattle.pp_tree.specs.declared.collector.Comparison.{Comparison}
use Rattle.pp_tree.specs.declared.collector.Conjunction.{Conjunction, roll-Conjunction}
use Rattle.pp_tree.specs.declared.collector.Query.{Query, roll-Query}
use Rattle.pp_tree.specs.declared.collector.Test.{Test}
use Rattle.pp_tree.specs.declared.conditions.Case.{Case, roll-Case}
use Rattle.pp_tree.specs.declared.conditions.CaseOption.{CaseOption, roll-CaseOption}
use Rattle.pp_tree.specs.declared.conditions.Elsif.{Elsif, roll-Elsif}
use Rattle.pp_tree.specs.declared.conditions.If.{If, roll-If}
use Rattle.pp_tree.specs.declared.conditions.Unless.{Unless, roll-Unless}
use Rattle.pp_tree.specs.declared.definition.Class.{Class}
use Rattle.pp_tree.specs.declared.definition.Define.{Define}
use Rattle.pp_tree.specs.declared.definition.Function.{Function}
use Rattle.pp_tree.specs.declared.definition.Name.{Name}
use Rattle.pp_tree.specs.declared.definition.Node.{Node}
use Rattle.pp_tree.specs.declared.definition.NodeName.{NodeName}
use Rattle.pp_tree.specs.declared.expr.Call.{Call, roll-Call}
use Rattle.pp_tree.specs.declared.expr.Expr.{Expr, roll-Expr, out-Expr}
use Rattle.pp_tree.specs.declared.expr.Form.{Form}
use Rattle.pp_tree.specs.declared.expr.Lambda.{Lambda, roll-Lambda}
use Rattle.pp_tree.specs.declared.expr.Operation.{Operation}
use Rattle.pp_tree.specs.declared.expr.Pair.{Pair}
use Rattle.pp_tree.specs.declared.operators.BinaryOperator.{BinaryOperator}
use Rattle.pp_tree.specs.declared.param.Param.{Param}
use Rattle.pp_tree.specs.declared.resource.Attribute.{Attribute}
use Rattle.pp_tree.specs.declared.resource.Body.{Body}
use Rattle.pp_tree.specs.declared.resource.Defaults.{Defaults}
use Rattle.pp_tree.specs.declared.resource.Override.{Override}
use Rattle.pp_tree.specs.declared.resource.Reference.{Reference}
use Rattle.pp_tree.specs.declared.resource.Resource.{Resource}
use Rattle.pp_tree.specs.declared.resource.ResourceForm.{ResourceForm}
use Rattle.pp_tree.specs.declared.resource.Setting.{Setting}
use Rattle.pp_tree.specs.declared.resource.Splat.{Splat}
use Rattle.pp_tree.specs.declared.statement.Arrow.{Arrow}
use Rattle.pp_tree.specs.declared.statement.Chain.{Chain}
use Rattle.pp_tree.specs.declared.statement.Link.{Link}
use Rattle.pp_tree.specs.declared.statement.Operand.{Operand}
use Rattle.pp_tree.specs.declared.statement.Statement.{Statement}
use Rattle.pp_tree.specs.declared.statement.Words.{Words}
use Rattle.pp_tree.specs.declared.template.Template.{Template}

-- a text is seen as its bytes, and a block as its statements
abbrev pub Text : Type 0
Text = List ℕ

abbrev pub Block : Type 0
Block = List Statement

abbrev pub Attributes : Type 0
Attributes = List (Attribute Expr)

-- expressions: the line comes first
abbrev pub expr_at : ℕ → Form → Expr
expr_at at form = roll-Expr (record { at = at; form = form })

abbrev pub line_of : Expr → ℕ
line_of x = (out-Expr x).at

abbrev pub form_of : Expr → Form
form_of x = (out-Expr x).form

abbrev pub pair : Expr → Expr → Pair Expr
pair key value = record { key = key; value = value }

abbrev pub operation : BinaryOperator → Expr → Operation Expr
operation operator right = record { operator = operator; right = right }

abbrev pub call : Text → List Expr → Option Lambda → Call
call function args lambda = roll-Call (record { function = function; args = args; lambda = lambda })

abbrev pub lambda : List (Param Expr) → Block → Lambda
lambda params block = roll-Lambda (record { params = params; block = block })

abbrev pub param : Option Expr → Text → Option Expr → ℕ → Param Expr
param kind name default at = record { kind = kind; name = name; default = default; at = at }

-- conditions
abbrev pub if_of : Expr → Block → List Elsif → Option Block → If
if_of condition block elsifs otherwise =
    roll-If (record { condition = condition; block = block; elsifs = elsifs; otherwise = otherwise })

abbrev pub elsif : Expr → Block → Elsif
elsif condition block = roll-Elsif (record { condition = condition; block = block })

abbrev pub unless_of : Expr → Block → Option Block → Unless
unless_of condition block otherwise =
    roll-Unless (record { condition = condition; block = block; otherwise = otherwise })

abbrev pub case_of : Expr → List CaseOption → Case
case_of control options = roll-Case (record { control = control; options = options })

abbrev pub case_option : List Expr → Block → ℕ → CaseOption
case_option values block at = roll-CaseOption (record { values = values; block = block; at = at })

-- statements
abbrev pub chain : Operand → List (Link Operand) → ℕ → Chain Operand
chain first links at = record { first = first; links = links; at = at }

abbrev pub link : Arrow → Operand → Link Operand
link arrow operand = record { arrow = arrow; operand = operand }

abbrev pub words : Text → List Expr → ℕ → Words Expr
words function args at = record { function = function; args = args; at = at }

-- resources
abbrev pub resource : ResourceForm → Text → List (Body Expr) → ℕ → Resource Expr
resource form kind bodies at = record { form = form; kind = kind; bodies = bodies; at = at }

abbrev pub body : Expr → Attributes → ℕ → Body Expr
body title attributes at = record { title = title; attributes = attributes; at = at }

abbrev pub setting : Text → Bool → Expr → ℕ → Setting Expr
setting name append value at = record { name = name; append = append; value = value; at = at }

abbrev pub splat : Expr → ℕ → Splat Expr
splat value at = record { value = value; at = at }

abbrev pub reference : Text → List Expr → ℕ → Reference Expr
reference kind args at = record { kind = kind; args = args; at = at }

abbrev pub override : Reference Expr → Attributes → ℕ → Override Expr
override target attributes at = record { target = target; attributes = attributes; at = at }

abbrev pub defaults : Text → Attributes → ℕ → Defaults Expr
defaults kind attributes at = record { kind = kind; attributes = attributes; at = at }

-- collectors
abbrev pub collector : Text → Bool → Option Query → Attributes → ℕ → Collector
collector kind exported query attributes at =
    roll-Collector (record { kind = kind; exported = exported; query = query; attributes = attributes; at = at })

abbrev pub query : List Conjunction → Query
query conjunctions = roll-Query (record { conjunctions = conjunctions })

abbrev pub conjunction : List Test → Conjunction
conjunction tests = roll-Conjunction (record { tests = tests })

abbrev pub comparison : Text → Bool → Expr → ℕ → Comparison Expr
comparison word equal value at = record { word = word; equal = equal; value = value; at = at }

-- definitions
abbrev pub name_at : Text → ℕ → Name
name_at text at = record { text = text; at = at }

abbrev pub class_of : Name → List (Param Expr) → Option Name → Block → ℕ → Class
class_of name params inherits block at =
    record { name = name; params = params; inherits = inherits; block = block; at = at }

abbrev pub define_of : Name → List (Param Expr) → Block → ℕ → Define
define_of name params block at = record { name = name; params = params; block = block; at = at }

abbrev pub function_of : Name → List (Param Expr) → Option Expr → Block → ℕ → Function
function_of name params type block at =
    record { name = name; params = params; return_type = type; block = block; at = at }

abbrev pub node_of : List NodeName → Block → ℕ → Node
node_of names block at = record { names = names; block = block; at = at }

abbrev pub node_name : Option Text → ℕ → NodeName
node_name name at = record { name = name; at = at }

-- templates
abbrev pub template_of : Option (List (Param Expr)) → Block → Template
template_of params block = record { params = params; block = block }
