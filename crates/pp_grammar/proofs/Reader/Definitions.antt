-- Definitions, and what stands at the top of a file.
use Rattle.std.specs.Prelude.{ℕ, zero, suc, Bool, true, false, if◌then◌else◌, List, [], ◌∷◌, ◌++◌, Option, Some, None}
use Rattle.pp_lexer.specs.declared.kind.Kind.{Kind}
use Rattle.pp_lexer.specs.declared.kind.Kind.TheVariants as k
use Rattle.pp_tree.specs.declared.param.Param.{Param}
use Rattle.pp_tree.specs.declared.statement.Statement.{Statement}
use Rattle.pp_tree.specs.declared.definition.Name.{Name}
use Rattle.pp_tree.specs.declared.definition.NodeName.{NodeName}
use Rattle.pp_tree.specs.declared.definition.Definition.{Definition}
use Rattle.pp_tree.specs.declared.definition.Definition.TheVariants as definition
use Rattle.pp_tree.specs.declared.resource.ResourceForm.TheVariants as resource_form
use Rattle.pp_tree.specs.declared.expr.Expr.{Expr}
use Rattle.pp_tree.specs.declared.expr.Form.TheVariants as form
use Rattle.pp_tree.specs.declared.expr.Postfix.TheVariants as postfix
use Rattle.pp_tree.specs.Building.{expr_at, class_of, define_of, function_of, node_of, node_name as node_name_at}
use Rattle.pp_parser.specs.declared.found.Found.{Found}
use Rattle.pp_parser.specs.declared.item.Item.{Item}
use Rattle.pp_parser.specs.declared.item.Item.TheVariants as item
use Rattle.pp_grammar.proofs.Reader.Input.{Parser, ◌>>=◌, ◌>>◌, ◌<$>◌, pure, peek, here, take, refuse, expect, expect_any, eat, turns, separated}
use Rattle.pp_grammar.proofs.Reader.Inner.{Inner, opening, param_in}
use Rattle.pp_grammar.specs.Kinds.{is_name}
pub use Rattle.pp_grammar.specs.Names.{node_name}
use Rattle.pp_grammar.proofs.Reader.Expressions.{block, access, is_at}
use Rattle.pp_grammar.proofs.Reader.FunctionBodies.{function_block}
use Rattle.pp_grammar.proofs.Reader.Statements.{Read, name_of, taken_name, resource, chain_from, statement_rule}

abbrev pub nothing_yet : Found
nothing_yet = record { statements = []; definitions = [] }

abbrev pub with_statement : Found → Statement → Found
with_statement found s = record { statements = found.statements ++ s ∷ []; definitions = found.definitions }

abbrev pub with_definition : Found → Definition → Found
with_definition found d = record { statements = found.statements; definitions = found.definitions ++ d ∷ [] }

abbrev pub found_with : Found → Item → Found
found_with found (item.Definition d) = with_definition found d
found_with found (item.Statement s pending) = with_statement found s

-- the name behind an item that begins the next one
abbrev pub pending_of : Item → Option Name
pending_of (item.Definition d) = None
pending_of (item.Statement s pending) = pending

-- the end of a file, unless the name that begins the next statement was taken already
abbrev pub ends_file : Option Name → Option Kind → Bool
ends_file None None = true
ends_file _ _ = false

-- a type with arguments: `Array[Integer]`
abbrev pub applied_type : Name → List Expr → Expr
applied_type type args = expr_at type.at (form.Postfix (expr_at type.at (form.Type type.text)) (postfix.Access args ∷ []))

-- the next token as a text
abbrev pub taken_text : Parser (List ℕ)
taken_text = (λ t. t.text) <$> take

module _ (inner : Inner) where
  unfoldable pub name_rule : Parser Name
  name_rule = name_of <$> expect_any is_name

  -- `( params )`
  unfoldable pub params : Parser (List (Param Expr))
  params = do
    opening inner k.OpenParen
    found ← separated (is_at k.CloseParen) k.Comma (param_in inner false)
    expect k.CloseParen
    pure found

  abbrev pub params_by : Option Kind → Parser (List (Param Expr))
  params_by (Some k.OpenParen) = params
  params_by _ = pure []

  unfoldable pub optional_params : Parser (List (Param Expr))
  optional_params = peek >>= params_by

  abbrev pub inherits_by : Option Kind → Parser (Option Name)
  inherits_by (Some k.Inherits) = take >> Some <$> name_rule
  inherits_by _ = pure None

  unfoldable pub optional_inherits : Parser (Option Name)
  optional_inherits = peek >>= inherits_by

  -- behind `class`
  unfoldable pub class : ℕ → Parser Definition
  class at = do
    name ← name_rule
    found ← optional_params
    parent ← optional_inherits
    body ← block inner
    pure (definition.Class (class_of name found parent body at))

  -- behind `define`
  unfoldable pub define : ℕ → Parser Definition
  define at = do
    name ← name_rule
    found ← optional_params
    body ← block inner
    pure (definition.Define (define_of name found body at))

  -- ---- functions

  abbrev pub type_from_by : Name → Option Kind → Parser Expr
  type_from_by type (Some k.TightBracket) = applied_type type <$> access inner
  type_from_by type _ = pure (expr_at type.at (form.Type type.text))

  -- behind the name of a type: its arguments, where it has any
  unfoldable pub type_from : Name → Parser Expr
  type_from type = peek >>= type_from_by type

  -- behind `>>`: what the function gives
  unfoldable pub return_type : Parser Expr
  return_type = do
    t ← expect k.Type
    type_from (name_of t)

  abbrev pub return_by : Option Kind → Parser (Option Expr)
  return_by (Some k.Returns) = take >> Some <$> return_type
  return_by _ = pure None

  unfoldable pub optional_return : Parser (Option Expr)
  optional_return = peek >>= return_by

  -- behind `function`
  unfoldable pub function_definition : ℕ → Parser Definition
  function_definition at = do
    name ← name_rule
    found ← optional_params
    type ← optional_return
    body ← function_block inner
    pure (definition.Function (function_of name found type body at))

  -- ---- nodes

  -- behind the quote that begins a text without interpolation
  abbrev pub plain_by : Option Kind → Parser (List ℕ)
  plain_by (Some k.Piece) = do
    t ← take
    expect k.TextEnd
    pure t.text
  plain_by _ = expect k.TextEnd >> pure []

  -- a text in double quotes without interpolation
  unfoldable pub plain_text : Parser (List ℕ)
  plain_text = do
    expect k.TextBegin
    next ← peek
    plain_by next

  abbrev pub node_name_by : Option Kind → Parser (Option (List ℕ))
  node_name_by (Some k.Text) = node_name <$> taken_text
  node_name_by (Some k.TextBegin) = node_name <$> plain_text
  node_name_by (Some k.Name) = Some <$> taken_text
  node_name_by (Some k.StatementFunction) = Some <$> taken_text
  node_name_by (Some k.Default) = take >> pure None
  node_name_by _ = refuse

  abbrev pub node_name_here : Parser (Option (List ℕ))
  node_name_here = peek >>= node_name_by

  unfoldable pub node_name_rule : Parser NodeName
  node_name_rule = do
    at ← here
    name ← node_name_here
    pure (node_name_at name at)

  -- names with commas between them, and none at the end
  unfoldable pub node_names_from : ℕ → List NodeName → Parser (List NodeName)
  node_names_from zero found = refuse
  node_names_from (suc n) found = do
    name ← node_name_rule
    more ← eat k.Comma
    if more then node_names_from n (found ++ name ∷ []) else pure (found ++ name ∷ [])

  unfoldable pub node_names : Parser (List NodeName)
  node_names = λ i. node_names_from (turns i) [] i

  -- behind `node`
  unfoldable pub node : ℕ → Parser Definition
  node at = do
    names ← node_names
    body ← block inner
    pure (definition.Node (node_of names body at))

  -- ---- main manifests

  abbrev pub read_of : Read → Item
  read_of read = item.Statement read.0 read.1

  -- a statement, whose name may have been taken already
  abbrev pub statement_item : Option Name → Parser Item
  statement_item pending = read_of <$> statement_rule inner pending

  -- behind `class`: its braces, and the chain that begins with this resource
  abbrev pub class_chain : Name → Parser Item
  class_chain word = do
    first ← resource inner resource_form.Plain word.text word.at
    read_of <$> chain_from inner word.at first

  -- behind `class` at the top: a resource where `{` follows, else a definition
  abbrev pub class_item_by : Name → Option Kind → Parser Item
  class_item_by word (Some k.OpenBrace) = class_chain word
  class_item_by word _ = item.Definition <$> class word.at

  unfoldable pub class_item : Name → Parser Item
  class_item word = peek >>= class_item_by word

  abbrev pub item_by : Option Kind → Parser Item
  item_by (Some k.Class) = taken_name >>= class_item
  item_by (Some k.Define) = take >>= (λ t. item.Definition <$> define t.line)
  item_by (Some k.Function) = take >>= (λ t. item.Definition <$> function_definition t.line)
  item_by (Some k.Node) = take >>= (λ t. item.Definition <$> node t.line)
  item_by _ = statement_item None

  abbrev pub item_from : Option Name → Parser Item
  item_from (Some name) = statement_item (Some name)
  item_from None = peek >>= item_by

  unfoldable pub item_rule : Option Name → Parser Item
  item_rule pending = item_from pending

  unfoldable pub manifest_from : ℕ → Found → Option Name → Parser Found
  manifest_from zero found pending = refuse
  manifest_from (suc n) found pending = do
    next ← peek
    if ends_file pending next then pure found else (do
      read ← item_rule pending
      eat k.Semicolon
      manifest_from n (found_with found read) (pending_of read))

  -- a main manifest: statements and definitions, each with at most one `;` behind it
  unfoldable pub main_manifest : Parser Found
  main_manifest = λ i. manifest_from (turns i) nothing_yet None i

  -- ---- module files

  abbrev pub module_item_by : Option Kind → Parser Definition
  module_item_by (Some k.Class) = take >>= (λ t. class t.line)
  module_item_by (Some k.Define) = take >>= (λ t. define t.line)
  module_item_by (Some k.Function) = take >>= (λ t. function_definition t.line)
  module_item_by _ = refuse

  unfoldable pub module_item : Parser Definition
  module_item = peek >>= module_item_by

  unfoldable pub module_from : ℕ → Found → Parser Found
  module_from zero found = refuse
  module_from (suc n) found = do
    next ← peek
    if ends_file None next then pure found else (do
      d ← module_item
      eat k.Semicolon
      module_from n (with_definition found d))

  -- a module file: classes, defines and functions
  unfoldable pub module_file : Parser Found
  module_file = λ i. module_from (turns i) nothing_yet i
