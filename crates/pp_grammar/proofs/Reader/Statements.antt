-- Statements. Behind a statement function's arguments, a name may have been taken already which `{` follows: it begins the
-- resource that is the next statement. It is handed on as `pending`.
use Rattle.std.specs.Prelude.{ℕ, zero, suc, Bool, true, false, if◌then◌else◌, List, [], ◌∷◌, ◌++◌, Option, Some, None}
use Rattle.pp_lexer.specs.declared.kind.Kind.{Kind}
use Rattle.pp_lexer.specs.declared.kind.Kind.TheVariants as k
use Rattle.pp_lexer.specs.Seen.{Token}
use Rattle.pp_tree.specs.declared.expr.Expr.{Expr}
use Rattle.pp_tree.specs.declared.expr.Form.TheVariants as form
use Rattle.pp_tree.specs.declared.expr.Postfix.TheVariants as postfix
use Rattle.pp_tree.specs.declared.statement.Statement.{Statement}
use Rattle.pp_tree.specs.declared.statement.Statement.TheVariants as statement
use Rattle.pp_tree.specs.declared.statement.Operand.{Operand}
use Rattle.pp_tree.specs.declared.statement.Operand.TheVariants as operand
use Rattle.pp_tree.specs.declared.statement.Link.{Link}
use Rattle.pp_tree.specs.declared.statement.Arrow.{Arrow}
use Rattle.pp_tree.specs.declared.resource.ResourceForm.{ResourceForm}
use Rattle.pp_tree.specs.declared.resource.ResourceForm.TheVariants as resource_form
use Rattle.pp_tree.specs.declared.resource.Body.{Body}
use Rattle.pp_tree.specs.declared.resource.Attribute.{Attribute}
use Rattle.pp_tree.specs.declared.collector.Query.{Query}
use Rattle.pp_tree.specs.declared.collector.Conjunction.{Conjunction}
use Rattle.pp_tree.specs.declared.collector.Test.{Test}
use Rattle.pp_tree.specs.declared.definition.Name.{Name}
use Rattle.pp_tree.specs.declared.expr.Postfix.{Postfix}
use Rattle.pp_parser.specs.declared.argument.WordArgument.{WordArgument}
use Rattle.pp_parser.specs.declared.argument.WordArgument.TheVariants as argument
use Rattle.pp_tree.specs.Building.{expr_at, name_at, reference, chain as chain_of, link, words as words_of, resource as resource_of, body as body_of, setting, splat, override as override_of, defaults as defaults_of, collector as collector_of, query as query_of, conjunction, comparison}
use Rattle.pp_tree.specs.declared.resource.Attribute.TheVariants as attribute_form
use Rattle.pp_tree.specs.declared.collector.Test.TheVariants as test_form
use Rattle.pp_grammar.proofs.Reader.Input.{Parser, ◌>>=◌, ◌>>◌, ◌<$>◌, pure, peek, here, take, refuse, expect, expect_any, eat, repeat, turns, separated, separated_some}
use Rattle.pp_grammar.proofs.Reader.Inner.{Inner, opening, whole_in, query_in}
use Rattle.pp_grammar.specs.Kinds.{is_name, is_word, begins_expression, ends_body}
pub use Rattle.pp_grammar.specs.Operators.{arrow_at}
pub use Rattle.pp_grammar.specs.Kinds.{names_resource}
use Rattle.pp_grammar.proofs.Reader.Expressions.{started, loosest, access, call_or_name, chain, value, whole, is_at}

-- a name and where it stands
abbrev pub name_of : Token → Name
name_of t = name_at t.text t.line

-- the next token as a name
abbrev pub taken_name : Parser Name
taken_name = name_of <$> take

-- a statement, and the name behind it that begins the next one
abbrev pub Read : Type 0
Read = Statement × Option Name

-- an operand that no arrow may follow
abbrev pub alone : ℕ → Operand → Read
alone at only = (statement.Chain (chain_of only [] at), None)

-- the end of a block, unless the name that begins the next statement was taken already
abbrev pub ends_block : Option Name → Option Kind → Bool
ends_block None (Some k.CloseBrace) = true
ends_block _ _ = false

module _ (inner : Inner) where
  -- ---- attributes

  abbrev pub assigns_by : Bool → Option Kind → Parser Bool
  assigns_by may_append (Some k.Arrow) = take >> pure false
  assigns_by may_append (Some k.PlusArrow) = if may_append then (take >> pure true) else refuse
  assigns_by may_append _ = refuse

  -- `=>`, or `+>` where it may stand: whether it appends
  unfoldable pub assigns : Bool → Parser Bool
  assigns may_append = peek >>= assigns_by may_append

  unfoldable pub setting_rule : Bool → Parser (Attribute Expr)
  setting_rule may_append = do
    t ← expect_any is_word
    append ← assigns may_append
    x ← whole_in inner false
    pure (attribute_form.Set (setting t.text append x t.line))

  unfoldable pub splat_rule : Parser (Attribute Expr)
  splat_rule = do
    t ← expect k.Star
    expect k.Arrow
    x ← whole_in inner false
    pure (attribute_form.Splat (splat x t.line))

  abbrev pub attribute_by : Bool → Option Kind → Parser (Attribute Expr)
  attribute_by may_append (Some k.Star) = splat_rule
  attribute_by may_append _ = setting_rule may_append

  unfoldable pub attribute : Bool → Parser (Attribute Expr)
  attribute may_append = peek >>= attribute_by may_append

  -- `{ attributes }`
  unfoldable pub attributes : Bool → Parser (List (Attribute Expr))
  attributes may_append = do
    opening inner k.OpenBrace
    found ← separated (is_at k.CloseBrace) k.Comma (attribute may_append)
    expect k.CloseBrace
    pure found

  -- ---- resources

  -- `title: attributes`
  unfoldable pub body : Parser (Body Expr)
  body = do
    at ← here
    title ← whole_in inner false
    expect k.Colon
    found ← separated ends_body k.Comma (attribute false)
    pure (body_of title found at)

  -- behind the kind: `{ body; body }`
  unfoldable pub resource : ResourceForm → List ℕ → ℕ → Parser Operand
  resource sort kind at = do
    opening inner k.OpenBrace
    bodies ← separated_some (is_at k.CloseBrace) k.Semicolon body
    expect k.CloseBrace
    pure (operand.Resource (resource_of sort kind bodies at))

  -- `@` or `@@` and a resource
  unfoldable pub marked : ResourceForm → Parser Operand
  marked sort = do
    mark ← take
    t ← expect_any names_resource
    resource sort t.text mark.line

  -- ---- collectors

  abbrev pub compares_by : Option Kind → Parser Bool
  compares_by (Some k.Equal) = take >> pure true
  compares_by (Some k.NotEqual) = take >> pure false
  compares_by _ = refuse

  unfoldable pub compares : Parser Bool
  compares = peek >>= compares_by

  unfoldable pub comparison_rule : Parser Test
  comparison_rule = do
    t ← expect_any is_word
    equal ← compares
    x ← value inner false
    pure (test_form.Compare (comparison t.text equal x t.line))

  unfoldable pub query_in_parentheses : Parser Test
  query_in_parentheses = do
    opening inner k.OpenParen
    q ← query_in inner
    expect k.CloseParen
    pure (test_form.Query q)

  abbrev pub test_by : Option Kind → Parser Test
  test_by (Some k.OpenParen) = query_in_parentheses
  test_by _ = comparison_rule

  unfoldable pub test_rule : Parser Test
  test_rule = peek >>= test_by

  unfoldable pub another_by : {A : Type 0} → Parser A → Bool → Parser (Option A)
  another_by item found = if found then Some <$> item else pure None

  -- a word and what it joins, or nothing
  unfoldable pub another : {A : Type 0} → Kind → Parser A → Parser (Option A)
  another word item = eat word >>= another_by item

  unfoldable pub conjunction_rule : Parser Conjunction
  conjunction_rule = do
    first ← test_rule
    more ← repeat (another k.And test_rule)
    pure (conjunction (first ∷ more))

  unfoldable pub query : Parser Query
  query = do
    first ← conjunction_rule
    more ← repeat (another k.Or conjunction_rule)
    pure (query_of (first ∷ more))

  unfoldable pub optional_query : Kind → Parser (Option Query)
  optional_query close = do
    next ← peek
    if is_at close next then pure None else Some <$> query_in inner

  abbrev pub settings_by : Option Kind → Parser (List (Attribute Expr))
  settings_by (Some k.OpenBrace) = attributes true
  settings_by _ = pure []

  unfoldable pub optional_settings : Parser (List (Attribute Expr))
  optional_settings = peek >>= settings_by

  -- behind the kind
  unfoldable pub collector : Bool → Kind → Kind → List ℕ → ℕ → Parser Operand
  collector exported opens close kind at = do
    opening inner opens
    found ← optional_query close
    expect close
    settings ← optional_settings
    pure (operand.Collector (collector_of kind exported found settings at))

  -- ---- operands of a chain

  unfoldable pub expression_from : Expr → List Postfix → Parser Operand
  expression_from base postfixes = operand.Expr <$> chain inner false loosest (Some (record { base = base; postfixes = postfixes }))

  abbrev pub behind_name_by : Name → Option Kind → Parser Operand
  behind_name_by name (Some k.OpenBrace) = resource resource_form.Plain name.text name.at
  behind_name_by name _ = do
    found ← call_or_name inner false name.text
    expression_from (expr_at name.at found) []

  -- behind a name: a resource where `{` follows, else an expression
  unfoldable pub behind_name : Name → Parser Operand
  behind_name name = peek >>= behind_name_by name

  abbrev pub behind_type_by : Name → Option Kind → Parser Operand
  behind_type_by type (Some k.OpenCollector) = collector false k.OpenCollector k.CloseCollector type.text type.at
  behind_type_by type (Some k.OpenExported) = collector true k.OpenExported k.CloseExported type.text type.at
  behind_type_by type _ = expression_from (expr_at type.at (form.Type type.text)) []

  -- behind the name of a type: a collector or an expression
  unfoldable pub behind_type : Name → Parser Operand
  behind_type type = peek >>= behind_type_by type

  -- the word `class` and its braces
  abbrev pub class_resource : Parser Operand
  class_resource = do
    t ← take
    resource resource_form.Plain t.text t.line

  abbrev pub operand_by : Option Kind → Parser Operand
  operand_by (Some k.At) = marked resource_form.Virtual
  operand_by (Some k.AtAt) = marked resource_form.Exported
  operand_by (Some k.Class) = class_resource
  operand_by (Some k.Name) = taken_name >>= behind_name
  operand_by (Some k.StatementFunction) = taken_name >>= behind_name
  operand_by (Some k.Type) = taken_name >>= behind_type
  operand_by _ = operand.Expr <$> whole inner false false

  unfoldable pub operand_rule : Parser Operand
  operand_rule = peek >>= operand_by

  -- ---- statements

  abbrev pub link_by : Option Arrow → Parser (Option (Link Operand))
  link_by (Some mark) = do
    take
    next ← operand_rule
    pure (Some (link mark next))
  link_by None = pure None

  -- an arrow and its operand, or nothing
  unfoldable pub link_rule : Parser (Option (Link Operand))
  link_rule = do
    next ← peek
    link_by (arrow_at next)

  -- behind the first operand of a chain
  unfoldable pub chain_from : ℕ → Operand → Parser Read
  chain_from at first = do
    links ← repeat link_rule
    pure (statement.Chain (chain_of first links at), None)

  -- behind a name: a chain that begins with it
  abbrev pub named_chain : Name → Parser Read
  named_chain name = behind_name name >>= chain_from name.at

  -- behind the name of a type: a chain that begins with it
  abbrev pub typed_chain : Name → Parser Read
  typed_chain type = behind_type type >>= chain_from type.at

  unfoldable pub defaults_rule : Name → Parser Read
  defaults_rule type = do
    found ← attributes false
    pure (alone type.at (operand.Defaults (defaults_of type.text found type.at)))

  unfoldable pub override_rule : Name → List Expr → Parser Read
  override_rule type args = do
    found ← attributes true
    pure (alone type.at (operand.Override (override_of (reference type.text args type.at) found type.at)))

  -- a chain that begins with `Type[args]`
  abbrev pub reference_chain : Name → List Expr → Parser Read
  reference_chain type args = expression_from (expr_at type.at (form.Type type.text)) (postfix.Access args ∷ []) >>= chain_from type.at

  abbrev pub reference_by : Name → List Expr → Option Kind → Parser Read
  reference_by type args (Some k.OpenBrace) = override_rule type args
  reference_by type args _ = reference_chain type args

  -- behind `Type[args]` at the beginning of a statement
  unfoldable pub reference_rule : Name → List Expr → Parser Read
  reference_rule type args = peek >>= reference_by type args

  abbrev pub typed_by : Name → Option Kind → Parser Read
  typed_by type (Some k.OpenBrace) = defaults_rule type
  typed_by type (Some k.TightBracket) = access inner >>= reference_rule type
  typed_by type _ = typed_chain type

  -- behind the name of a type at the beginning of a statement
  unfoldable pub typed : Name → Parser Read
  typed type = peek >>= typed_by type

  -- ---- statement functions

  -- behind a name: the rest of an argument
  abbrev pub named_argument : Name → Parser WordArgument
  named_argument name = do
    found ← call_or_name inner false name.text
    x ← chain inner false loosest (Some (started (expr_at name.at found)))
    pure (argument.Argument x)

  abbrev pub argument_from_by : Name → Option Kind → Parser WordArgument
  argument_from_by name (Some k.OpenBrace) = pure (argument.Pending name)
  argument_from_by name _ = named_argument name

  unfoldable pub argument_from : Name → Parser WordArgument
  argument_from name = peek >>= argument_from_by name

  -- an argument, or a name that `{` follows, which is none
  unfoldable pub argument_rule : Parser WordArgument
  argument_rule = do
    next ← peek
    if is_name next then taken_name >>= argument_from else argument.Argument <$> whole inner false false

  abbrev pub argument_then : List Expr → (List Expr → Parser (List Expr × Option Name)) → WordArgument → Parser (List Expr × Option Name)
  argument_then found go (argument.Pending name) = pure (found, Some name)
  argument_then found go (argument.Argument x) = eat k.Comma >>= (λ more. if more then go (found ++ x ∷ []) else pure (found ++ x ∷ [], None))

  unfoldable pub words_from : ℕ → List Expr → Parser (List Expr × Option Name)
  words_from zero found = refuse
  words_from (suc n) found = do
    next ← peek
    if begins_expression next then argument_rule >>= argument_then found (words_from n) else pure (found, None)

  -- behind the name of a statement function: its arguments
  unfoldable pub words : Name → Parser Read
  words name = do
    found ← (λ i. words_from (turns i) [] i)
    pure (statement.Words (words_of name.text found.0 name.at), found.1)

  abbrev pub function_by : Name → Option Kind → Parser Read
  function_by name (Some k.OpenParen) = named_chain name
  function_by name (Some k.OpenBrace) = named_chain name
  function_by name _ = words name

  -- behind the name of a statement function at the beginning of a statement
  unfoldable pub function : Name → Parser Read
  function name = peek >>= function_by name

  -- a chain whose first operand begins here
  abbrev pub chain_here : Parser Read
  chain_here = do
    at ← here
    first ← operand_rule
    chain_from at first

  -- ---- in templates

  -- what stands outside of its tags
  abbrev pub emitted_text : Parser Read
  emitted_text = (λ t. (statement.Emit t.text, None)) <$> take

  -- between `<%=` and the end of its tag: a value
  unfoldable pub emitted_value : Parser Read
  emitted_value = do
    take
    x ← whole inner false false
    expect k.TagEnd
    pure (statement.EmitValue x, None)

  abbrev pub statement_by : Option Kind → Parser Read
  statement_by (Some k.RenderString) = emitted_text
  statement_by (Some k.RenderExpr) = emitted_value
  statement_by (Some k.StatementFunction) = taken_name >>= function
  statement_by (Some k.Type) = taken_name >>= typed
  statement_by _ = chain_here

  abbrev pub statement_from : Option Name → Parser Read
  statement_from (Some name) = named_chain name
  statement_from None = peek >>= statement_by

  -- a statement, whose name may have been taken already
  unfoldable pub statement_rule : Option Name → Parser Read
  statement_rule pending = statement_from pending

  -- ---- blocks

  unfoldable pub statements_from : ℕ → List Statement → Option Name → Parser (List Statement)
  statements_from zero found pending = refuse
  statements_from (suc n) found pending = do
    next ← peek
    if ends_block pending next then pure found else (do
      read ← statement_rule pending
      eat k.Semicolon
      statements_from n (found ++ read.0 ∷ []) read.1)

  -- the statements of a block up to its end
  unfoldable pub statements : Parser (List Statement)
  statements = λ i. statements_from (turns i) [] None i
