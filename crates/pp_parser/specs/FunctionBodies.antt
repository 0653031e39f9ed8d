-- The body of a function: statement functions with their arguments, and expressions.
use Rattle.std.specs.Prelude.{ℕ, Bool, false, not, if◌then◌else◌, List, [], Option, Some, None}
use Rattle.pp_lexer.specs.declared.kind.Kind.{Kind}
use Rattle.pp_lexer.specs.declared.kind.Kind.TheVariants as k
use Rattle.pp_tree.specs.declared.definition.Name.{Name}
use Rattle.pp_tree.specs.declared.expr.Expr.{Expr}
use Rattle.pp_tree.specs.declared.statement.Operand.TheVariants as operand
use Rattle.pp_tree.specs.declared.statement.Statement.{Statement}
use Rattle.pp_tree.specs.declared.statement.Statement.TheVariants as statement
use Rattle.pp_tree.specs.Building.{expr_at, chain as chain_of, words as words_of}
use Rattle.pp_parser.specs.Input.{Parser, ◌>>=◌, ◌>>◌, ◌<$>◌, pure, peek, here, refuse, expect, eat, repeat, separated}
use Rattle.pp_parser.specs.Inner.{Inner, opening, function_statements_in}
use Rattle.pp_parser.specs.Kinds.{is_name, begins_expression}
use Rattle.pp_parser.specs.Expressions.{call_or_name, chain, loosest, started, whole}
use Rattle.pp_parser.specs.Statements.{taken_name}

-- an expression as a statement
abbrev pub stated : ℕ → Expr → Statement
stated at x = statement.Chain (chain_of (operand.Expr x) [] at)

-- what no argument begins with
abbrev pub begins_none : Option Kind → Bool
begins_none next = not (begins_expression next)

module _ (inner : Inner) where
  -- behind a name: the expression that begins with it
  abbrev pub unbraced_value : Name → Parser Expr
  unbraced_value name = do
    found ← call_or_name inner false name.text
    chain inner false loosest (Some (started (expr_at name.at found)))

  abbrev pub unbraced_by : Name → Option Kind → Parser Expr
  unbraced_by name (Some k.OpenBrace) = refuse
  unbraced_by name _ = unbraced_value name

  -- the same; before `{` the name would begin a resource, which may not stand here
  unfoldable pub unbraced_from : Name → Parser Expr
  unbraced_from name = peek >>= unbraced_by name

  -- an expression; where a name begins it, no `{` follows the name
  unfoldable pub unbraced : Parser Expr
  unbraced = do
    next ← peek
    if is_name next then taken_name >>= unbraced_from else whole inner false false

  -- ---- statements

  -- behind the name of a statement function: its arguments
  unfoldable pub function_words : Name → Parser Statement
  function_words name = do
    args ← separated begins_none k.Comma unbraced
    pure (statement.Words (words_of name.text args name.at))

  -- behind a name: an expression that begins with it
  abbrev pub named_statement : Name → Parser Statement
  named_statement name = stated name.at <$> unbraced_from name

  abbrev pub worded_by : Name → Option Kind → Parser Statement
  worded_by name (Some k.OpenParen) = named_statement name
  worded_by name (Some k.OpenBrace) = named_statement name
  worded_by name _ = function_words name

  -- behind the name of a statement function at the beginning of a statement
  unfoldable pub worded : Name → Parser Statement
  worded name = peek >>= worded_by name

  unfoldable pub value_statement : Parser Statement
  value_statement = do
    at ← here
    x ← unbraced
    pure (stated at x)

  abbrev pub function_statement_by : Option Kind → Parser Statement
  function_statement_by (Some k.StatementFunction) = taken_name >>= worded
  function_statement_by _ = value_statement

  -- words or an expression
  unfoldable pub function_statement : Parser Statement
  function_statement = peek >>= function_statement_by

  -- a statement with at most one `;` behind it
  abbrev pub ended_statement : Parser (Option Statement)
  ended_statement = do
    s ← function_statement
    eat k.Semicolon
    pure (Some s)

  abbrev pub next_statement_by : Option Kind → Parser (Option Statement)
  next_statement_by (Some k.CloseBrace) = pure None
  next_statement_by _ = ended_statement

  -- the next statement, or nothing at the end of the body
  unfoldable pub next_statement : Parser (Option Statement)
  next_statement = peek >>= next_statement_by

  -- the statements of a function's body up to its end
  unfoldable pub function_statements : Parser (List Statement)
  function_statements = repeat next_statement

  -- `{ statements }`
  unfoldable pub function_block : Parser (List Statement)
  function_block = do
    opening inner k.OpenBrace
    statements ← function_statements_in inner
    expect k.CloseBrace
    pure statements
