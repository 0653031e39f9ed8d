-- Expressions, as readers. A rule stands on some level; what stands one level further in is asked of `inner`.
use Rattle.std.specs.Prelude.{ℕ, zero, suc, Bool, true, false, if◌then◌else◌, List, [], ◌++◌, Option, Some, None}
use Rattle.pp_lexer.specs.declared.kind.Kind.{Kind}
use Rattle.pp_lexer.specs.declared.kind.Kind.TheVariants as k
use Rattle.pp_tree.specs.declared.operators.BinaryOperator.{BinaryOperator}
use Rattle.pp_tree.specs.declared.operators.PrefixOperator.{PrefixOperator}
use Rattle.pp_tree.specs.declared.operators.PrefixOperator.TheVariants as prefix
use Rattle.pp_tree.specs.declared.expr.Expr.{Expr}
use Rattle.pp_tree.specs.declared.expr.Form.{Form}
use Rattle.pp_tree.specs.declared.expr.Form.TheVariants as form
use Rattle.pp_tree.specs.declared.expr.Piece.{Piece}
use Rattle.pp_tree.specs.declared.expr.Piece.TheVariants as piece
use Rattle.pp_tree.specs.declared.expr.Pair.{Pair}
use Rattle.pp_tree.specs.declared.expr.Operation.{Operation}
use Rattle.pp_tree.specs.declared.expr.Postfix.{Postfix}
use Rattle.pp_tree.specs.declared.expr.Postfix.TheVariants as postfix
use Rattle.pp_tree.specs.declared.expr.Lambda.{Lambda}
use Rattle.pp_tree.specs.declared.param.Param.{Param}
use Rattle.pp_tree.specs.declared.statement.Statement.{Statement}
use Rattle.pp_tree.specs.declared.conditions.CaseOption.{CaseOption}
use Rattle.pp_tree.specs.declared.conditions.Elsif.{Elsif}
use Rattle.pp_tree.specs.Building.{expr_at, pair, operation, call, lambda, param, elsif, if_of, unless_of, case_of, case_option as option_of_case}
use Rattle.pp_parser.specs.declared.started.Started.{Started}
use Rattle.pp_grammar.proofs.Reader.Input.{Parser, ◌>>=◌, ◌>>◌, ◌<$>◌, pure, peek, here, take, refuse, expect, expect_any, repeat, separated, separated_some}
use Rattle.pp_grammar.proofs.Reader.Inner.{Inner, opening, whole_in, operand_in, interpolated_in, param_in, statements_in, case_option_in}
use Rattle.pp_grammar.proofs.Reader.Keys.{noting}
use Rattle.pp_grammar.specs.Kinds.{is_kind, is_name, is_bar}
unfoldable pub use Rattle.pp_grammar.specs.Operators.{operator_at}
pub use Rattle.pp_grammar.specs.Operators.{strength, binary_operator, loosest}
pub use Rattle.pp_grammar.specs.Expressions.{chained, postfixed, pieces}
use Rattle.pp_grammar.proofs.Reader.Params.{param_from}

-- a value and nothing behind it yet
abbrev pub started : Expr → Started
started x = record { base = x; postfixes = [] }

abbrev pub is_at : Kind → Option Kind → Bool
is_at = is_kind

-- The flag `bars` says that the rule stands directly within the bars of a lambda's parameters.
module _ (inner : Inner) where
  -- ---- what stands in brackets

  -- `{ statements }`
  unfoldable pub block : Parser (List Statement)
  block = do
    opening inner k.OpenBrace
    statements ← statements_in inner
    expect k.CloseBrace
    pure statements

  -- `( args )`, where nothing may stand between
  unfoldable pub arguments : Parser (List Expr)
  arguments = do
    opening inner k.OpenParen
    args ← separated (is_at k.CloseParen) k.Comma (whole_in inner false)
    expect k.CloseParen
    pure args

  -- `( args )` or nothing
  abbrev pub arguments_by : Option Kind → Parser (List Expr)
  arguments_by (Some k.OpenParen) = arguments
  arguments_by _ = pure []

  unfoldable pub optional_arguments : Parser (List Expr)
  optional_arguments = peek >>= arguments_by

  -- `[ args ]` behind a value
  unfoldable pub access : Parser (List Expr)
  access = do
    opening inner k.TightBracket
    args ← separated_some (is_at k.CloseBracket) k.Comma (whole_in inner false)
    expect k.CloseBracket
    pure args

  -- a list that begins with this kind of bracket
  unfoldable pub list : Kind → Parser Form
  list bracket = do
    opening inner bracket
    members ← separated (is_at k.CloseBracket) k.Comma (whole_in inner false)
    expect k.CloseBracket
    pure (form.List members)

  -- `key => value`
  unfoldable pub pair_rule : Parser (Pair Expr)
  pair_rule = do
    key ← whole_in inner false
    expect k.Arrow
    value ← whole_in inner false
    pure (pair key value)

  unfoldable pub hash : Parser Form
  hash = do
    opening inner k.OpenBrace
    pairs ← separated (is_at k.CloseBrace) k.Comma pair_rule
    expect k.CloseBrace
    noting inner.doubled_key pairs
    pure (form.Hash pairs)

  unfoldable pub parentheses : Parser Form
  parentheses = do
    opening inner k.OpenParen
    x ← whole_in inner false
    expect k.CloseParen
    pure (form.Parentheses x)

  -- ---- lambdas

  -- the parameters between two bars, of which this kind of bar is the first, and the block
  unfoldable pub lambda_from : Kind → Parser Lambda
  lambda_from bar = do
    opening inner bar
    params ← separated is_bar k.Comma (param_in inner true)
    expect_any is_bar
    body ← block
    pure (lambda params body)

  -- Within bars, the bar that `{` follows ends the parameters and begins no lambda.
  abbrev pub lambda_by : Bool → Option Kind → Parser (Option Lambda)
  lambda_by bars (Some k.Bar) = Some <$> lambda_from k.Bar
  lambda_by bars (Some k.LastBar) = if bars then pure None else Some <$> lambda_from k.LastBar
  lambda_by bars _ = pure None

  unfoldable pub optional_lambda : Bool → Parser (Option Lambda)
  optional_lambda bars = peek >>= lambda_by bars

  -- ---- names and calls

  abbrev pub call_or_name_by : Bool → List ℕ → Option Kind → Parser Form
  call_or_name_by bars name (Some k.OpenParen) = do
    args ← arguments
    last ← optional_lambda bars
    pure (form.Call (call name args last))
  call_or_name_by bars name _ = pure (form.Name name)

  -- behind a name: `name(args) lambda`, or the name alone
  unfoldable pub call_or_name : Bool → List ℕ → Parser Form
  call_or_name bars name = peek >>= call_or_name_by bars name

  unfoldable pub named : Bool → Parser Form
  named bars = do
    t ← take
    call_or_name bars t.text

  -- ---- texts with interpolation

  unfoldable pub interpolation : Parser Expr
  interpolation = do
    opening inner k.InterpolationBegin
    x ← interpolated_in inner
    expect k.InterpolationEnd
    pure x

  abbrev pub piece_by : Option Kind → Parser (Option (Piece Expr))
  piece_by (Some k.Piece) = (λ t. Some (piece.Text t.text)) <$> take
  piece_by (Some k.VariableInText) = (λ t. Some (piece.Value (expr_at t.line (form.Variable t.text)))) <$> take
  piece_by (Some k.InterpolationBegin) = (λ x. Some (piece.Value x)) <$> interpolation
  piece_by _ = pure None

  unfoldable pub piece_rule : Parser (Option (Piece Expr))
  piece_rule = peek >>= piece_by

  -- behind a first run of characters
  abbrev pub text_by : List ℕ → Option Kind → Parser Form
  text_by said (Some k.TextEnd) = take >> pure (form.Text said)
  text_by said _ = do
    more ← repeat piece_rule
    expect k.TextEnd
    pure (form.Interpolated (pieces said more))

  unfoldable pub text_after : List ℕ → Parser Form
  text_after said = peek >>= text_by said

  abbrev pub quoted_by : Option Kind → Parser Form
  quoted_by (Some k.Piece) = take >>= (λ t. text_after t.text)
  quoted_by _ = text_after []

  unfoldable pub quoted : Parser Form
  quoted = do
    expect k.TextBegin
    next ← peek
    quoted_by next

  -- ---- conditions

  -- `else` and its block, or nothing
  abbrev pub otherwise_by : Option Kind → Parser (Option (List Statement))
  otherwise_by (Some k.Else) = take >> Some <$> block
  otherwise_by _ = pure None

  unfoldable pub otherwise : Parser (Option (List Statement))
  otherwise = peek >>= otherwise_by

  -- what opens a level until the end of its condition, and the condition
  unfoldable pub condition : Kind → Parser Expr
  condition word = do
    opening inner word
    whole_in inner false

  abbrev pub elsif_by : Option Kind → Parser (Option Elsif)
  elsif_by (Some k.Elsif) = do
    test ← condition k.Elsif
    body ← block
    pure (Some (elsif test body))
  elsif_by _ = pure None

  unfoldable pub elsif_rule : Parser (Option Elsif)
  elsif_rule = peek >>= elsif_by

  unfoldable pub if_rule : Parser Form
  if_rule = do
    test ← condition k.If
    body ← block
    elsifs ← repeat elsif_rule
    last ← otherwise
    pure (form.If (if_of test body elsifs last))

  unfoldable pub unless_rule : Parser Form
  unless_rule = do
    test ← condition k.Unless
    body ← block
    last ← otherwise
    pure (form.Unless (unless_of test body last))

  abbrev pub case_options_by : Option Kind → Parser (Option CaseOption)
  case_options_by (Some k.CloseBrace) = pure None
  case_options_by _ = Some <$> case_option_in inner

  unfoldable pub case_options : Parser (Option CaseOption)
  case_options = peek >>= case_options_by

  unfoldable pub case_rule : Parser Form
  case_rule = do
    control ← condition k.Case
    opening inner k.OpenBrace
    options ← repeat case_options
    expect k.CloseBrace
    pure (form.Case (case_of control options))

  -- ---- values

  abbrev pub primary_by : Bool → Option Kind → Parser Form
  primary_by bars (Some k.Name) = named bars
  primary_by bars (Some k.StatementFunction) = named bars
  primary_by bars (Some k.Type) = (λ t. form.Type t.text) <$> take
  primary_by bars (Some k.Variable) = (λ t. form.Variable t.text) <$> take
  primary_by bars (Some k.QualifiedVariable) = (λ t. form.Variable t.text) <$> take
  primary_by bars (Some k.Number) = (λ t. form.Number t.number) <$> take
  primary_by bars (Some k.Text) = (λ t. form.Text t.text) <$> take
  primary_by bars (Some k.TextBegin) = quoted
  primary_by bars (Some k.True) = take >> pure (form.Flag true)
  primary_by bars (Some k.False) = take >> pure (form.Flag false)
  primary_by bars (Some k.Undef) = take >> pure form.Undef
  primary_by bars (Some k.Default) = take >> pure form.Default
  primary_by bars (Some k.TightBracket) = list k.TightBracket
  primary_by bars (Some k.OpenBracket) = list k.OpenBracket
  primary_by bars (Some k.OpenBrace) = hash
  primary_by bars (Some k.OpenParen) = parentheses
  primary_by bars (Some k.If) = if_rule
  primary_by bars (Some k.Unless) = unless_rule
  primary_by bars (Some k.Case) = case_rule
  primary_by bars _ = refuse

  unfoldable pub primary : Bool → Parser Expr
  primary bars = do
    at ← here
    next ← peek
    found ← primary_by bars next
    pure (expr_at at found)

  -- ---- what follows a value

  -- `.name(args) lambda`
  unfoldable pub method : Bool → Parser Postfix
  method bars = do
    expect k.Dot
    name ← expect_any is_name
    args ← optional_arguments
    last ← optional_lambda bars
    pure (postfix.Method (call name.text args last))

  -- `? { options }`
  unfoldable pub selector : Parser Postfix
  selector = do
    expect k.Question
    opening inner k.OpenBrace
    options ← separated_some (is_at k.CloseBrace) k.Comma pair_rule
    expect k.CloseBrace
    pure (postfix.Select options)

  abbrev pub postfix_by : Bool → Option Kind → Parser (Option Postfix)
  postfix_by bars (Some k.TightBracket) = (λ args. Some (postfix.Access args)) <$> access
  postfix_by bars (Some k.Dot) = Some <$> method bars
  postfix_by bars (Some k.Question) = Some <$> selector
  postfix_by bars _ = pure None

  unfoldable pub postfix_rule : Bool → Parser (Option Postfix)
  postfix_rule bars = peek >>= postfix_by bars

  -- behind a value and what followed it so far
  unfoldable pub postfixes : Bool → Started → Parser Expr
  postfixes bars s = do
    more ← repeat (postfix_rule bars)
    pure (postfixed s.base (s.postfixes ++ more))

  unfoldable pub value : Bool → Parser Expr
  value bars = do
    base ← primary bars
    postfixes bars (started base)

  -- ---- operators

  unfoldable pub prefixed : Bool → Kind → PrefixOperator → Parser Expr
  prefixed bars mark operator = do
    at ← here
    opening inner mark
    x ← operand_in inner bars
    pure (expr_at at (form.Prefix operator x))

  abbrev pub operand_by : Bool → Option Kind → Parser Expr
  operand_by bars (Some k.Bang) = prefixed bars k.Bang prefix.Not
  operand_by bars (Some k.Minus) = prefixed bars k.Minus prefix.Negate
  operand_by bars (Some k.Star) = prefixed bars k.Star prefix.Splat
  operand_by bars _ = value bars

  -- prefix operators, in any order, and a value
  unfoldable pub operand : Bool → Parser Expr
  operand bars = peek >>= operand_by bars

  -- the same where its value was begun already
  abbrev pub operand_from : Bool → Option Started → Parser Expr
  operand_from bars None = operand bars
  operand_from bars (Some s) = postfixes bars s

  abbrev pub operation_by : Parser Expr → Option BinaryOperator → Parser (Option (Operation Expr))
  operation_by tighter (Some operator) = do
    take
    right ← tighter
    pure (Some (operation operator right))
  operation_by tighter None = pure None

  -- an operator of this strength and its right operand
  unfoldable pub operation_rule : Parser Expr → ℕ → Parser (Option (Operation Expr))
  operation_rule tighter strength = do
    next ← peek
    operation_by tighter (operator_at strength next)

  -- Operands and operators of this strength and tighter, from left to right. The first operand may be begun already.
  unfoldable pub chain : Bool → ℕ → Option Started → Parser Expr
  chain bars zero start = operand_from bars start
  chain bars (suc tighter) start = do
    first ← chain bars tighter start
    more ← repeat (operation_rule (chain bars tighter None) (suc tighter))
    pure (chained first more)

  abbrev pub assigned_by : Bool → Bool → ℕ → List ℕ → Option Kind → Parser Expr
  assigned_by bars behind at name (Some k.Assign) = do
    opening inner k.Assign
    x ← whole_in inner behind
    pure (expr_at at (form.Assign name x))
  assigned_by bars behind at name _ = chain bars loosest (Some (started (expr_at at (form.Variable name))))

  -- behind a variable of one segment at the beginning of an expression
  unfoldable pub assigned : Bool → Bool → ℕ → List ℕ → Parser Expr
  assigned bars behind at name = peek >>= assigned_by bars behind at name

  abbrev pub whole_by : Bool → Bool → Option Kind → Parser Expr
  whole_by bars behind (Some k.Variable) = take >>= (λ t. assigned bars behind t.line t.text)
  whole_by bars behind _ = chain bars loosest None

  -- An expression. The second flag is that of the expression behind its `=`, if it has one.
  unfoldable pub whole : Bool → Bool → Parser Expr
  whole bars behind = peek >>= whole_by bars behind

  -- ---- what stands between `${` and `}`

  -- A name there is a variable where `}`, `[` or `.` follows it.
  abbrev pub variable_or_call_by : List ℕ → Option Kind → Parser Form
  variable_or_call_by name (Some k.InterpolationEnd) = pure (form.Variable name)
  variable_or_call_by name (Some k.TightBracket) = pure (form.Variable name)
  variable_or_call_by name (Some k.OpenBracket) = pure (form.Variable name)
  variable_or_call_by name (Some k.Dot) = pure (form.Variable name)
  variable_or_call_by name _ = call_or_name false name

  unfoldable pub variable_or_call : List ℕ → Parser Form
  variable_or_call name = peek >>= variable_or_call_by name

  unfoldable pub begun_by_name : Parser Expr
  begun_by_name = do
    t ← take
    found ← variable_or_call t.text
    chain false loosest (Some (started (expr_at t.line found)))

  unfoldable pub interpolated : Parser Expr
  interpolated = do
    next ← peek
    if is_name next then begun_by_name else whole false false

  -- ---- parameters and options

  -- `= default`, or nothing
  abbrev pub default_by : Bool → Option Kind → Parser (Option Expr)
  default_by bars (Some k.Assign) = do
    opening inner k.Assign
    x ← whole_in inner bars
    pure (Some x)
  default_by bars _ = pure None

  unfoldable pub default_rule : Bool → Parser (Option Expr)
  default_rule bars = peek >>= default_by bars

  -- A parameter's line is that of its variable, also where a type stands before it.
  unfoldable pub typed_param : Bool → Expr → Parser (Param Expr)
  typed_param bars type = do
    t ← expect k.Variable
    default ← default_rule bars
    pure (param (Some type) t.text default t.line)

  abbrev pub param_by : Bool → ℕ → Expr → Option Kind → Parser (Param Expr)
  param_by bars at x (Some k.Variable) = typed_param bars x
  param_by bars at x _ = param_from at x

  -- An expression and a variable, or an expression that is a variable or its assignment. Within bars, only what stands behind
  -- `=` may end before the last bar.
  unfoldable pub param_rule : Bool → Parser (Param Expr)
  param_rule bars = do
    at ← here
    x ← whole false bars
    next ← peek
    param_by bars at x next

  -- `values: { .. }`
  unfoldable pub case_option : Parser CaseOption
  case_option = do
    at ← here
    values ← separated_some (is_at k.Colon) k.Comma (whole false false)
    expect k.Colon
    body ← block
    pure (option_of_case values body at)
