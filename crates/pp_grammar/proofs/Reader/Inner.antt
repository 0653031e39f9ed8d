-- What a rule asks of the readers one level further in.
use Rattle.std.specs.Prelude.{ℕ, Bool, List, Option}
use Rattle.pp_lexer.specs.declared.kind.Kind.{Kind}
use Rattle.pp_lexer.specs.Seen.{Token}
use Rattle.pp_tree.specs.declared.expr.Expr.{Expr}
use Rattle.pp_tree.specs.declared.expr.Pair.{Pair}
use Rattle.pp_tree.specs.declared.param.Param.{Param}
use Rattle.pp_tree.specs.declared.statement.Statement.{Statement}
use Rattle.pp_tree.specs.declared.conditions.CaseOption.{CaseOption}
use Rattle.pp_tree.specs.declared.collector.Query.{Query}
use Rattle.pp_parser.specs.declared.inset.Inset.{Inset}
use Rattle.pp_parser.specs.declared.inset.Inset.TheVariants as goal
use Rattle.pp_parser.specs.declared.inset.InsetTree.{InsetTree}
use Rattle.pp_parser.specs.declared.inset.InsetTree.TheVariants as part
use Rattle.pp_grammar.proofs.Reader.Input.{Input, Parser, ◌>>=◌, pure, refuse, open_level}

pub record Inner : Type 0 where
  -- whether no level may be opened any more by a token that stands here
  pub is_deepest : Input → Bool
  -- what is read there for a goal
  pub read : Inset → Parser InsetTree
  -- the line of the first key of these pairs that stands a second time
  pub doubled_key : List (Pair Expr) → Option ℕ

-- a token of this kind, which opens a level
abbrev pub opening : Inner → Kind → Parser Token
opening inner k = λ i. open_level (inner.is_deepest i) k i

-- ---- a goal's part is of the goal's sort

abbrev pub expr_of : InsetTree → Parser Expr
expr_of (part.Expr x) = pure x
expr_of _ = refuse

abbrev pub param_of : InsetTree → Parser (Param Expr)
param_of (part.Param x) = pure x
param_of _ = refuse

abbrev pub block_of : InsetTree → Parser (List Statement)
block_of (part.Block x) = pure x
block_of _ = refuse

abbrev pub case_option_of : InsetTree → Parser CaseOption
case_option_of (part.CaseOption x) = pure x
case_option_of _ = refuse

abbrev pub query_of : InsetTree → Parser Query
query_of (part.Query x) = pure x
query_of _ = refuse

-- ---- what is asked for

unfoldable pub whole_in : Inner → Bool → Parser Expr
whole_in inner bars = inner.read (goal.Whole bars) >>= expr_of

unfoldable pub operand_in : Inner → Bool → Parser Expr
operand_in inner bars = inner.read (goal.Operand bars) >>= expr_of

unfoldable pub interpolated_in : Inner → Parser Expr
interpolated_in inner = inner.read goal.Interpolated >>= expr_of

unfoldable pub param_in : Inner → Bool → Parser (Param Expr)
param_in inner bars = inner.read (goal.Param bars) >>= param_of

unfoldable pub statements_in : Inner → Parser (List Statement)
statements_in inner = inner.read goal.Statements >>= block_of

unfoldable pub function_statements_in : Inner → Parser (List Statement)
function_statements_in inner = inner.read goal.FunctionStatements >>= block_of

unfoldable pub case_option_in : Inner → Parser CaseOption
case_option_in inner = inner.read goal.CaseOption >>= case_option_of

unfoldable pub query_in : Inner → Parser Query
query_in inner = inner.read goal.Query >>= query_of
