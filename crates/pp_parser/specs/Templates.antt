-- Templates: their tokens to their tree, or to their first fault.
use Rattle.std.specs.Prelude.{ℕ, zero, suc, false, if◌then◌else◌, List, [], ◌∷◌, ◌++◌, Option, Some, None, Result, Ok}
use Rattle.std.specs.Prelude.{Err}
use Rattle.pp_values.specs.declared.fault.Fault.{Fault}
use Rattle.pp_values.specs.declared.fault.What.TheVariants.{Syntax, DepthLimit}
use Rattle.pp_lexer.specs.Seen.{Token}
use Rattle.pp_lexer.specs.declared.kind.Kind.{Kind}
use Rattle.pp_lexer.specs.declared.kind.Kind.TheVariants as k
use Rattle.pp_tree.specs.declared.definition.Name.{Name}
use Rattle.pp_tree.specs.declared.expr.Expr.{Expr}
use Rattle.pp_tree.specs.declared.param.Param.{Param}
use Rattle.pp_tree.specs.declared.statement.Statement.{Statement}
use Rattle.pp_tree.specs.declared.statement.Statement.TheVariants as statement
use Rattle.pp_tree.specs.declared.template.Template.{Template}
use Rattle.pp_tree.specs.Building.{template_of}
use Rattle.pp_parser.specs.declared.refusal.Refusal.TheVariants as refusals
use Rattle.pp_parser.specs.Definitions.{ends_file}
use Rattle.pp_parser.specs.Expressions.{param_rule}
use Rattle.pp_parser.specs.Inner.{Inner}
use Rattle.pp_parser.specs.Input.{Outcome, Parser, ◌>>=◌, ◌>>◌, ◌<$>◌, pure, peek, take, refuse, expect, expect_any}
use Rattle.pp_parser.specs.Input.{eat, repeat, turns, separated}
use Rattle.pp_parser.specs.Kinds.{ends_params}
use Rattle.pp_parser.specs.Levels.{within, max_levels}
use Rattle.pp_parser.specs.Manifest.{fault_at, line_of, start}
use Rattle.pp_parser.specs.Statements.{statement_rule}

module _ (inner : Inner) where
  -- ---- before the first tag

  -- a text, with at most one `;` behind it
  unfoldable pub leading_text : Parser Statement
  leading_text = do
    t ← take
    eat k.Semicolon
    pure (statement.Emit t.text)

  abbrev pub leading_by : Option Kind → Parser (Option Statement)
  leading_by (Some k.RenderString) = Some <$> leading_text
  leading_by _ = pure None

  unfoldable pub leading : Parser (Option Statement)
  leading = peek >>= leading_by

  -- ---- parameters

  -- `| params |` and the end of their tag. The bar opens no level.
  unfoldable pub template_params : Parser (List (Param Expr))
  template_params = do
    expect k.ParamsBegin
    found ← separated ends_params k.Comma (param_rule inner false)
    expect_any ends_params
    expect k.TagEnd
    pure found

  abbrev pub template_params_by : Option Kind → Parser (Option (List (Param Expr)))
  template_params_by (Some k.ParamsBegin) = Some <$> template_params
  template_params_by _ = pure None

  unfoldable pub optional_template_params : Parser (Option (List (Param Expr)))
  optional_template_params = peek >>= template_params_by

  -- ---- statements

  unfoldable pub rest_from : ℕ → List Statement → Option Name → Parser (List Statement)
  rest_from zero found pending = refuse
  rest_from (suc n) found pending = do
    next ← peek
    if ends_file pending next then pure found else (do
      read ← statement_rule inner pending
      eat k.Semicolon
      rest_from n (found ++ read.0 ∷ []) read.1)

  -- statements behind these up to the end, each with at most one `;` behind it
  unfoldable pub rest_of : List Statement → Parser (List Statement)
  rest_of found = λ i. rest_from (turns i) found None i

  -- texts, then parameters where the first tag has any, then statements
  unfoldable pub template : Parser Template
  template = do
    texts ← repeat leading
    params ← optional_template_params
    block ← rest_of texts
    pure (template_of params block)

-- ---- its tree or its fault

-- what these tokens say
abbrev pub template_read : List Token → Outcome Template
template_read ts = template (within max_levels) (start ts)

-- a key that stands twice in a hash literal is a fault once the template has a tree
abbrev pub template_with : List ℕ → Template → Option ℕ → Result Template Fault
template_with path found (Some line) = Err (fault_at path Syntax line)
template_with path found None = Ok found

abbrev pub template_from : List ℕ → ℕ → List Token → Outcome Template → Result Template Fault
template_from path end ts (Ok p) = template_with path p.0 p.1.doubled
template_from path end ts (Err (refusals.Wrong left)) = Err (fault_at path Syntax (line_of end ts left))
template_from path end ts (Err (refusals.Deep left)) = Err (fault_at path DepthLimit (line_of end ts left))
template_from path end ts (Err refusals.Memory) = Err (fault_at path Syntax 0)

-- the template of these tokens of the file at this path, which ends on this line
unfoldable pub template_told : List ℕ → ℕ → List Token → Result Template Fault
template_told path end ts = template_from path end ts (template_read ts)
