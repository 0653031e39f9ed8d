-- Templates, over their tokens.
use Rattle.std.specs.Prelude.{ℕ, zero, suc, false, if◌then◌else◌, List, [], ◌∷◌, ◌++◌, Option, Some, None}
use Rattle.pp_lexer.specs.declared.kind.Kind.{Kind}
use Rattle.pp_lexer.specs.declared.kind.Kind.TheVariants as k
use Rattle.pp_tree.specs.declared.definition.Name.{Name}
use Rattle.pp_tree.specs.declared.expr.Expr.{Expr}
use Rattle.pp_tree.specs.declared.param.Param.{Param}
use Rattle.pp_tree.specs.declared.statement.Statement.{Statement}
use Rattle.pp_tree.specs.declared.statement.Statement.TheVariants as statement
use Rattle.pp_tree.specs.declared.template.Template.{Template}
use Rattle.pp_tree.specs.Building.{template_of}
use Rattle.pp_grammar.proofs.Reader.Definitions.{ends_file}
use Rattle.pp_grammar.proofs.Reader.Expressions.{param_rule}
use Rattle.pp_grammar.proofs.Reader.Inner.{Inner}
use Rattle.pp_grammar.proofs.Reader.Input.{Parser, ◌>>=◌, ◌>>◌, ◌<$>◌, pure, peek, take, refuse, expect, expect_any, eat, repeat, turns, separated}
use Rattle.pp_grammar.specs.Kinds.{ends_params}
use Rattle.pp_grammar.proofs.Reader.Statements.{statement_rule}

module _ (inner : Inner) where
  -- ---- before the first tag

  -- a text, with at most one `;` behind it
  unfoldable pub leading_text : Parser Statement
  leading_text = do
    t ← take
    eat k.Semicolon
    pure (statement.Emit t.text)

  abbrev pub leading_by : Option Kind → Parser (Option Statement)
  leading_by (Some k.RenderString) = Some <$> leading_text
  leading_by _ = pure None

  unfoldable pub leading : Parser (Option Statement)
  leading = peek >>= leading_by

  -- ---- parameters

  -- `| params |` and the end of their tag. The bar opens no level.
  unfoldable pub template_params : Parser (List (Param Expr))
  template_params = do
    expect k.ParamsBegin
    found ← separated ends_params k.Comma (param_rule inner false)
    expect_any ends_params
    expect k.TagEnd
    pure found

  abbrev pub template_params_by : Option Kind → Parser (Option (List (Param Expr)))
  template_params_by (Some k.ParamsBegin) = Some <$> template_params
  template_params_by _ = pure None

  unfoldable pub optional_template_params : Parser (Option (List (Param Expr)))
  optional_template_params = peek >>= template_params_by

  -- ---- statements

  unfoldable pub rest_from : ℕ → List Statement → Option Name → Parser (List Statement)
  rest_from zero found pending = refuse
  rest_from (suc n) found pending = do
    next ← peek
    if ends_file pending next then pure found else (do
      read ← statement_rule inner pending
      eat k.Semicolon
      rest_from n (found ++ read.0 ∷ []) read.1)

  -- statements behind these up to the end, each with at most one `;` behind it
  unfoldable pub rest_of : List Statement → Parser (List Statement)
  rest_of found = λ i. rest_from (turns i) found None i

  -- texts, then parameters where the first tag has any, then statements
  unfoldable pub template : Parser Template
  template = do
    texts ← repeat leading
    params ← optional_template_params
    block ← rest_of texts
    pure (template_of params block)
