-- A parameter without a type, which was read as an expression.
use Rattle.std.specs.Prelude.{ℕ, if◌then◌else◌, Some, None}
use Rattle.pp_tree.specs.declared.collector.Test.TheOpen.{Form-F}
use Rattle.pp_tree.specs.declared.expr.Expr.{Expr}
use Rattle.pp_tree.specs.declared.expr.Form.{out-Form}
use Rattle.pp_tree.specs.declared.param.Param.{Param}
use Rattle.pp_tree.specs.Building.{form_of, param}
use Rattle.pp_grammar.specs.Names.{is_simple}
use Rattle.pp_grammar.proofs.Reader.Input.{Parser, pure, refuse}
use Rattle.pp_tree.specs.Layers.{FormLayer}

abbrev pub param_by_form : ℕ → FormLayer → Parser (Param Expr)
param_by_form at (Form-F.Variable name) = if is_simple name then pure (param None name None at) else refuse
param_by_form at (Form-F.Assign name default) = pure (param None name (Some default) at)
param_by_form at _ = refuse

-- `$name` or `$name = default`
unfoldable pub param_from : ℕ → Expr → Parser (Param Expr)
param_from at x = param_by_form at (out-Form (form_of x))
