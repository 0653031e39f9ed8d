-- `if`, `unless` and `case`. A block that stands too deep is refused where the whole expression begins.
use Rattle.std.specs.Prelude.{ℕ, Bool, true, false, if◌then◌else◌, Option, None, Some, find, List, [], ◌∷◌}
use Rattle.std.specs.List.{list_any}
use Rattle.expr_eval.specs.Spreading.{spliced}
use Rattle.expr_eval.specs.Testing.{option_takes}
use Rattle.pp_tree.specs.declared.conditions.Case.{Case, out-Case}
use Rattle.pp_tree.specs.declared.conditions.CaseOption.{CaseOption, out-CaseOption}
use Rattle.pp_tree.specs.declared.conditions.Elsif.{Elsif, out-Elsif}
use Rattle.pp_tree.specs.declared.conditions.If.{If, out-If}
use Rattle.pp_tree.specs.declared.conditions.Unless.{Unless, out-Unless}
use Rattle.pp_tree.specs.declared.expr.Expr.{Expr}
use Rattle.pp_tree.specs.declared.statement.Statement.{Statement}
use Rattle.pp_values.specs.Datum.{Datum, undef}
use Rattle.eval_world.specs.Inner.{Inner}
use Rattle.eval_world.specs.Outcomes.{Step, ◌>>=◌, pure}
use Rattle.eval_world.specs.Shapes.{is_default, is_splat}
use Rattle.eval_world.specs.declared.here.Here.{Here}
use Rattle.eval_forms.specs.Operators.{truth_rule}

-- ---- `if` and `unless`

-- the block of `else`, or Undef
unfoldable pub otherwise_rule : Inner → Option (List Statement) → ℕ → Here → Step Datum
otherwise_rule inner None line here = pure undef
otherwise_rule inner (Some block) line here = inner.block block line here

-- `elsif $b { } else { }`
unfoldable pub elsifs_from : Inner → List Elsif → Option (List Statement) → ℕ → Here → Step Datum
elsifs_from inner [] otherwise line here = otherwise_rule inner otherwise line here
elsifs_from inner (e ∷ es) otherwise line here = do
  truth ← truth_rule inner (out-Elsif e).condition here
  if truth then inner.block (out-Elsif e).block line here else elsifs_from inner es otherwise line here

-- `if $a { } elsif $b { } else { }`
unfoldable pub if_rule : Inner → If → ℕ → Here → Step Datum
if_rule inner c line here = do
  truth ← truth_rule inner (out-If c).condition here
  if truth then inner.block (out-If c).block line here
      else elsifs_from inner (out-If c).elsifs (out-If c).otherwise line here

-- `unless $a { } else { }`
unfoldable pub unless_rule : Inner → Unless → ℕ → Here → Step Datum
unless_rule inner c line here = do
  truth ← truth_rule inner (out-Unless c).condition here
  if truth then otherwise_rule inner (out-Unless c).otherwise line here else inner.block (out-Unless c).block line here

-- ---- `case`

-- a value of an option takes the control value; where it is written with `*`, one of its members does
abbrev pub value_takes : Bool → Datum → Datum → Bool
value_takes true option control = list_any (λ d. option_takes d control) (spliced option)
value_takes false option control = option_takes option control

unfoldable pub takes_rule : Inner → Datum → Expr → Here → Step Bool
takes_rule inner control e here = if is_default e then pure false else (do
  option ← inner.value e here
  pure (value_takes (is_splat e) option control))

-- some value of an option does; those behind it are not evaluated
unfoldable pub any_takes : Inner → Datum → List Expr → Here → Step Bool
any_takes inner control [] here = pure false
any_takes inner control (e ∷ es) here = do
  takes ← takes_rule inner control e here
  if takes then pure true else any_takes inner control es here

-- the option for what no option takes: the word `default` stands in it, wherever it stands; of several the first
unfoldable pub default_option : List CaseOption → Option CaseOption
default_option = find (λ o. list_any is_default (out-CaseOption o).values)

unfoldable pub default_rule : Inner → Option CaseOption → ℕ → Here → Step Datum
default_rule inner None line here = pure undef
default_rule inner (Some o) line here = inner.block (out-CaseOption o).block line here

unfoldable pub options_from : Inner → Datum → Option CaseOption → List CaseOption → ℕ → Here → Step Datum
options_from inner control default [] line here = default_rule inner default line here
options_from inner control default (o ∷ os) line here = do
  takes ← any_takes inner control (out-CaseOption o).values here
  if takes then inner.block (out-CaseOption o).block line here else options_from inner control default os line here

-- `case $a { 1, 2: { } default: { } }`
unfoldable pub case_rule : Inner → Case → ℕ → Here → Step Datum
case_rule inner c line here = do
  control ← inner.value (out-Case c).control here
  options_from inner control (default_option (out-Case c).options) (out-Case c).options line here
