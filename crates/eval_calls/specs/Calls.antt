-- Calls: `f(1, $a) |$x| { }`, `$a.f(1)` and `notice $a`.
use Rattle.std.specs.Prelude.{ℕ, if◌then◌else◌, List, [], ◌∷◌, Option, None, Some, option_map, codes}
use Rattle.std.specs.Str.{bytes_eq}
use Rattle.pp_funcs.specs.Functions.{applied}
use Rattle.pp_funcs.specs.Names.{needs_evaluator}
use Rattle.pp_tree.specs.Names.{without_front_colons}
use Rattle.pp_tree.specs.declared.expr.Call.{Call, out-Call}
use Rattle.pp_tree.specs.declared.expr.Expr.{Expr}
use Rattle.pp_tree.specs.declared.statement.Words.{Words}
use Rattle.pp_values.specs.Datum.{Datum, undef}
use Rattle.expr_eval.specs.Names.{lambda_function}
use Rattle.pp_funcs.specs.Texts.{joined}
use Rattle.expr_eval.specs.declared.functions.LambdaFunction.{LambdaFunction}
use Rattle.eval_classes.specs.Included.{included, including_of}
use Rattle.eval_classes.specs.declared.including.Including.{Including}
use Rattle.eval_world.specs.Arguments.{values_from}
use Rattle.eval_world.specs.Inner.{Inner}
use Rattle.eval_world.specs.Outcomes.{Step, ◌>>=◌, ◌>>◌, pure}
use Rattle.eval_world.specs.Worlds.{answered_at, write_log, wrong}
use Rattle.eval_world.specs.declared.here.Here.{Here}
use Rattle.eval_calls.specs.Functions.{defined_rule, lambda_refused}
use Rattle.eval_calls.specs.Iterating.{lambda_function_rule}
use Rattle.eval_calls.specs.Lambdas.{Opened, opened}
use Rattle.eval_calls.specs.LookUps.{lookup_rule}
use Rattle.eval_calls.specs.Names.{is_computed, is_function, is_log}
use Rattle.eval_calls.specs.Realizing.{realized}
use Rattle.eval_calls.specs.Templating.{epp_rule, inline_rule}

-- ---- without a lambda, once the arguments have their values

-- a line of the log, with the function's name as its level
unfoldable pub log_rule : List ℕ → List Datum → Step Datum
log_rule f arguments = do
  write_log f (joined arguments)
  pure undef

-- what is left behind `lookup` is `realize`
unfoldable pub data_rule : List ℕ → List Datum → ℕ → Here → Step Datum
data_rule f arguments line here =
    if bytes_eq f (codes "lookup") then lookup_rule f arguments line here else realized f arguments line here

-- templates are rendered, or what stands behind them
unfoldable pub template_or_data : Inner → List ℕ → List Datum → ℕ → Here → Step Datum
template_or_data inner f arguments line here =
    if bytes_eq f (codes "epp") then epp_rule inner f arguments line here
    else (if bytes_eq f (codes "inline_epp") then inline_rule inner f arguments line here
    else data_rule f arguments line here)

-- classes are declared, templates rendered, data looked up, or collectors registered
abbrev pub site_by : Inner → Option Including → List ℕ → List Datum → ℕ → Here → Step Datum
site_by inner (Some i) f arguments line here = included inner i f arguments line here
site_by inner None f arguments line here = template_or_data inner f arguments line here

-- a function that needs the site
unfoldable pub site_rule : Inner → List ℕ → List Datum → ℕ → Here → Step Datum
site_rule inner f arguments line here = site_by inner (including_of f) f arguments line here

-- a function that takes a lambda does not take its arguments without one
abbrev pub without_lambda_by : Inner → Option LambdaFunction → List ℕ → List Datum → ℕ → Here → Step Datum
without_lambda_by inner (Some g) f arguments line here = wrong f line here
without_lambda_by inner None f arguments line here = site_rule inner f arguments line here

-- a function that needs the log, a lambda, a template or the site
unfoldable pub evaluated_rule : Inner → List ℕ → List Datum → ℕ → Here → Step Datum
evaluated_rule inner f arguments line here =
    if is_log f then log_rule f arguments
    else without_lambda_by inner (lambda_function f) f arguments line here

-- a function of its arguments alone, or else one that the site defines
unfoldable pub other_rule : Inner → List ℕ → List Datum → ℕ → Here → Step Datum
other_rule inner f arguments line here =
    if is_computed f then answered_at (applied f arguments) line here
    else defined_rule inner f arguments line here

-- A name that is listed is that function, whatever the site defines.
unfoldable pub plain_rule : Inner → List ℕ → List Datum → ℕ → Here → Step Datum
plain_rule inner f arguments line here =
    if needs_evaluator f then evaluated_rule inner f arguments line here
    else other_rule inner f arguments line here

-- ---- with a lambda

-- a function that takes none, or no function at all
unfoldable pub stray_lambda_rule : List ℕ → ℕ → Here → Step Datum
stray_lambda_rule f line here = if is_function f then wrong f line here else lambda_refused f line here

abbrev pub with_lambda_by : Inner → Option LambdaFunction → List ℕ → Opened → List Datum → ℕ → Here → Step Datum
with_lambda_by inner (Some g) f l arguments line here = lambda_function_rule inner g l arguments line here
with_lambda_by inner None f l arguments line here = stray_lambda_rule f line here

unfoldable pub with_lambda_rule : Inner → List ℕ → Opened → List Datum → ℕ → Here → Step Datum
with_lambda_rule inner f l arguments line here = with_lambda_by inner (lambda_function f) f l arguments line here

-- ---- calls

-- the function of these arguments, and the lambda where there is one
abbrev pub called : Inner → List ℕ → Option Opened → List Datum → ℕ → Here → Step Datum
called inner f None arguments line here = plain_rule inner f arguments line here
called inner f (Some l) arguments line here = with_lambda_rule inner f l arguments line here

-- the same with the lambda of a call as it stands in the tree
abbrev pub called_as : Inner → List ℕ → Call → List Datum → ℕ → Here → Step Datum
called_as inner f c arguments line here =
    called inner f (option_map opened (out-Call c).lambda) arguments line here

-- the arguments come first, from left to right; whether there is such a function is asked after that
unfoldable pub invoked : Inner → List ℕ → List Expr → Option Opened → ℕ → Here → Step Datum
invoked inner f args l line here = do
  arguments ← values_from inner [] args here
  called inner f l arguments line here

-- the same with the arguments and the lambda of a call as it stands in the tree
abbrev pub invoked_as : Inner → List ℕ → Call → ℕ → Here → Step Datum
invoked_as inner f c line here =
    invoked inner f (out-Call c).args (option_map opened (out-Call c).lambda) line here

-- a leading `::` of the function's name is dropped, also where a fault names the function
unfoldable pub call_rule : Inner → Call → ℕ → Here → Step Datum
call_rule inner c line here = invoked_as inner (without_front_colons (out-Call c).function) c line here

-- `x.f(y)` is `f(x, y)`: the value that is there already is the first argument
unfoldable pub invoked_on : Inner → Datum → List ℕ → List Expr → Option Opened → ℕ → Here → Step Datum
invoked_on inner receiver f args l line here = do
  arguments ← values_from inner [] args here
  called inner f l (receiver ∷ arguments) line here

abbrev pub invoked_on_as : Inner → Datum → List ℕ → Call → ℕ → Here → Step Datum
invoked_on_as inner receiver f c line here =
    invoked_on inner receiver f (out-Call c).args (option_map opened (out-Call c).lambda) line here

unfoldable pub method_rule : Inner → Datum → Call → ℕ → Here → Step Datum
method_rule inner receiver c line here =
    invoked_on_as inner receiver (without_front_colons (out-Call c).function) c line here

-- a call without parentheses, which has no lambda
unfoldable pub words_rule : Inner → Words Expr → Here → Step Datum
words_rule inner x here = invoked inner x.function x.args None x.at here
