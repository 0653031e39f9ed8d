-- The functions that take a lambda.
use Rattle.std.specs.Prelude.{ℕ, if◌then◌else◌, Option, None, Some, option_map, List, [], ◌∷◌, ◌++◌}
use Rattle.pp_values.specs.Datum.{Datum, undef, list, members_of}
use Rattle.expr_eval.specs.declared.functions.Iteration.{Iteration}
use Rattle.expr_eval.specs.declared.functions.LambdaFunction.{LambdaFunction}
use Rattle.expr_eval.specs.declared.functions.LambdaFunction.TheVariants as function
use Rattle.expr_eval.specs.Gathering.{decides, gathered}
use Rattle.expr_eval.specs.Names.{name}
use Rattle.expr_eval.specs.Turns.{Turn, turns_of, reduced_over, turn_of_with}
use Rattle.eval_world.specs.Inner.{Inner}
use Rattle.eval_world.specs.Outcomes.{Step, ◌>>=◌, pure}
use Rattle.eval_world.specs.Worlds.{answered_at, wrong}
use Rattle.eval_world.specs.declared.here.Here.{Here}
use Rattle.eval_calls.specs.Lambdas.{Opened, lambda_rule, param_count}

-- ---- `each`, `map`, `filter`, `any`, `all`

-- what the lambda gives in each turn, behind what it gave before, up to the turn that decides
unfoldable pub turns_from : Inner → Iteration → Opened → List Datum → List Turn → ℕ → Here → Step (List Datum)
turns_from inner f l done [] line here = pure done
turns_from inner f l done (t ∷ ts) line here = do
  d ← lambda_rule inner l t line here
  if decides f d then pure (done ++ d ∷ []) else turns_from inner f l (done ++ d ∷ []) ts line here

-- what the function makes of what its lambda gives in these turns
unfoldable pub gathered_rule : Inner → Iteration → Opened → Datum → List Turn → ℕ → Here → Step Datum
gathered_rule inner f l d ts line here = do
  ds ← turns_from inner f l [] ts line here
  pure (gathered f d ds)

unfoldable pub over_rule : Inner → Iteration → Opened → Datum → ℕ → Here → Step Datum
over_rule inner f l d line here = do
  ts ← answered_at (turns_of f d (param_count l)) line here
  ds ← turns_from inner f l [] ts line here
  pure (gathered f d ds)

abbrev pub refused : Iteration → ℕ → Here → Step Datum
refused f line here = wrong (name f) line here

-- they take one argument
unfoldable pub iterate_rule : Inner → Iteration → Opened → List Datum → ℕ → Here → Step Datum
iterate_rule inner f l [] line here = refused f line here
iterate_rule inner f l (d ∷ []) line here = over_rule inner f l d line here
iterate_rule inner f l (d ∷ e ∷ ds) line here = refused f line here

-- ---- `reduce`

-- each member in order, with the memo that the turn before it gave
unfoldable pub reduce_from : Inner → Opened → Datum → List Datum → ℕ → Here → Step Datum
reduce_from inner l memo [] line here = pure memo
reduce_from inner l memo (d ∷ ds) line here = do
  next ← lambda_rule inner l (memo ∷ d ∷ []) line here
  reduce_from inner l next ds line here

-- the first is the first memo; where there is none, the value is Undef
unfoldable pub reduced : Inner → Opened → List Datum → ℕ → Here → Step Datum
reduced inner l [] line here = pure undef
reduced inner l (d ∷ ds) line here = reduce_from inner l d ds line here

unfoldable pub reduce_rule : Inner → Opened → List Datum → ℕ → Here → Step Datum
reduce_rule inner l arguments line here = do
  ds ← answered_at (reduced_over arguments (param_count l)) line here
  reduced inner l ds line here

-- the members of a list
abbrev pub list_members : Datum → Option (List Datum)
list_members (list ds) = Some (members_of ds)
list_members d = None

-- those of a list that is the only argument
abbrev pub list_alone : List Datum → Option (List Datum)
list_alone (d ∷ []) = list_members d
list_alone ds = None

-- those of a list, and the start value behind it
abbrev pub list_and_start : List Datum → Option (List Datum × Datum)
list_and_start (d ∷ start ∷ []) = option_map (λ ds. (ds, start)) (list_members d)
list_and_start ds = None

-- ---- `with`

unfoldable pub with_rule : Inner → Opened → List Datum → ℕ → Here → Step Datum
with_rule inner l arguments line here = do
  t ← answered_at (turn_of_with arguments (param_count l)) line here
  lambda_rule inner l t line here

-- ---- all of them

unfoldable pub lambda_function_rule : Inner → LambdaFunction → Opened → List Datum → ℕ → Here → Step Datum
lambda_function_rule inner (function.Iterate f) l arguments line here = iterate_rule inner f l arguments line here
lambda_function_rule inner function.Reduce l arguments line here = reduce_rule inner l arguments line here
lambda_function_rule inner function.With l arguments line here = with_rule inner l arguments line here
