-- The functions that take a lambda, by name. The table is the code's; `proofs/Tables.antt` shows it whole.
use Rattle.std.specs.Prelude.{ℕ, if◌then◌else◌, Option, None, Some, List, [], ◌∷◌, map, codes}
use Rattle.std.specs.Str.{bytes_eq}
use Rattle.expr_eval.specs.declared.functions.Iteration.{Iteration}
use Rattle.expr_eval.specs.declared.functions.Iteration.TheVariants as iteration
use Rattle.expr_eval.specs.declared.functions.LambdaFunction.{LambdaFunction}
use Rattle.expr_eval.specs.declared.functions.TheConstants.{LAMBDA_FUNCTIONS}

-- the function that the table lists under the name, letter by letter
abbrev pub function_named : List (List ℕ × LambdaFunction) → List ℕ → Option LambdaFunction
function_named [] name = None
function_named (f ∷ fs) name = if bytes_eq name f.0 then Some f.1 else function_named fs name

-- a function that takes a lambda
unfoldable pub lambda_function : List ℕ → Option LambdaFunction
lambda_function = function_named (map (λ f. (f.0.now, f.1)) LAMBDA_FUNCTIONS)

-- as faults name it
abbrev pub name : Iteration → List ℕ
name iteration.Each = codes "each"
name iteration.Map = codes "map"
name iteration.Filter = codes "filter"
name iteration.Any = codes "any"
name iteration.All = codes "all"
