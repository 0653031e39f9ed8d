-- The table of the code that definitions cite, shown whole: a name more, or another one, is refused here.
use Rattle.std.proofs.Common.{◌≡◌, ℕ, List, [], ◌∷◌, map, codes, refl}
use Rattle.expr_eval.specs.declared.functions.Iteration.TheVariants as iteration
use Rattle.expr_eval.specs.declared.functions.LambdaFunction.{LambdaFunction}
use Rattle.expr_eval.specs.declared.functions.LambdaFunction.TheVariants as f
use Rattle.expr_eval.specs.declared.functions.TheConstants.{LAMBDA_FUNCTIONS}

abbrev all_functions : List (List ℕ × LambdaFunction)
all_functions =
    (codes "each", f.Iterate iteration.Each) ∷ (codes "map", f.Iterate iteration.Map) ∷
    (codes "filter", f.Iterate iteration.Filter) ∷ (codes "reduce", f.Reduce) ∷
    (codes "any", f.Iterate iteration.Any) ∷ (codes "all", f.Iterate iteration.All) ∷ (codes "with", f.With) ∷ []

functions_are : map (λ f. (f.0.now, f.1)) LAMBDA_FUNCTIONS ≡ all_functions
functions_are = refl
