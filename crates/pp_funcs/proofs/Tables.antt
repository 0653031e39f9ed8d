-- The tables of the code that definitions cite, each shown whole: a name more, or another one, is refused here.
use Rattle.std.proofs.Common.{◌≡◌, ℕ, List, [], ◌∷◌, map, codes, refl}
use Rattle.pp_funcs.specs.declared.function.Function.{Function}
use Rattle.pp_funcs.specs.declared.function.Function.TheVariants as f
use Rattle.pp_funcs.specs.declared.function.TheConstants.{FUNCTIONS}
use Rattle.pp_funcs.specs.declared.evaluated.TheConstants.{EVALUATED}

abbrev all_functions : List (List ℕ × Function)
all_functions =
    (codes "fail", f.Fail) ∷ (codes "length", f.Length) ∷ (codes "size", f.Size) ∷ (codes "empty", f.Empty) ∷
    (codes "keys", f.Keys) ∷ (codes "values", f.Values) ∷ (codes "join", f.Join) ∷ (codes "flatten", f.Flatten) ∷
    (codes "unique", f.Unique) ∷ (codes "upcase", f.Upcase) ∷ (codes "downcase", f.Downcase) ∷
    (codes "strip", f.Strip) ∷ (codes "dig", f.Dig) ∷ (codes "min", f.Min) ∷ (codes "max", f.Max) ∷
    (codes "abs", f.Abs) ∷ []

functions_are : map (λ f. (f.0.now, f.1)) FUNCTIONS ≡ all_functions
functions_are = refl

-- those that need the site, a template, the log, and a lambda
abbrev all_evaluated : List (List ℕ)
all_evaluated =
    codes "include" ∷ codes "contain" ∷ codes "require" ∷ codes "realize" ∷ codes "lookup" ∷ codes "epp" ∷
    codes "inline_epp" ∷ codes "debug" ∷ codes "info" ∷ codes "notice" ∷ codes "warning" ∷ codes "err" ∷
    codes "each" ∷ codes "map" ∷ codes "filter" ∷ codes "reduce" ∷ codes "any" ∷ codes "all" ∷ codes "with" ∷ []

evaluated_are : map (λ n. n.now) EVALUATED ≡ all_evaluated
evaluated_are = refl
