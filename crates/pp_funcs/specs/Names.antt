-- The names of the functions. The tables are the code's; `proofs/Tables.antt` shows each whole.
use Rattle.std.specs.Prelude.{ℕ, Bool, if◌then◌else◌, Option, None, Some, List, [], ◌∷◌, map}
use Rattle.std.specs.List.{list_any}
use Rattle.std.specs.Str.{bytes_eq}
use Rattle.pp_funcs.specs.declared.function.Function.{Function}
use Rattle.pp_funcs.specs.declared.function.TheConstants.{FUNCTIONS}
use Rattle.pp_funcs.specs.declared.evaluated.TheConstants.{EVALUATED}

-- the function that the table lists under the name, letter by letter
abbrev pub function_named : List (List ℕ × Function) → List ℕ → Option Function
function_named [] name = None
function_named (f ∷ fs) name = if bytes_eq name f.0 then Some f.1 else function_named fs name

-- a function that needs neither site, log nor lambda
unfoldable pub function_of : List ℕ → Option Function
function_of = function_named (map (λ f. (f.0.now, f.1)) FUNCTIONS)

abbrev pub is_listed : List (List ℕ) → List ℕ → Bool
is_listed names name = list_any (bytes_eq name) names

-- a function that needs the site, the log, a template or a lambda
unfoldable pub needs_evaluator : List ℕ → Bool
needs_evaluator = is_listed (map (λ n. n.now) EVALUATED)
