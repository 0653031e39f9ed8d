-- Which functions there are.
use Rattle.std.specs.Prelude.{ℕ, Bool, ◌||◌, List, is_some, codes}
use Rattle.std.specs.Str.{bytes_eq}
use Rattle.pp_funcs.specs.Names.{function_of, needs_evaluator}

-- a function that writes a line of the log, of the level that is its name
abbrev pub is_log : List ℕ → Bool
is_log f = bytes_eq f (codes "debug") || bytes_eq f (codes "info") || bytes_eq f (codes "notice")
    || bytes_eq f (codes "warning") || bytes_eq f (codes "err")

-- a function of its arguments alone
abbrev pub is_computed : List ℕ → Bool
is_computed f = is_some (function_of f)

-- a function of any kind that each site has
abbrev pub is_function : List ℕ → Bool
is_function f = needs_evaluator f || is_computed f
