-- Which texts are the names of variables.
use Rattle.std.specs.Prelude.{ℕ, ◌==◌, Bool, false, ◌&&◌, ◌||◌, [], ◌∷◌}
use Rattle.std.specs.Char.{is_ascii_lowercase, is_ascii_alphanumeric}
use Rattle.std.specs.List.{list_all}
use Rattle.scope_core.specs.Names.{Name}

abbrev pub begins_variable : ℕ → Bool
begins_variable b = is_ascii_lowercase b || (b == 95)

abbrev pub goes_on : ℕ → Bool
goes_on b = is_ascii_alphanumeric b || (b == 95)

-- a variable's name of one segment
abbrev pub is_variable : Name → Bool
is_variable [] = false
is_variable (b ∷ bs) = begins_variable b && list_all goes_on bs
