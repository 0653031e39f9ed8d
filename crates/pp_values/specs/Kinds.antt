-- The names of kinds of resource.
use Rattle.std.specs.Prelude.{ℕ, ◌==◌, Bool, false, not, ◌&&◌, if◌then◌else◌, Option, None, Some, List, [], ◌∷◌}
use Rattle.std.specs.Char.{is_ascii_uppercase}
use Rattle.std.specs.List.{list_all}

-- no capital of ASCII, and no `[`
abbrev pub is_kind_byte : ℕ → Bool
is_kind_byte b = not (is_ascii_uppercase b) && not (b == 91)

-- a text in lower case without `[`, and not empty
abbrev pub is_kind : List ℕ → Bool
is_kind [] = false
is_kind (b ∷ bs) = list_all is_kind_byte (b ∷ bs)

-- the text as a kind, where it is one
abbrev pub kind_of : List ℕ → Option (List ℕ)
kind_of t = if is_kind t then Some t else None
