-- Names of parameters and of nodes.
use Rattle.std.specs.Prelude.{ℕ, Bool, true, ◌&&◌, not, if◌then◌else◌, ◌==◌, List, [], ◌∷◌, Option, Some, None, codes}
use Rattle.std.specs.Str.{bytes_eq}

-- A parameter's name has one segment and no leading `::`, so no colon.
unfoldable pub is_simple : List ℕ → Bool
is_simple [] = true
is_simple (b ∷ bs) = not (b == 58) && is_simple bs

-- `default` as a text is the word `default`
abbrev pub node_name : List ℕ → Option (List ℕ)
node_name text = if bytes_eq text (codes "default") then None else Some text
