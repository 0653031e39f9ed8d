-- Lines that pass all tests whatever resource they are for.
use Rattle.std.specs.Prelude.{◌≡◌, ℕ, Bool, true, false, not, ◌&&◌, ◌||◌, List, [], ◌∷◌, Ok}
use Rattle.std.specs.Str.{bytes_eq}
use Rattle.res_core.specs.AttributeChecks.{is_known}
use Rattle.pp_values.specs.declared.reference.Reference.{Reference}
use Rattle.eval_resources.specs.Checks.{lines_checked}
use Rattle.res_core.specs.Lines.{Line}

-- all have names that such a resource takes
unfoldable pub are_known : List (List ℕ) → List Line → Bool
are_known known [] = true
are_known known (l ∷ ls) = is_known known l.name && are_known known ls

-- one of them has this name
unfoldable pub is_named : List Line → List ℕ → Bool
is_named [] name = false
is_named (l ∷ ls) name = bytes_eq l.name name || is_named ls name

-- no two have the same name
unfoldable pub are_apart : List Line → Bool
are_apart [] = true
are_apart (l ∷ ls) = not (is_named ls l.name) && are_apart ls

-- a resource takes these lines, whichever it is
abbrev pub AreTaken : List (List ℕ) → List Line → Type 0
AreTaken known ls = (r : Reference) → lines_checked r known ls ≡ Ok tt
