-- Whether an attribute is set after lines, without its value.
use Rattle.std.specs.Prelude.{ℕ, Bool, true, false, ◌&&◌, if◌then◌else◌, List, [], ◌∷◌}
use Rattle.std.specs.Str.{bytes_eq}
use Rattle.pp_values.specs.Datum.{Datum, undef}
use Rattle.override_rules.specs.Lines.{Line}

abbrev pub is_value : Datum → Bool
is_value undef = false
is_value d = true

abbrev pub set_after : List ℕ → Line → Bool → Bool
set_after name l set = if bytes_eq l.name name then (if l.append && set then true else is_value l.value) else set

unfoldable pub set_after_lines : List ℕ → List Line → Bool → Bool
set_after_lines name [] set = set
set_after_lines name (l ∷ ls) set = set_after_lines name ls (set_after name l set)
