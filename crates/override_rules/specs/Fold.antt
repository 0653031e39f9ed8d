-- What a declaration and the override lines on it make of an attribute.
use Rattle.std.specs.Prelude.{ℕ, if◌then◌else◌, List, [], ◌∷◌, Option}
use Rattle.std.specs.Str.{bytes_eq}
use Rattle.pp_values.specs.Datum.{Datum}
use Rattle.res_book.specs.Rows.{reference_of}
use Rattle.res_core.specs.AttributeViews.{set_in}
use Rattle.res_core.specs.declared.declared.Declared.{Declared}
use Rattle.override_rules.specs.Changes.{changed, set_by}
use Rattle.override_rules.specs.Lines.{Line, lines_on}

-- what a declaration sets: an attribute that it has as Undef is not set
abbrev pub declared : Declared → List ℕ → Option Datum
declared d name = set_by (set_in d.item.attributes name)

-- a line changes the attribute that it names
abbrev pub after_line : List ℕ → Line → Option Datum → Option Datum
after_line name l v = if bytes_eq l.name name then changed l.append l.value v else v

-- one line after another
unfoldable pub after_lines : List ℕ → List Line → Option Datum → Option Datum
after_lines name [] v = v
after_lines name (l ∷ ls) v = after_lines name ls (after_line name l v)

-- the declaration, then the lines on it in their order
abbrev pub overridden : List Line → Declared → List ℕ → Option Datum
overridden ls d name = after_lines name (lines_on (reference_of d) ls) (declared d name)
