-- Override lines.
use Rattle.std.specs.Prelude.{ℕ, Bool, List, map, filter}
use Rattle.pp_values.specs.Datum.{Datum}
use Rattle.pp_values.specs.References.{same_reference}
use Rattle.pp_values.specs.Views.{view}
use Rattle.pp_values.specs.declared.place.Place.{Place}
use Rattle.pp_values.specs.declared.reference.Reference.{Reference}
use Rattle.override_rules.specs.declared.override_line.OverrideLine.{OverrideLine}
use Rattle.override_rules.specs.declared.override_line.Right.{Right}

-- a line, with what its value says
pub record Line : Type 0 where
  pub target : Reference
  pub name : List ℕ
  pub append : Bool
  pub value : Datum
  pub at : Place
  pub right : Right

abbrev pub line_of : OverrideLine → Line
line_of l =
    record { target = l.target; name = l.name; append = l.append; value = view l.value; at = l.at; right = l.right }

abbrev pub lines_of : List OverrideLine → List Line
lines_of = map line_of

-- the line is on this resource
abbrev pub is_on : Reference → Line → Bool
is_on r l = same_reference r l.target

-- the lines on this resource, in their order
abbrev pub lines_on : Reference → List Line → List Line
lines_on r = filter (is_on r)
