-- What the lines within braces say.
use Rattle.std.specs.Prelude.{ℕ, Bool, List, map, refl}
use Rattle.std.specs.Coded.{Coded, code_by, coded×, coded_bool, coded_list}
use Rattle.pp_values.specs.Codes.{coded_datum, coded_text}
use Rattle.pp_values.specs.Datum.{Datum}
use Rattle.pp_values.specs.Views.{view}
use Rattle.pp_values.specs.declared.place.Place.{Place}
use Rattle.res_core.specs.ExportedCodes.{coded_place}
use Rattle.res_core.specs.declared.line.Line as written

-- a name, `=>` or `+>`, and what the value says
pub record Line : Type 0 where
  pub name : List ℕ
  pub append : Bool
  pub value : Datum
  pub at : Place

abbrev pub line_of : written.Line → Line
line_of l = record { name = l.name; append = l.append; value = view l.value; at = l.at }

abbrev pub lines_of : List written.Line → List Line
lines_of = map line_of

-- the codes by which a proof tells lines apart
abbrev pub coded_line : Coded Line
coded_line =
    code_by ((List ℕ × Bool) × (Datum × Place)) (coded× (coded× coded_text coded_bool) (coded× coded_datum coded_place))
    (λ l. ((l.name, l.append), (l.value, l.at)))
    (λ p. record { name = p.0.0; append = p.0.1; value = p.1.0; at = p.1.1 }) (λ _. refl)

abbrev pub coded_lines : Coded (List Line)
coded_lines = coded_list coded_line
