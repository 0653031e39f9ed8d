-- The codes by which a proof tells lines, scopes and defaults apart.
use Rattle.std.specs.Prelude.{ℕ, Bool, List, refl}
use Rattle.std.specs.Coded.{Coded, code_by, coded×, coded_ℕ, coded_bool, coded_list, coded_option}
use Rattle.pp_values.specs.Codes.{coded_text, coded_datum, coded_reference}
use Rattle.pp_values.specs.Datum.{Datum}
use Rattle.pp_values.specs.declared.place.Place.{Place}
use Rattle.pp_values.specs.declared.reference.Reference.{Reference}
use Rattle.res_core.specs.ExportedCodes.{coded_place}
use Rattle.override_rules.specs.contracts.override_line.Right as right
use Rattle.override_rules.specs.declared.override_line.Right.{Right}
use Rattle.override_rules.specs.Defaults.{Default, Scope}
use Rattle.override_rules.specs.Lines.{Line}
use Rattle.override_rules.specs.Meaning.{State}
use Rattle.override_rules.specs.declared.default_key.DefaultKey.{DefaultKey}

abbrev pub coded_line : Coded Line
coded_line =
    code_by ((Reference × List ℕ) × ((Bool × Datum) × (Place × Right)))
    (coded× (coded× coded_reference coded_text)
    (coded× (coded× coded_bool coded_datum) (coded× coded_place right.the_row.coded)))
    (λ l. ((l.target, l.name), ((l.append, l.value), (l.at, l.right))))
    (λ p. record { target = p.0.0; name = p.0.1; append = p.1.0.0; value = p.1.0.1; at = p.1.1.0; right = p.1.1.1 })
    (λ _. refl)

abbrev pub coded_scopes : Coded (List Scope)
coded_scopes = coded_list (coded× coded_ℕ (coded_option coded_ℕ))

abbrev pub coded_key : Coded DefaultKey
coded_key =
    code_by (List ℕ × (ℕ × List ℕ)) (coded× coded_text (coded× coded_ℕ coded_text)) (λ k. (k.kind, (k.scope, k.name)))
    (λ p. record { kind = p.0; scope = p.1.0; name = p.1.1 }) (λ _. refl)

abbrev pub coded_defaults : Coded (List Default)
coded_defaults = coded_list (coded× coded_key coded_datum)

abbrev pub coded_state : Coded State
coded_state =
    code_by (List Line × (List Scope × List Default))
    (coded× (coded_list coded_line) (coded× coded_scopes coded_defaults))
    (λ s. (s.lines, (s.scopes, s.defaults)))
    (λ p. record { lines = p.0; scopes = p.1.0; defaults = p.1.1 }) (λ _. refl)
