-- The code by which a proof tells names apart.
use Rattle.std.specs.Prelude.{ℕ, List, refl}
use Rattle.std.specs.Coded.{Coded, code_by, coded×, coded_list}
use Rattle.pp_values.specs.Codes.{coded_text, coded_datum}
use Rattle.pp_values.specs.Datum.{Datum}
use Rattle.catalog_finish.specs.Naming.{Called}

abbrev pub coded_called : Coded Called
coded_called =
    code_by ((List ℕ × List ℕ) × (Datum × Datum))
    (coded× (coded× coded_text coded_text) (coded× coded_datum coded_datum))
    (λ c. ((c.kind, c.title), (c.name, c.provider)))
    (λ p. record { kind = p.0.0; title = p.0.1; name = p.1.0; provider = p.1.1 }) (λ _. refl)

abbrev pub coded_names : Coded (List Called)
coded_names = coded_list coded_called
