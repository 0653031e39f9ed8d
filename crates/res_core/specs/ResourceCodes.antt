-- The codes by which a proof tells resources apart.
use Rattle.std.specs.Prelude.{ℕ, List, refl}
use Rattle.std.specs.Coded.{Coded, code_by, coded×, coded_list}
use Rattle.pp_values.specs.Codes.{coded_text}
use Rattle.pp_values.specs.Settings.{Setting, coded_settings}
use Rattle.res_core.specs.declared.resource.Resource.{Resource}

abbrev pub coded_texts : Coded (List (List ℕ))
coded_texts = coded_list coded_text

abbrev pub coded_resource : Coded Resource
coded_resource =
    code_by ((List ℕ × List ℕ) × (List Setting × List (List ℕ)))
    (coded× (coded× coded_text coded_text) (coded× coded_settings coded_texts))
    (λ r. ((r.kind, r.title), (r.attributes, r.tags)))
    (λ p. record { kind = p.0.0; title = p.0.1; attributes = p.1.0; tags = p.1.1 }) (λ _. refl)
