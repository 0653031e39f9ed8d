-- The codes by which a proof tells exported resources apart.
use Rattle.std.specs.Prelude.{ℕ, List, refl}
use Rattle.std.specs.Coded.{Coded, code_by, coded×, coded_ℕ}
use Rattle.pp_values.specs.Codes.{coded_text}
use Rattle.pp_values.specs.declared.place.Place.{Place}
use Rattle.res_core.specs.ResourceCodes.{coded_resource}
use Rattle.res_core.specs.declared.exported.Exported.{Exported}
use Rattle.res_core.specs.declared.resource.Resource.{Resource}

abbrev pub coded_place : Coded Place
coded_place =
    code_by (List ℕ × ℕ) (coded× coded_text coded_ℕ) (λ p. (p.file, p.line)) (λ p. record { file = p.0; line = p.1 })
    (λ _. refl)

abbrev pub coded_exported : Coded Exported
coded_exported =
    code_by (Place × Resource) (coded× coded_place coded_resource) (λ e. (e.node_place, e.item))
    (λ p. record { node_place = p.0; item = p.1 }) (λ _. refl)
