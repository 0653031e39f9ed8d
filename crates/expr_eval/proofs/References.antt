-- No value is of the type of a reference's kind and title.
use Rattle.std.proofs.Common.{◌≡◌, ℕ, true, false, cond, Option, List, codes, refl}
use Rattle.std.specs.Str.{bytes_eq}
use Rattle.pp_values.specs.declared.reference.Reference.{Reference}
use Rattle.pp_values.specs.Datum.{Datum}
use Rattle.pp_values.specs.Sort as n
use Rattle.pp_values.specs.Sort.{of, none, text}
use Rattle.pp_types.specs.Accepts.{accepts, type_accepts}
use Rattle.pp_types.specs.Arguments.{reference_type}
use Rattle.pp_types.specs.Forms.{class, kind_of_resource, kind_form, given_title}

no_value_of_kind : (k : List ℕ) (title : Option (List ℕ)) (d : Datum) → accepts (kind_form k title) d ≡ false
no_value_of_kind k title d = elim (bytes_eq k (codes "class"))
    as (λ b. accepts (cond b (class title) (kind_of_resource k title)) d ≡ false) [ true ↦ refl | false ↦ refl ]

pub no_value_is_of : (r : Reference) (d : Datum) → type_accepts (reference_type r) d ≡ false
no_value_is_of r d = elim (bytes_eq r.kind (codes "class"))
    as (λ b. type_accepts (of (cond b n.class (n.kind_of_resource r.kind)) (text r.title none)) d ≡ false)
    [ true ↦ refl | false ↦ no_value_of_kind r.kind (given_title (text r.title none)) d ]
