-- What an attribute is set to, among attributes and among what they say.
use Rattle.std.proofs.Common.{◌≡◌, ℕ, true, false, cond, List, [], ◌∷◌, Some, find, refl}
use Rattle.std.specs.Option.{option_map}
use Rattle.std.specs.Str.{bytes_eq}
use Rattle.pp_values.specs.Views.{view}
use Rattle.res_core.specs.declared.attribute.Attribute.{Attribute}
use Rattle.res_core.specs.AttributeViews.{setting, settings, set_in}

pub found_setting : (name : List ℕ) (xs : List Attribute) → set_in (settings xs) name ≡ option_map (λ a. view a.value) (find (λ a. bytes_eq a.name name) xs)
found_setting name [] = refl
found_setting name (x ∷ xs) =
    elim (bytes_eq x.name name) as (λ t. option_map (λ s. s.1) (cond t (Some (setting x)) (find (λ s. bytes_eq s.0 name) (settings xs)))
    ≡ option_map (λ a. view a.value) (cond t (Some x) (find (λ a. bytes_eq a.name name) xs)))
    [ true ↦ refl | false ↦ found_setting name xs ]
