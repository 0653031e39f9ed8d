-- Texts and types given as arguments.
use Rattle.std.proofs.Common.{◌≡◌, ◌<◌, ℕ, List, [], ◌∷◌, refl, ap, sym, ◌∙◌, map, length, slice_get, get_or, zero, suc, Some, Option, arith}
use Rattle.std.proofs.lemmas.List.{length-map}
use Rattle.pp_values.specs.declared.ptype.PType.{PType}
use Rattle.pp_values.specs.PTypes.{sort, sorts}
use Rattle.pp_values.specs.Sort.{Sort, texts_arguments, types_arguments}
use Rattle.pp_types.specs.Forms.{Form, form, list_of, given_texts, given_forms, tuple_form, tuple}

pub given_texts-texts_arguments : (ts : List (List ℕ)) → given_texts (texts_arguments ts) ≡ ts
given_texts-texts_arguments [] = refl
given_texts-texts_arguments (t ∷ ts) = ap (λ us. t ∷ us) (given_texts-texts_arguments ts)

pub list_of-given_forms : (ss : List Sort) → list_of (given_forms (types_arguments ss)) ≡ map form ss
list_of-given_forms [] = refl
list_of-given_forms (s ∷ ss) = ap (λ ts. form s ∷ ts) (list_of-given_forms ss)

pub tuple_form-given : (ss : List Sort) → (ss ≡ [] → ⊥) → tuple (given_forms (types_arguments ss))
    ≡ tuple_form (given_forms (types_arguments ss))
tuple_form-given [] some = absurd (some refl)
tuple_form-given (s ∷ ss) some = refl

pub given_count : (ss : List Sort) → length (list_of (given_forms (types_arguments ss))) ≡ length ss
given_count ss = ap length (list_of-given_forms ss) ∙ length-map ss form

-- a type by its place among those given
pub given_place : (xs : List PType) (ss : List Sort) (i : ℕ) → sorts xs ≡ ss
    → i < length (list_of (given_forms (types_arguments ss))) → i < length xs
given_place xs ss i e h = omega (arith, given_count ss, length-map xs sort, ap length e, h)

at_place : (xs : List PType) (i : ℕ) (d : PType) → i < length xs → slice_get (map form (sorts xs)) i
    ≡ Some (form (sort (get_or xs i d)))
at_place [] i d h = absurd (omega arith)
at_place (x ∷ xs) zero d h = refl
at_place (x ∷ xs) (suc i) d h = let h' : i < length xs = omega arith in at_place xs i d h'

pub given_form : (xs : List PType) (i : ℕ) (x : PType) → i < length xs → x ≡ get_or xs i x
    → slice_get (map form (sorts xs)) i ≡ Some (form (sort x))
given_form xs i x h e = at_place xs i x h ∙ ap (λ y. let some : Option Form = Some (form (sort y)) in some) (sym e)
