-- No form of a value has a float.
use Rattle.std.proofs.Common.{◌≡◌, ℕ, true, false, Bool, ◌||◌, ℤ, pos, negsuc, List, [], ◌∷◌, map, if◌then◌else◌, refl, ap, ◌∙◌}
use Rattle.serde_json.specs.Data.{Data, number, object, array}
use Rattle.serde_json.specs.View.{items_of}
use Rattle.serde_json.specs.Find.{of_integer}
use Rattle.serde_json.specs.Written.{has_float, items_have_float, members_have_float}
use Rattle.pp_values.specs.Datum as d
use Rattle.pp_values.specs.Datum.{Datum, Entries, no_entries, entry}
use Rattle.pp_values.specs.Settings.{Setting}
use Rattle.json_values.specs.ValueForm.{form, list_form, pair_forms, member_forms, is_plain, reference_form, long_form, setting_members}

pub either : (a b : Bool) → a ≡ false → b ≡ false → (a || b) ≡ false
either a b p q = ap (λ x. x || b) p ∙ q

integer_no_float : (z : ℤ) → has_float (number (of_integer z)) ≡ false
integer_no_float (pos n) = refl
integer_no_float (negsuc n) = refl

hash_no_float : (plain : Bool) (es : Entries) → members_have_float (member_forms es) ≡ false → items_have_float (pair_forms es) ≡ false → has_float (if plain then object (member_forms es) else long_form (array (pair_forms es))) ≡ false
unfolding long_form
hash_no_float true es short long = short
hash_no_float false es short long = either _ _ long refl

reference_no_float : (kind title : List ℕ) → has_float (reference_form kind title) ≡ false
unfolding reference_form
reference_no_float kind title = refl

mutual
  pub form_no_float : (x : Datum) → has_float (form x) ≡ false
  form_no_float d.undef = refl
  form_no_float (d.flag b) = refl
  form_no_float (d.int z) = integer_no_float z
  form_no_float (d.text t) = refl
  form_no_float (d.list ds) = list_no_float ds
  form_no_float (d.hash es) = hash_no_float (is_plain es) es (members_no_float es) (pairs_no_float es)
  form_no_float (d.reference r) = reference_no_float r.kind r.title
  form_no_float (d.kind s) = refl
  form_no_float d.default = refl

  pub list_no_float : (xs : d.Data) → items_have_float (list_form xs) ≡ false
  list_no_float d.no_data = refl
  list_no_float (d.datum x xs) = either _ _ (form_no_float x) (list_no_float xs)

  pub pairs_no_float : (es : Entries) → items_have_float (pair_forms es) ≡ false
  pairs_no_float no_entries = refl
  pairs_no_float (entry k v es) = either _ _ (form_no_float k) (either _ _ (form_no_float v) (pairs_no_float es))

  pub members_no_float : (es : Entries) → members_have_float (member_forms es) ≡ false
  members_no_float no_entries = refl
  members_no_float (entry (d.text t) v es) = either _ _ (form_no_float v) (members_no_float es)
  members_no_float (entry k v es) = refl

pub settings_no_float : (ss : List Setting) → members_have_float (setting_members ss) ≡ false
settings_no_float [] = refl
settings_no_float (s ∷ ss) = either _ _ (form_no_float s.1) (settings_no_float ss)

pub all_no_float : {X : Type 0} (f : X → Data) → ((x : X) → has_float (f x) ≡ false) → (xs : List X) → items_have_float (items_of (map f xs)) ≡ false
all_no_float f one [] = refl
all_no_float f one (x ∷ xs) = either _ _ (one x) (all_no_float f one xs)
