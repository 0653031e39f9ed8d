-- Which values a data type accepts. References, data types and `default` are no data; the entries of the catalog accept
-- no value.
use Rattle.std.specs.Prelude.{ℕ, Bool, true, false, not, ◌&&◌, ◌||◌, List, [], ◌∷◌, length, pos}
use Rattle.std.specs.List.{list_all, list_any}
use Rattle.std.specs.Str.{bytes_eq}
use Rattle.pp_values.specs.Datum as d
use Rattle.pp_values.specs.Datum.{Datum, flag, int, text, list, hash, reference, kind, Data, no_data, datum, Entries}
use Rattle.pp_values.specs.Datum.{no_entries, entry, Pair, members_of, pairs_of}
use Rattle.pp_values.specs.Sort.{Sort}
use Rattle.pp_types.specs.declared.range.Range.{Range}
use Rattle.pp_types.specs.Ranges.{is_in_range}
use Rattle.pp_types.specs.Lengths.{has_length}
use Rattle.pp_types.specs.Forms.{Form, any, undef, default, boolean, integer, string, enum, data_, array}
use Rattle.pp_types.specs.Forms.{hash as hash_form, variant, not_undef, tuple, type_, Forms, no_forms, and_form, form}
use Rattle.pp_types.specs.Forms.{reference_form}
use Rattle.pp_types.specs.Includes.{includes}

abbrev pub is_undef : Datum → Bool
is_undef d.undef = true
is_undef d = false

abbrev pub is_default : Datum → Bool
is_default d.default = true
is_default d = false

abbrev pub is_flag : Datum → Bool
is_flag (flag b) = true
is_flag d = false

abbrev pub is_integer_within : Range → Datum → Bool
is_integer_within r (int z) = is_in_range r z
is_integer_within r d = false

abbrev pub is_text_of_length : Range → Datum → Bool
is_text_of_length r (text t) = has_length r t
is_text_of_length r d = false

-- letter by letter
abbrev pub is_text_among : List (List ℕ) → Datum → Bool
is_text_among ts (text t) = list_any (bytes_eq t) ts
is_text_among ts d = false

-- Undef, truth values, integers, texts, lists of data, and hashes of data whose keys are texts
abbrev mutual
  pub is_data : Datum → Bool
  is_data d.undef = true
  is_data (flag b) = true
  is_data (int z) = true
  is_data (text t) = true
  is_data (list ds) = are_data ds
  is_data (hash es) = are_data_by_texts es
  is_data d = false

  pub are_data : Data → Bool
  are_data no_data = true
  are_data (datum d ds) = is_data d && are_data ds

  pub are_data_by_texts : Entries → Bool
  are_data_by_texts no_entries = true
  are_data_by_texts (entry k v es) = (is_text k && is_data v) && are_data_by_texts es

  pub is_text : Datum → Bool
  is_text (text t) = true
  is_text d = false

-- a list whose members pass together
abbrev pub is_list : (List Datum → Bool) → Datum → Bool
is_list p (list ds) = p (members_of ds)
is_list p d = false

abbrev pub is_list_of : (Datum → Bool) → Range → Datum → Bool
is_list_of p r (list ds) = is_in_range r (pos (length (members_of ds))) && list_all p (members_of ds)
is_list_of p r d = false

abbrev pub is_hash_of : (Pair → Bool) → Range → Datum → Bool
is_hash_of p r (hash es) = is_in_range r (pos (length (pairs_of es))) && list_all p (pairs_of es)
is_hash_of p r d = false

-- a type that T includes; a reference counts as the type of its kind and title
abbrev pub is_type_within : Form → Datum → Bool
is_type_within t (kind s) = includes t (form s)
is_type_within t (reference r) = includes t (reference_form r)
is_type_within t d = false

abbrev mutual
  pub accepts : Form → Datum → Bool
  accepts any d = true
  accepts undef d = is_undef d
  accepts default d = is_default d
  accepts boolean d = is_flag d
  accepts (integer r) d = is_integer_within r d
  accepts (string r) d = is_text_of_length r d
  accepts (enum ts) d = is_text_among ts d
  accepts data_ d = is_data d
  accepts (array t r) d = is_list_of (accepts t) r d
  accepts (hash_form k v r) d = is_hash_of (λ p. accepts k p.0 && accepts v p.1) r d
  accepts (variant ts) d = some_accept ts d
  accepts (not_undef t) d = not (is_undef d) && accepts t d
  accepts (tuple ts) d = is_list (accept_members ts) d
  accepts (type_ t) d = is_type_within t d
  accepts t d = false

  pub some_accept : Forms → Datum → Bool
  some_accept no_forms d = false
  some_accept (and_form t ts) d = accepts t d || some_accept ts d

  -- as many members as types, each accepted in its place
  pub accept_members : Forms → List Datum → Bool
  accept_members no_forms [] = true
  accept_members no_forms (d ∷ ds) = false
  accept_members (and_form t ts) [] = false
  accept_members (and_form t ts) (d ∷ ds) = accepts t d && accept_members ts ds

-- of a data type as it was written
abbrev pub type_accepts : Sort → Datum → Bool
type_accepts s d = accepts (form s) d
