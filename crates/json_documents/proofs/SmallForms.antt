-- The form of a proper value has small numbers and rising names, and is read as that value.
use Rattle.std.proofs.Common.{◌≡◌, ℕ, ◌^◌, ◌<◌, Bool, true, false, ◌&&◌, ◌||◌, not, if◌then◌else◌, List, [], ◌∷◌, map, pos, negsuc, ℤ, Some, None, option_map, option_and_then, codes, refl, ap, ap₂, ◌∙◌, arith}
use Rattle.std.proofs.lemmas.Bool.{lt-ltb, ltb-true}
use Rattle.std.specs.Cmp.{first_so, second_so}
use Rattle.std.specs.Cmp.Derive.{both_true}
use Rattle.serde_json.specs.Data as j
use Rattle.serde_json.specs.Data.{array, object, Members, no_members, member}
use Rattle.serde_json.specs.Find.{as_i64, of_integer}
use Rattle.serde_json.specs.View.{items_of}
use Rattle.pp_values.specs.Datum.{Datum, undef, flag, int, text, list, hash, reference, kind, default, Data, no_data, datum, Entries, no_entries, entry, pairs_of}
use Rattle.pp_values.specs.Keys.{are_distinct}
use Rattle.pp_values.specs.Kinds.{is_kind}
use Rattle.pp_values.specs.Rising.{precedes, is_rising}
use Rattle.pp_values.specs.Settings.{Setting, setting_names}
use Rattle.json_values.specs.Forms.{guard, value_of, values_of, members_of, object_value, marked_value, in_turn, long_hash, reference_to}
use Rattle.json_values.specs.FromData.{both}
use Rattle.json_values.specs.ValueForm.{form, list_form, pair_forms, member_forms, first_key, is_plain, is_plain_name, long_form, reference_form, setting_members}
use Rattle.json_documents.specs.ExactData.{names, has_rising, items_have_rising, members_have_rising}
use Rattle.json_documents.specs.ProperValues.{is_integer, is_proper, are_proper, are_proper_pairs, have_proper}
use Rattle.json_documents.specs.SmallNumbers.{is_small, has_small, items_have_small, members_have_small}

-- ---- small numbers

integer_small : (z : ℤ) → is_integer z ≡ true → is_small (of_integer z) ≡ true
integer_small (pos n) h = let below : n < 2 ^ 63 = ltb-true _ _ h in lt-ltb n (2 ^ 64) (omega arith)
integer_small (negsuc n) h = h

hash_small : (plain : Bool) (es : Entries) → members_have_small (member_forms es) ≡ true →
    items_have_small (pair_forms es) ≡ true →
    has_small (if plain then object (member_forms es) else long_form (array (pair_forms es))) ≡ true
unfolding long_form
hash_small true es short long = short
hash_small false es short long = both_true long refl

reference_small : (k t : List ℕ) → has_small (reference_form k t) ≡ true
unfolding reference_form
reference_small k t = refl

mutual
  pub form_small : (v : Datum) → is_proper v ≡ true → has_small (form v) ≡ true
  form_small undef h = refl
  form_small (flag b) h = refl
  form_small (int z) h = integer_small z h
  form_small (text t) h = refl
  form_small (list ds) h = list_small ds h
  form_small (hash es) h =
      let pairs = second_so (is_plain es || are_distinct (pairs_of es)) _ h in
      hash_small (is_plain es) es (members_small es pairs) (pairs_small es pairs)
  form_small (reference r) h = reference_small r.kind r.title
  form_small (kind s) h = absurd cc
  form_small default h = absurd cc

  list_small : (ds : Data) → are_proper ds ≡ true → items_have_small (list_form ds) ≡ true
  list_small no_data h = refl
  list_small (datum v ds) h =
      both_true (form_small v (first_so (is_proper v) _ h)) (list_small ds (second_so (is_proper v) _ h))

  pairs_small : (es : Entries) → are_proper_pairs es ≡ true → items_have_small (pair_forms es) ≡ true
  pairs_small no_entries h = refl
  pairs_small (entry k v es) h =
      let rest = second_so (is_proper k) _ h in
      both_true (form_small k (first_so (is_proper k) _ h))
      (both_true (form_small v (first_so (is_proper v) _ rest)) (pairs_small es (second_so (is_proper v) _ rest)))

  members_small : (es : Entries) → are_proper_pairs es ≡ true → members_have_small (member_forms es) ≡ true
  members_small no_entries h = refl
  members_small (entry (text t) v es) h =
      both_true (form_small v (first_so (is_proper v) _ h)) (members_small es (second_so (is_proper v) _ h))
  members_small (entry undef v es) h = refl
  members_small (entry (flag b) v es) h = refl
  members_small (entry (int z) v es) h = refl
  members_small (entry (list ds) v es) h = refl
  members_small (entry (hash fs) v es) h = refl
  members_small (entry (reference r) v es) h = refl
  members_small (entry (kind s) v es) h = refl
  members_small (entry default v es) h = refl

pub settings_small : (ss : List Setting) → have_proper ss ≡ true → members_have_small (setting_members ss) ≡ true
settings_small [] h = refl
settings_small (s ∷ ss) h =
    both_true (form_small s.1 (first_so (is_proper s.1) _ h)) (settings_small ss (second_so (is_proper s.1) _ h))

pub all_small : {X : Type 0} (f : X → j.Data) → ((x : X) → has_small (f x) ≡ true) → (xs : List X) →
    items_have_small (items_of (map f xs)) ≡ true
all_small f one [] = refl
all_small f one (x ∷ xs) = both_true (one x) (all_small f one xs)

-- ---- rising names

same_first : (t : List ℕ) (es : Entries) → precedes t (first_key es) ≡ true → is_plain es ≡ true →
    precedes t (names (member_forms es)) ≡ true
same_first t no_entries h p = refl
same_first t (entry (text u) v es) h p = h
same_first t (entry undef v es) h p = refl
same_first t (entry (flag b) v es) h p = refl
same_first t (entry (int z) v es) h p = refl
same_first t (entry (list ds) v es) h p = refl
same_first t (entry (hash fs) v es) h p = refl
same_first t (entry (reference r) v es) h p = refl
same_first t (entry (kind s) v es) h p = refl
same_first t (entry default v es) h p = refl

plain_rises : (es : Entries) → is_plain es ≡ true → is_rising (names (member_forms es)) ≡ true
plain_rises no_entries p = refl
plain_rises (entry (text t) v es) p =
    let after = second_so (is_plain_name t) (precedes t (first_key es) && is_plain es) p in
    let rest = second_so (precedes t (first_key es)) (is_plain es) after in
    both_true (same_first t es (first_so (precedes t (first_key es)) (is_plain es) after) rest) (plain_rises es rest)
plain_rises (entry undef v es) p = refl
plain_rises (entry (flag b) v es) p = refl
plain_rises (entry (int z) v es) p = refl
plain_rises (entry (list ds) v es) p = refl
plain_rises (entry (hash fs) v es) p = refl
plain_rises (entry (reference r) v es) p = refl
plain_rises (entry (kind s) v es) p = refl
plain_rises (entry default v es) p = refl

hash_rises : (plain : Bool) (es : Entries) → is_plain es ≡ plain → members_have_rising (member_forms es) ≡ true →
    items_have_rising (pair_forms es) ≡ true →
    has_rising (if plain then object (member_forms es) else long_form (array (pair_forms es))) ≡ true
unfolding long_form
hash_rises true es e short long = both_true (plain_rises es e) short
hash_rises false es e short long = both_true long refl

reference_rises : (k t : List ℕ) → has_rising (reference_form k t) ≡ true
unfolding reference_form
reference_rises k t = refl

mutual
  pub form_rises : (v : Datum) → has_rising (form v) ≡ true
  form_rises undef = refl
  form_rises (flag b) = refl
  form_rises (int z) = refl
  form_rises (text t) = refl
  form_rises (list ds) = list_rises ds
  form_rises (hash es) = hash_rises (is_plain es) es refl (members_rise es) (pairs_rise es)
  form_rises (reference r) = reference_rises r.kind r.title
  form_rises (kind s) = refl
  form_rises default = refl

  list_rises : (ds : Data) → items_have_rising (list_form ds) ≡ true
  list_rises no_data = refl
  list_rises (datum v ds) = both_true (form_rises v) (list_rises ds)

  pairs_rise : (es : Entries) → items_have_rising (pair_forms es) ≡ true
  pairs_rise no_entries = refl
  pairs_rise (entry k v es) = both_true (form_rises k) (both_true (form_rises v) (pairs_rise es))

  members_rise : (es : Entries) → members_have_rising (member_forms es) ≡ true
  members_rise no_entries = refl
  members_rise (entry (text t) v es) = both_true (form_rises v) (members_rise es)
  members_rise (entry undef v es) = refl
  members_rise (entry (flag b) v es) = refl
  members_rise (entry (int z) v es) = refl
  members_rise (entry (list ds) v es) = refl
  members_rise (entry (hash fs) v es) = refl
  members_rise (entry (reference r) v es) = refl
  members_rise (entry (kind s) v es) = refl
  members_rise (entry default v es) = refl

setting_names_same : (ss : List Setting) → names (setting_members ss) ≡ setting_names ss
setting_names_same [] = refl
setting_names_same (s ∷ ss) = ap (λ ns. s.0 ∷ ns) (setting_names_same ss)

settings_rise : (ss : List Setting) → members_have_rising (setting_members ss) ≡ true
settings_rise [] = refl
settings_rise (s ∷ ss) = both_true (form_rises s.1) (settings_rise ss)

pub object_rises : (ss : List Setting) → is_rising (setting_names ss) ≡ true →
    has_rising (object (setting_members ss)) ≡ true
object_rises ss h = both_true (ap is_rising (setting_names_same ss) ∙ h) (settings_rise ss)

pub all_rise : {X : Type 0} (f : X → j.Data) → ((x : X) → has_rising (f x) ≡ true) → (xs : List X) →
    items_have_rising (items_of (map f xs)) ≡ true
all_rise f one [] = refl
all_rise f one (x ∷ xs) = both_true (one x) (all_rise f one xs)

-- ---- what is read of it

integer_back : (z : ℤ) → is_integer z ≡ true → as_i64 (of_integer z) ≡ Some z
integer_back (pos n) h = ap (λ b. if b then Some (pos n) else None) h
integer_back (negsuc n) h = refl

-- keys and values in turn
abbrev turns : Entries → Data
turns no_entries = no_data
turns (entry k v es) = datum k (datum v (turns es))

turns_back : (es : Entries) → in_turn (turns es) ≡ Some es
turns_back no_entries = refl
turns_back (entry k v es) = ap (option_map (entry k v)) (turns_back es)

-- a hash that is no names in order, out of its keys and values in turn
long_back : (es : Entries) → is_plain es ≡ false → are_distinct (pairs_of es) ≡ true →
    option_and_then long_hash (in_turn (turns es)) ≡ Some (hash es)
long_back es p h =
    ap (option_and_then long_hash) (turns_back es)
    ∙ ap₂ (λ a b. guard (a && not b) (Some (hash es))) h p

or_false : (a b : Bool) → a ≡ false → (a || b) ≡ true → b ≡ true
or_false true b e h = absurd cc
or_false false b e h = h

reference_back : (k t : List ℕ) → is_kind k ≡ true → value_of (reference_form k t) ≡ Some (reference_to k t)
unfolding reference_form
reference_back k t h = ap (λ b. option_map (λ name. reference_to name t) (if b then Some k else None)) h

-- the member of a long form that is the list
long_value : (items : j.Items) (ds : Data) → values_of items ≡ Some ds →
    value_of (long_form (array items)) ≡ option_and_then long_hash (in_turn ds)
unfolding long_form
long_value items ds e =
    ap (λ o. option_and_then object_value (both (entry (text (codes "__ptype"))) (Some (text (codes "Hash")))
    (both (entry (text (codes "__pvalue"))) (option_map list o) (Some no_entries)))) e

mutual
  pub form_back : (v : Datum) → is_proper v ≡ true → value_of (form v) ≡ Some v
  form_back undef h = refl
  form_back (flag b) h = refl
  form_back (int z) h = ap (option_map int) (integer_back z h)
  form_back (text t) h = refl
  form_back (list ds) h = ap (option_map list) (list_back ds h)
  form_back (hash es) h =
      let keys = first_so (is_plain es || are_distinct (pairs_of es)) _ h in
      let pairs = second_so (is_plain es || are_distinct (pairs_of es)) _ h in
      elim (is_plain es) as (λ b. is_plain es ≡ b →
      value_of (if b then object (member_forms es) else long_form (array (pair_forms es))) ≡ Some (hash es)) [
        | true ↦ λ p.
            ap (option_and_then object_value) (members_back es p pairs)
            ∙ ap (λ b. if b then Some (hash es) else marked_value (pairs_of es)) p
        | false ↦ λ p.
            long_value (pair_forms es) (turns es) (pairs_back es pairs)
            ∙ long_back es p (or_false (is_plain es) _ p keys)
      ] refl
  form_back (reference r) h = reference_back r.kind r.title h
  form_back (kind s) h = absurd cc
  form_back default h = absurd cc

  list_back : (ds : Data) → are_proper ds ≡ true → values_of (list_form ds) ≡ Some ds
  list_back no_data h = refl
  list_back (datum v ds) h =
      ap₂ (both datum) (form_back v (first_so (is_proper v) _ h)) (list_back ds (second_so (is_proper v) _ h))

  pairs_back : (es : Entries) → are_proper_pairs es ≡ true → values_of (pair_forms es) ≡ Some (turns es)
  pairs_back no_entries h = refl
  pairs_back (entry k v es) h =
      let rest = second_so (is_proper k) _ h in
      ap₂ (both datum) (form_back k (first_so (is_proper k) _ h))
      (ap₂ (both datum) (form_back v (first_so (is_proper v) _ rest)) (pairs_back es (second_so (is_proper v) _ rest)))

  members_back : (es : Entries) → is_plain es ≡ true → are_proper_pairs es ≡ true →
      members_of (member_forms es) ≡ Some es
  members_back no_entries p h = refl
  members_back (entry (text t) v es) p h =
      ap₂ (both (entry (text t))) (form_back v (first_so (is_proper v) _ h))
      (members_back es (second_so _ _ (second_so (is_plain_name t) _ p)) (second_so (is_proper v) _ h))
  members_back (entry undef v es) p h = absurd cc
  members_back (entry (flag b) v es) p h = absurd cc
  members_back (entry (int z) v es) p h = absurd cc
  members_back (entry (list ds) v es) p h = absurd cc
  members_back (entry (hash fs) v es) p h = absurd cc
  members_back (entry (reference r) v es) p h = absurd cc
  members_back (entry (kind s) v es) p h = absurd cc
  members_back (entry default v es) p h = absurd cc
