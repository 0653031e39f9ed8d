-- The forms of lists and hashes, as the loops over them make them.
use Rattle.std.proofs.Common.{◌≡◌, ℕ, true, false, if◌then◌else◌, List, [], ◌∷◌, map, refl, ap, sym, ◌∙◌}
use Rattle.std.specs.Cmp.{first_so, second_so}
use Rattle.std.specs.Cmp.Derive.{both_true}
use Rattle.serde_json.specs.Data.{item, no_members, member, array, object}
use Rattle.serde_json.specs.View.{items_of}
use Rattle.pp_values.specs.Datum as d
use Rattle.pp_values.specs.Datum.{Datum, Pair, Entries, no_entries, entry, data_of, entries_of}
use Rattle.pp_values.specs.Rising.{precedes, is_rising}
use Rattle.pp_values.specs.Settings.{setting_names}
use Rattle.json_values.specs.ValueForm.{form, list_form, pair_forms, member_forms, first_key, is_plain_name, is_plain, long_form, pair_data, plain_settings, setting_members, put_all}
use Rattle.json_values.proofs.SettingMembers.{put_all-settings}

pub items_of-forms : (ds : List Datum) → items_of (map form ds) ≡ list_form (data_of ds)
items_of-forms [] = refl
items_of-forms (x ∷ ds) = ap (item (form x)) (items_of-forms ds)

items_of-pair_data : (ps : List Pair) → items_of (pair_data ps) ≡ pair_forms (entries_of ps)
items_of-pair_data [] = refl
items_of-pair_data (p ∷ ps) = ap (λ is. item (form p.0) (item (form p.1) is)) (items_of-pair_data ps)

members-plain_settings : (es : Entries) → setting_members (plain_settings es) ≡ member_forms es
members-plain_settings no_entries = refl
members-plain_settings (entry (d.text t) v es) = ap (member t (form v)) (members-plain_settings es)
members-plain_settings (entry k v es) = refl

same_first : (t : List ℕ) (es : Entries) → precedes t (first_key es) ≡ precedes t (setting_names (plain_settings es))
same_first t no_entries = refl
same_first t (entry (d.text u) v es) = refl
same_first t (entry k v es) = refl

plain_rises : (es : Entries) → is_plain es ≡ true → is_rising (setting_names (plain_settings es)) ≡ true
plain_rises no_entries h = refl
plain_rises (entry (d.text t) v es) h =
    both_true (sym (same_first t es) ∙ first_so (precedes t (first_key es)) (is_plain es) (second_so (is_plain_name t) _ h))
    (plain_rises es (second_so (precedes t (first_key es)) (is_plain es) (second_so (is_plain_name t) _ h)))
plain_rises (entry k v es) h = refl

-- a hash whose keys are names in order
pub short_hash : (ps : List Pair) → is_plain (entries_of ps) ≡ true → object (put_all (plain_settings (entries_of ps)) no_members) ≡ form (d.hash (entries_of ps))
short_hash ps h =
    ap object (put_all-settings (plain_settings (entries_of ps)) (plain_rises (entries_of ps) h) ∙ members-plain_settings (entries_of ps))
    ∙ sym (ap (λ b. if b then object (member_forms (entries_of ps)) else long_form (array (pair_forms (entries_of ps)))) h)

-- any other hash
pub long_hash : (ps : List Pair) → is_plain (entries_of ps) ≡ false → long_form (array (items_of (pair_data ps))) ≡ form (d.hash (entries_of ps))
long_hash ps h =
    ap (λ is. long_form (array is)) (items_of-pair_data ps)
    ∙ sym (ap (λ b. if b then object (member_forms (entries_of ps)) else long_form (array (pair_forms (entries_of ps)))) h)
