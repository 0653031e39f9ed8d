-- Names in rising order are keys, each once.
use Rattle.std.proofs.Common.{◌≡◌, true, false, Bool, ◌&&◌, not, ℕ, List, [], ◌∷◌, refl, ap, ◌∙◌, bytes_eq, Ordering, Less, Equal, Greater}
use Rattle.std.proofs.lemmas.Cmp.{nat_list_cmp_total, tied_itself}
use Rattle.std.proofs.lemmas.Slice.Eq.{bytes_eq-Decides}
use Rattle.std.specs.Cmp.{first_so, second_so}
use Rattle.std.specs.Cmp.Derive.{both_true}
use Rattle.std.specs.Ordering.{is_lt}
use Rattle.pp_values.specs.Datum as d
use Rattle.pp_values.specs.Datum.{Datum, Pair, Entries, no_entries, entry, entries_of}
use Rattle.pp_values.specs.Facts.{is_fact, are_pairs, is_next_above}
use Rattle.pp_values.specs.Keys.{are_distinct, lacks}
use Rattle.pp_values.specs.Rising.{text_cmp, precedes}
use Rattle.json_values.specs.ValueForm.{first_key, is_plain_name, is_plain}

less : (o : Ordering) → is_lt o ≡ true → o ≡ Less
less Less e = refl
less Equal e = cc
less Greater e = cc

-- the keys are texts, each below the next
abbrev pub keys_rise : Entries → Bool
keys_rise no_entries = true
keys_rise (entry (d.text t) v es) = is_next_above t es && keys_rise es
keys_rise (entry k v es) = false

later_above : (t u : List ℕ) (es : Entries) → is_lt (text_cmp t u) ≡ true → is_next_above u es ≡ true → is_next_above t es ≡ true
later_above t u no_entries below h = refl
later_above t u (entry (d.text w) v es) below h = ap is_lt (nat_list_cmp_total.trans t u w (less _ below) (less _ h))
later_above t u (entry k v es) below h = absurd cc

apart : (t u : List ℕ) → is_lt (text_cmp t u) ≡ true → bytes_eq u t ≡ false
apart t u below =
    elim (bytes_eq u t) as (λ r. bytes_eq u t ≡ r → r ≡ false) [
      | true ↦ λ e. let same : u ≡ t = (bytes_eq-Decides _ _).0 e in let tied : text_cmp t u ≡ Equal = ap (text_cmp t) same ∙ tied_itself nat_list_cmp_total t in absurd (cc (tied, below))
      | false ↦ λ e. refl
    ] refl

rising_lacks : (t : List ℕ) (ps : List Pair) → keys_rise (entries_of ps) ≡ true → is_next_above t (entries_of ps) ≡ true → lacks (d.text t) ps ≡ true
rising_lacks t [] h above = refl
rising_lacks t ((d.text u, v) ∷ ps) h above =
    both_true (ap not (apart t u above)) (rising_lacks t ps (second_so (is_next_above u (entries_of ps)) _ h) (later_above t u (entries_of ps) above (first_so _ (keys_rise (entries_of ps)) h)))
rising_lacks t ((k, v) ∷ ps) h above = absurd cc

pub rising_distinct : (ps : List Pair) → keys_rise (entries_of ps) ≡ true → are_distinct ps ≡ true
rising_distinct [] h = refl
rising_distinct ((d.text t, v) ∷ ps) h =
    both_true (rising_lacks t ps (second_so (is_next_above t (entries_of ps)) _ h) (first_so _ (keys_rise (entries_of ps)) h)) (rising_distinct ps (second_so (is_next_above t (entries_of ps)) _ h))
rising_distinct ((k, v) ∷ ps) h = absurd cc

facts_rise : (es : Entries) → are_pairs es ≡ true → keys_rise es ≡ true
facts_rise no_entries h = refl
facts_rise (entry (d.text t) v es) h =
    let after = second_so (is_fact v) (is_next_above t es && are_pairs es) h in
    both_true (first_so (is_next_above t es) (are_pairs es) after) (facts_rise es (second_so (is_next_above t es) (are_pairs es) after))
facts_rise (entry k v es) h = absurd cc

pub facts_distinct : (ps : List Pair) → are_pairs (entries_of ps) ≡ true → are_distinct ps ≡ true
facts_distinct ps h = rising_distinct ps (facts_rise (entries_of ps) h)

next_above : (t : List ℕ) (es : Entries) → precedes t (first_key es) ≡ true → is_plain es ≡ true → is_next_above t es ≡ true
next_above t no_entries below h = refl
next_above t (entry (d.text u) v es) below h = below
next_above t (entry k v es) below h = absurd cc

plain_rise : (es : Entries) → is_plain es ≡ true → keys_rise es ≡ true
plain_rise no_entries h = refl
plain_rise (entry (d.text t) v es) h =
    let after = second_so (is_plain_name t) (precedes t (first_key es) && is_plain es) h in
    let rest = second_so (precedes t (first_key es)) (is_plain es) after in
    both_true (next_above t es (first_so (precedes t (first_key es)) (is_plain es) after) rest) (plain_rise es rest)
plain_rise (entry k v es) h = absurd cc

pub plain_distinct : (ps : List Pair) → is_plain (entries_of ps) ≡ true → are_distinct ps ≡ true
plain_distinct ps h = rising_distinct ps (plain_rise (entries_of ps) h)
