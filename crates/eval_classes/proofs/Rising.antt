-- The values of parameters rise by their names.
use Rattle.std.proofs.Common.{◌≡◌, ℕ, true, List, [], ◌∷◌, refl, ap, ◌∙◌}
use Rattle.std.specs.declared.cmp.Ordering.TheVariants.{Less, Equal, Greater}
use Rattle.std.specs.Ordering.{match_ordering}
use Rattle.std.specs.BTreeMap.{insert_entry}
use Rattle.std.specs.BTreeSet.{insert_key}
use Rattle.pp_values.specs.Datum.{Datum}
use Rattle.pp_values.specs.Rising.{text_cmp, is_rising}
use Rattle.pp_values.specs.Settings.{Setting, setting_names}
use Rattle.pp_values.proofs.RisingLemmas.{is_rising-insert_key}

-- a setting is put in where its name would be
pub names-insert_entry : (ss : List Setting) (name : List ℕ) (d : Datum) →
    setting_names (insert_entry text_cmp ss name d) ≡ insert_key text_cmp (setting_names ss) name
names-insert_entry [] name d = refl
names-insert_entry (s ∷ ss) name d =
    elim (text_cmp name s.0) as (λ o.
    setting_names (match_ordering o ((name, d) ∷ s ∷ ss) ((s.0, d) ∷ ss) (s ∷ insert_entry text_cmp ss name d))
    ≡ match_ordering o (name ∷ setting_names (s ∷ ss)) (setting_names (s ∷ ss))
    (s.0 ∷ insert_key text_cmp (setting_names ss) name)) [
      | Less ↦ refl
      | Equal ↦ refl
      | Greater ↦ ap (λ ns. s.0 ∷ ns) (names-insert_entry ss name d)
    ]

-- one more keeps them so
pub rising_more : (ss : List Setting) (name : List ℕ) (d : Datum) → is_rising (setting_names ss) ≡ true →
    is_rising (setting_names (insert_entry text_cmp ss name d)) ≡ true
rising_more ss name d h = ap is_rising (names-insert_entry ss name d) ∙ is_rising-insert_key (setting_names ss) name h
