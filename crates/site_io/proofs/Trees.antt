-- What a tree in memory lists.
use Rattle.std.proofs.Common.{◌≡◌, ℕ, Bool, true, false, List, [], ◌∷◌, Some, None, refl, sym, ap, subst, arith}
use Rattle.std.specs.Prelude.{IsTrue}
use Rattle.std.specs.BTreeSet.{insert_key}
use Rattle.pp_values.specs.Rising.{text_cmp, is_rising}
use Rattle.pp_values.proofs.RisingLemmas.{is_rising-insert_key, is_rising-with_texts}
use Rattle.site_io.specs.Stream.{Rose}
use Rattle.site_io.specs.Folders.{Held, IsSameFolder, HasListed, name_behind, names_with, names_at, folder_front, unless_none}
use Rattle.site_io.specs.ScriptedFolder.{ScriptedFolder, folder_of, IsNextVisit}

rising-names_with : (files : List Held) (names : List (List ℕ)) (front : List ℕ) → is_rising names ≡ true →
    is_rising (names_with names front files) ≡ true
unfolding names_with
rising-names_with [] names front rising = rising
rising-names_with (held ∷ files) names front rising =
    rising-names_with files _ front (is_rising-with_texts (name_behind front held.0) names rising)

pub rising_put : (names : List (List ℕ)) (name : List ℕ) → IsTrue (is_rising names) →
    IsTrue (is_rising (insert_key text_cmp names name))
rising_put names name rising = is_rising-insert_key names name rising

pub failed_visit : (before after : ScriptedFolder) (failed : Bool) → failed ≡ true → IsNextVisit failed before after →
    IsSameFolder (folder_of before) (folder_of after) →
    IsSameFolder (folder_of before) (folder_of after) × Rose before.faults after.faults
    × ((folder_of after).calls ≡ None)
failed_visit before after true is next same = (same, omega (arith, next.faults), refl)
failed_visit before after false is next same = absurd cc

names_are : (names : List (List ℕ)) (path : List ℕ) (files : List Held) →
    names ≡ names_with [] (folder_front path) files → (names ≡ [] → ⊥) → names_at path files ≡ Some names
names_are [] path files is some = absurd (some refl)
names_are (n ∷ ns) path files is some = ap unless_none (sym is)

pub listed_now : (before after : ScriptedFolder) (failed empty : Bool) (names : List (List ℕ)) (path : List ℕ) →
    IsNextVisit failed before after → IsSameFolder (folder_of before) (folder_of after) →
    names ≡ names_with [] (folder_front path) after.files → (names ≡ [] → IsTrue empty) → empty ≡ false →
    HasListed names path (folder_of before) (folder_of after)
listed_now before after failed empty names path next same is none some = record {
  same = same;
  rising = subst (λ ns. IsTrue (is_rising ns)) (sym is) (rising-names_with after.files [] (folder_front path) refl);
  told = subst (λ files. names_at path files ≡ Some names) next.files (names_are names path after.files is
      (λ e. let filled = none e in absurd cc));
  called = refl;
}
