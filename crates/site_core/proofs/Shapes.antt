-- The shape of a history with one more entry.
use Rattle.std.proofs.Common.{true, List, [], ◌∷◌, ◌++◌, refl, ◌∙◌}
use Rattle.std.specs.Prelude.{IsTrue}
use Rattle.std.specs.List.{list_all}
use Rattle.std.proofs.lemmas.Bool.{and_from}
use Rattle.std.proofs.lemmas.List.Folds.{list_all-append}
use Rattle.site_core.specs.Events.{Event, opens, publishes, adds, is_later, are_entries}

module _ {S : Type 0} where
  all_later-push : (es : List (Event S)) (e : Event S) → IsTrue (list_all is_later es) → IsTrue (is_later e) →
      IsTrue (list_all is_later (es ++ e ∷ []))
  all_later-push es e all last = list_all-append is_later es (e ∷ [])
      ∙ and_from (list_all is_later es) (list_all is_later (e ∷ [])) all (and_from (is_later e) true last refl)

  pub are_entries-push : (h : List (Event S)) (e : Event S) → IsTrue (are_entries h) → IsTrue (is_later e) →
      IsTrue (are_entries (h ++ e ∷ []))
  are_entries-push [] e shape last = cc
  are_entries-push (opens site ∷ es) e shape last = all_later-push es e shape last
  are_entries-push (publishes p ∷ es) e shape last = shape
  are_entries-push (adds author call what ∷ es) e shape last = shape
