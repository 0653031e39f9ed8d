-- A history that was cut in two, the entries before a round and those of it.
use Rattle.std.proofs.Common.{◌≡◌, ℕ, ◌+◌, ◌≤◌, List, ◌++◌, length, take, drop, take-append-drop, sym, ap, ap₂, ◌∙◌, subst, arith, length-append}
use Rattle.std.specs.Prelude.{IsTrue}
use Rattle.std.specs.BTreeMap.{BTreeMap}
use Rattle.std.proofs.lemmas.List.{length-map, take-map, drop-map}
use Rattle.site_core.specs.Counts.{AreCountsOf}
use Rattle.site_core.specs.EntryViews.{event_of, events_of}
use Rattle.site_core.specs.Events.{Event, are_entries}
use Rattle.site_core.specs.declared.entry.Entry.{Entry}
use Rattle.history_tools.specs.SameWorkers.{by_workers}
use Rattle.history_tools.proofs.ByWorkers.{entries_by, entries_front, later_back}

module _ {S : Type 0} (items front back : List (Entry S)) (h : List (Event S)) (start : ℕ) (is : events_of items ≡ h)
    (front_is : front ≡ take start items) (back_is : back ≡ drop start items) where
  cut_front : events_of front ≡ take start h
  cut_front = ap events_of front_is ∙ sym (take-map event_of start items) ∙ ap (take start) is

  cut_back : events_of back ≡ drop start h
  cut_back = ap events_of back_is ∙ sym (drop-map event_of start items) ∙ ap (drop start) is

  pub cut_counted : (counts : BTreeMap ℕ ℕ) → AreCountsOf counts (take start h) → AreCountsOf counts (events_of front)
  cut_counted counts counted = subst (AreCountsOf counts) (sym cut_front) counted

  pub cut_few : (most : ℕ) → length h ≤ most → length front + length back ≤ most
  cut_few most few =
      let all = ap length (ap₂ (λ x y. x ++ y) front_is back_is ∙ take-append-drop start items) in
      let sum = length-append front back in let size = length-map items event_of in let same = ap length is in
      omega (arith, all, sum, size, same, few)

  module _ (base : ℕ) (done : List (Entry S))
      (came : events_of done ≡ events_of front ++ by_workers base (events_of front) (events_of back)) where
    cut_made : events_of done ≡ take start h ++ by_workers base (take start h) (drop start h)
    cut_made =
        came ∙ ap (λ l. l ++ by_workers base l (events_of back)) cut_front
        ∙ ap (λ l. take start h ++ by_workers base (take start h) l) cut_back

    pub cut_shape : 1 ≤ start → IsTrue (are_entries h) → IsTrue (are_entries (events_of done))
    cut_shape some shape =
        subst (λ l. IsTrue (are_entries l)) (sym cut_made)
        (entries_by base (take start h) (drop start h) (entries_front start h some shape) (later_back start h some shape))

    pub cut_is : (entries : List (Event S)) → entries ≡ events_of done →
        entries ≡ take start h ++ by_workers base (take start h) (drop start h)
    cut_is entries same = same ∙ cut_made
