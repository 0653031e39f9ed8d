-- Entries that are counted on, one after another.
use Rattle.std.proofs.Common.{◌≡◌, ℕ, ◌+◌, ◌-◌, ◌<◌, ◌≤◌, cond, List, [], ◌∷◌, ◌++◌, length, Some, refl, sym, ap, ◌∙◌, subst, arith, append_assoc, append-nil, length-append}
use Rattle.std.specs.Prelude.{IsTrue, ◌==◌, ◌^◌}
use Rattle.std.specs.BTreeMap.{BTreeMap}
use Rattle.std.proofs.lemmas.Bool.{eq-eqb}
use Rattle.std.proofs.lemmas.List.{length-map, map-append}
use Rattle.std.proofs.lemmas.List.Sums.{count_by-le-length}
use Rattle.site_core.specs.Counts.{count_in, AreCountsOf}
use Rattle.site_core.specs.EntryViews.{event_of, events_of}
use Rattle.site_core.specs.Events.{Event, opens, publishes, adds, author_of, is_by, calls_of}
use Rattle.site_core.specs.declared.entry.Entry.{Entry}
use Rattle.site_core.specs.declared.history.TheConstants.{MOST_ENTRIES}
use Rattle.site_core.proofs.Counting.{counts_raised}
use Rattle.history_tools.specs.SameWorkers.{given_to, next_by, by_worker, by_workers}

module _ {S : Type 0} where
  is_given : (author call a : ℕ) (e : Event S) → author_of e ≡ Some a → IsTrue (is_by author (given_to author call e))
  is_given author call a (opens site) is = absurd (cc is)
  is_given author call a (publishes p) is = eq-eqb author author refl
  is_given author call a (adds adder number what) is = eq-eqb author author refl

  -- the next entry of a worker
  pub by_someone : (base a worker call : ℕ) (old new : BTreeMap ℕ ℕ) (h : List (Event S)) (e x : Event S) →
      author_of e ≡ Some a → worker ≡ a - base → call ≡ count_in old worker → x ≡ given_to worker call e →
      ((other : ℕ) → count_in new other ≡ cond (worker == other) (count_in old other + 1) (count_in old other)) →
      AreCountsOf old h → (x ≡ by_worker base h e) × AreCountsOf new (h ++ x ∷ [])
  by_someone base a worker call old new h e x is worker_is call_is x_is raised counted = (
    x_is ∙ ap (λ n. given_to worker n e) (call_is ∙ counted worker)
        ∙ ap (λ w. given_to w (calls_of w h) e) worker_is ∙ sym (ap (λ o. next_by base h o e) is),
    subst (λ y. AreCountsOf new (h ++ y ∷ [])) (sym x_is)
        (counts_raised old new worker h (given_to worker call e) (is_given worker call a e is) counted raised),
  )

  -- these were counted on, and so many are left
  pub record IsCounting (base : ℕ) (all : List (Event S)) (counts : BTreeMap ℕ ℕ) (entries left : List (Entry S))
      (count : ℕ) : Type 0 where
    pub counted : AreCountsOf counts (events_of entries)
    pub rest : events_of entries ++ by_workers base (events_of entries) (events_of left) ≡ all
    pub few : length entries + length left ≤ MOST_ENTRIES
    pub count_is : count ≡ length left

  pub counting_none : (base : ℕ) (counts : BTreeMap ℕ ℕ) (entries left more : List (Entry S)) (count : ℕ) →
      left ≡ more → count ≡ length left → AreCountsOf counts (events_of entries) →
      length entries + length more ≤ MOST_ENTRIES →
      IsCounting base (events_of entries ++ by_workers base (events_of entries) (events_of more)) counts entries left
      count
  counting_none base counts entries left more count is count_is counted few = record {
    counted = counted;
    rest = ap (λ l. events_of entries ++ by_workers base (events_of entries) (events_of l)) is;
    few = let size = ap length is in omega (arith, few, size);
    count_is = count_is;
  }

  -- there is room for one more in each count
  pub counting_fits : (base : ℕ) (all : List (Event S)) (counts : BTreeMap ℕ ℕ) (entries left rest : List (Entry S))
      (count : ℕ) (e : Entry S) → IsCounting base all counts entries left count → left ≡ e ∷ rest → (author : ℕ) →
      count_in counts author + 1 < 2 ^ 32
  counting_fits base all counts entries left rest count e now is author =
      let had = now.counted author in
      let most = count_by-le-length (is_by author) (events_of entries) in
      let size = length-map entries event_of in let some = ap length is in let few = now.few in
      omega (arith, had, most, size, some, few)

  pub counting_more : (base : ℕ) (all : List (Event S)) (old new : BTreeMap ℕ ℕ) (entries more left rest : List (Entry S))
      (count less : ℕ) (e x : Entry S) → IsCounting base all old entries left count → left ≡ e ∷ rest →
      less + 1 ≡ count → more ≡ entries ++ x ∷ [] →
      (event_of x ≡ by_worker base (events_of entries) (event_of e))
      × AreCountsOf new (events_of entries ++ event_of x ∷ []) →
      IsCounting base all new more rest less
  counting_more base all old new entries more left rest count less e x now is less_is more_is step =
      record {
        counted = subst (AreCountsOf new) (sym whole) step.1;
        rest = ap (λ l. l ++ by_workers base l (events_of rest)) whole
            ∙ append_assoc (events_of entries) (event_of x ∷ [])
            (by_workers base (events_of entries ++ event_of x ∷ []) (events_of rest))
            ∙ ap (λ y. events_of entries ++ y ∷ by_workers base (events_of entries ++ y ∷ []) (events_of rest)) step.0
            ∙ ap (λ l. events_of entries ++ by_workers base (events_of entries) (events_of l)) (sym is) ∙ now.rest;
        few = let size = ap length more_is ∙ length-append entries (x ∷ []) in let old_few = now.few in
            let some = ap length is in omega (arith, size, old_few, some);
        count_is = let old_count = now.count_is in let some = ap length is in omega (arith, old_count, some, less_is);
      }
    where
      whole : events_of more ≡ events_of entries ++ event_of x ∷ []
      whole = ap events_of more_is ∙ map-append event_of entries (x ∷ [])

  pub counting_all : (base : ℕ) (all : List (Event S)) (counts : BTreeMap ℕ ℕ) (entries left : List (Entry S))
      (count : ℕ) → IsCounting base all counts entries left count → count ≡ 0 →
      (events_of entries ≡ all) × AreCountsOf counts (events_of entries)
  counting_all base all counts entries [] count now none =
      (sym (append-nil (events_of entries)) ∙ now.rest, now.counted)
  counting_all base all counts entries (e ∷ left) count now none =
      let old = now.count_is in absurd (omega (arith, old, none))
