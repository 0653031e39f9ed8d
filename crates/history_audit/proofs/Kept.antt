-- What is kept of the entries that were looked at, when one more is.
use Rattle.std.proofs.Common.{◌≡◌, ◌⊎◌, inl, inr, ℕ, zero, suc, ◌+◌, ◌-◌, ◌≤◌, cond, List, [], ◌∷◌, ◌++◌, length, Option, None, Some, refl, sym, ap, ◌∙◌, subst, arith, Bor}
use Rattle.std.specs.Prelude.{slice_get, option_copied, IfSome}
use Rattle.std.specs.Arc.{arc_value}
use Rattle.std.specs.BTreeMap.{BTreeMap}
use Rattle.std.specs.FinMap as fin
use Rattle.std.proofs.lemmas.List.{length-append}
use Rattle.std.proofs.lemmas.Option.{slice_get_within}
use Rattle.std.proofs.lemmas.List.Sums.{sum_by-append}
use Rattle.site_core.specs.Counts.{count_in, AreCountsOf}
use Rattle.site_core.specs.Events.{Event, opens, is_by, calls_of}
use Rattle.site_core.specs.Sets.{sets_after, site_after}
use Rattle.site_core.proofs.Sets.{sets_at-append, site_at-append, sets_at-push, site_at-push}
use Rattle.history_audit.specs.Pasts.{IsAfter, Keeps}
use Rattle.history_audit.specs.declared.past.Past.{Past}
use Rattle.history_audit.specs.declared.stage.Stage.{Stage}

-- an element of a list with one more is one of the list, or that one
pushed : {A : Type 0} (xs : List A) (y t : A) (i : ℕ) → slice_get (xs ++ y ∷ []) i ≡ Some t →
    (slice_get xs i ≡ Some t) ⊎ ((i ≡ length xs) × (y ≡ t))
pushed [] y t zero is = inr (refl, cc)
pushed [] y t (suc i) is = absurd cc
pushed (x ∷ xs) y t zero is = inl is
pushed (x ∷ xs) y t (suc i) is = elim (pushed xs y t i is) as (λ _. (slice_get (x ∷ xs) (suc i) ≡ Some t)
    ⊎ ((suc i ≡ length (x ∷ xs)) × (y ≡ t))) [ inl there ↦ inl there | inr last ↦ inr (ap suc last.0, last.1) ]

one_longer : {A : Type 0} (xs : List A) (x : A) → length (xs ++ x ∷ []) ≡ suc (length xs)
one_longer xs x = omega (arith, length-append xs (x ∷ []))

module _ {S : Type 0} where
  calls_of-push : (author : ℕ) (h : List (Event S)) (e : Event S) →
      calls_of author (h ++ e ∷ []) ≡ calls_of author h + cond (is_by author e) 1 0
  calls_of-push author h e =
      let split = sum_by-append (λ x. cond (is_by author x) 1 0) h (e ∷ []) in omega (arith, split)

  counted_next : (old new : BTreeMap ℕ ℕ) (h : List (Event S)) (e : Event S) → AreCountsOf old h →
      ((author : ℕ) → count_in new author ≡ count_in old author + cond (is_by author e) 1 0) →
      AreCountsOf new (h ++ e ∷ [])
  counted_next old new h e counted raised author =
      raised author ∙ ap (λ n. n + cond (is_by author e) 1 0) (counted author) ∙ sym (calls_of-push author h e)

  -- what the first entries come to stays when one more comes
  after_stays : (s : Stage S) (h : List (Event S)) (e : Event S) (k : ℕ) → k ≤ length h → IsAfter s h k →
      IsAfter s (h ++ e ∷ []) k
  after_stays s h e k within after = record {
    sets = after.sets ∙ sym (sets_at-append h (e ∷ []) k within);
    site = site_at-append h (e ∷ []) k within ∙ after.site;
  }

  -- and what all come to goes on by that one
  after_next : (s next : Stage S) (h : List (Event S)) (e : Event S) → IsAfter s h (length h) →
      next.version ≡ sets_after s.version e → arc_value next.site ≡ site_after (arc_value s.site) e →
      IsAfter next (h ++ e ∷ []) (suc (length h))
  after_next s next h e after sets site =
      subst (IsAfter next (h ++ e ∷ [])) (one_longer h e) (record {
        sets = sets ∙ ap (λ v. sets_after v e) after.sets ∙ sym (sets_at-push h e);
        site = site_at-push h e (arc_value s.site) after.site ∙ ap Some (sym site);
      })

  -- one entry, which opens a site
  pub keeps_opened : (past : Past S) (s : Stage S) (site : S) → ((author : ℕ) → count_in past.counts author ≡ 0) →
      past.stages.items ≡ s ∷ [] → arc_value s.site ≡ site → s.version ≡ fin.empty → Keeps past (opens site ∷ [])
  keeps_opened past s site none one is empty =
      record {
        some = omega arith;
        counted = none;
        number = ap length one;
        shown = λ i t at. alone i t (subst (λ xs. slice_get xs i ≡ Some t) one at);
      }
    where
      alone : (i : ℕ) (t : Stage S) → slice_get (s ∷ []) i ≡ Some t → IsAfter t (opens site ∷ []) (suc i)
      alone zero t at = let same : s ≡ t = cc in
          subst (λ x. IsAfter x (opens site ∷ []) 1) same (record { sets = empty; site = ap Some (sym is) })
      alone (suc i) t at = absurd cc

  -- one more entry
  pub keeps_next : (old new : Past S) (s next : Stage S) (h : List (Event S)) (e : Event S) → Keeps old h →
      slice_get old.stages.items (length old.stages.items - 1) ≡ Some s →
      ((author : ℕ) → count_in new.counts author ≡ count_in old.counts author + cond (is_by author e) 1 0) →
      new.stages.items ≡ old.stages.items ++ next ∷ [] →
      next.version ≡ sets_after s.version e → arc_value next.site ≡ site_after (arc_value s.site) e →
      Keeps new (h ++ e ∷ [])
  keeps_next old new s next h e keeps last raised grown sets site =
      record {
        some = let more = one_longer h e in omega (arith, more);
        counted = counted_next old.counts new.counts h e keeps.counted raised;
        number = ap length grown ∙ one_longer old.stages.items next ∙ ap suc keeps.number ∙ sym (one_longer h e);
        shown = λ i t at. either i t
            (pushed old.stages.items next t i (subst (λ xs. slice_get xs i ≡ Some t) grown at));
      }
    where
      all : suc (length old.stages.items - 1) ≡ length h
      all = let some = keeps.some in let number = keeps.number in omega (arith, some, number)

      either : (i : ℕ) (t : Stage S) →
          (slice_get old.stages.items i ≡ Some t) ⊎ ((i ≡ length old.stages.items) × (next ≡ t)) →
          IsAfter t (h ++ e ∷ []) (suc i)
      either i t (inl there) =
          let within = slice_get_within old.stages.items i t there in let number = keeps.number in
          after_stays t h e (suc i) (omega (arith, within, number)) (keeps.shown i t there)
      either i t (inr last_one) =
          let place : suc (length h) ≡ suc i = ap suc (sym keeps.number ∙ sym last_one.0) in
          subst (λ x. IsAfter x (h ++ e ∷ []) (suc i)) last_one.1
          (subst (IsAfter next (h ++ e ∷ [])) place
          (after_next s next h e (subst (IsAfter s h) all (keeps.shown (length old.stages.items - 1) s last)) sets
          site))

  -- the stage that was found at a place is the one after that many entries and one
  pub stage_shown : (past : Past S) (h : List (Event S)) (found : Option (Bor (Stage S))) (k place : ℕ) →
      suc place ≡ k → option_copied found ≡ slice_get past.stages.items place → Keeps past h →
      IfSome found (λ s. IsAfter s.now h k)
  stage_shown past h None k place is at keeps = tt
  stage_shown past h (Some s) k place is at keeps = subst (IsAfter s.now h) is (keeps.shown place s.now (sym at))
