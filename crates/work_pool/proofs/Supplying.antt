-- One more job was given, and its result stands behind those of the jobs after it.
use Rattle.std.proofs.Common.{◌≡◌, ◌≢◌, ℕ, zero, suc, ◌-◌, List, [], ◌∷◌, ◌++◌, reverse, Some, None, refl, sym, ap, ◌∙◌, subst, append_assoc, append-nil, arith}
use Rattle.std.proofs.lemmas.List.{reverse-append}
use Rattle.std.specs.Prelude.{Option}
use Rattle.work_pool.specs.Supplied.{HasStacked}

module _ {S J O : Type 0} (gives : S → Option J → S → Type 0) (promise : J → O → Type 0) where
  pub none_wanted : (most : ℕ) (s : S) (results : List O) → most ≡ 0 → HasStacked gives promise most s results results s
  none_wanted most s results is =
      subst (λ n. HasStacked gives promise n s results results s) (sym is)
      (record { results = []; run = record { jobs = []; supplied = refl; kept = tt }; after_is = sym (append-nil results) })

  pub none_came : (most : ℕ) (s s' : S) (results : List O) → most ≢ 0 → gives s None s' → HasStacked gives promise most s results results s'
  none_came zero s s' results some given = absurd (some refl)
  none_came (suc most) s s' results some given =
      record { results = []; run = record { jobs = []; supplied = given; kept = tt }; after_is = sym (append-nil results) }

  -- a result that stands first is the last of the others the other way round
  reversed_first : (result : O) (results before : List O) → (before ++ reverse results) ++ result ∷ [] ≡ before ++ reverse (result ∷ results)
  reversed_first result results before =
      append_assoc before (reverse results) (result ∷ []) ∙ ap (λ l. before ++ l) (sym (reverse-append (result ∷ []) results))

  pub one_came : (most : ℕ) (s t s' : S) (job : J) (result : O) (before between after : List O) → most ≢ 0 → gives s (Some job) t →
      promise job result → HasStacked gives promise (most - 1) t before between s' → after ≡ between ++ result ∷ [] →
      HasStacked gives promise most s before after s'
  one_came zero s t s' job result before between after some given kept came is = absurd (some refl)
  one_came (suc most) s t s' job result before between after some given kept came is =
      let fewer : suc most - 1 ≡ most = omega arith in
      let others = subst (λ n. HasStacked gives promise n t before between s') fewer came in record {
        results = result ∷ others.results;
        run = record { jobs = job ∷ others.run.jobs; supplied = (t, given, others.run.supplied); kept = (kept, others.run.kept) };
        after_is = is ∙ ap (λ l. l ++ result ∷ []) others.after_is ∙ reversed_first result others.results before;
      }
