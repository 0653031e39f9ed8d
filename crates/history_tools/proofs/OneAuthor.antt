-- The calls of a history that one author wrote.
use Rattle.std.proofs.Common.{◌≡◌, ℕ, ◌+◌, ◌≤◌, cond, List, [], ◌∷◌, ◌++◌, refl, ap, ◌∙◌, arith}
use Rattle.std.specs.Prelude.{◌==◌}
use Rattle.std.proofs.lemmas.List.Sums.{sum_by-append}
use Rattle.site_core.specs.Events.{Event, opens, publishes, adds, is_by, calls_of}
use Rattle.site_core.specs.Legal.{EachFollows}
use Rattle.site_core.specs.Meaning.{Meaning}
use Rattle.site_core.specs.Resuming.{base_of}
use Rattle.history_tools.specs.OneWorker.{AreCallsFrom, OneAuthorCounts}

module _ {S C F : Type 0} (meaning : Meaning S C F) where
  counts_on : (n : ℕ) (h es : List (Event S)) → calls_of 0 h ≡ n → EachFollows meaning h es → base_of es ≤ 1 →
      AreCallsFrom n es
  counts_on n h [] is each few = tt
  counts_on n h (opens site ∷ es) is each few = absurd each.0
  counts_on n h (publishes p ∷ es) is each few =
      let zero_is : p.author ≡ 0 = omega (arith, few) in
      let sum = sum_by-append (λ x. cond (is_by 0 x) 1 0) h (publishes p ∷ []) in
      let one = ap {B = ℕ} (λ a. cond (a == 0) 1 0) zero_is in (
        zero_is,
        each.0.numbered ∙ ap (λ a. calls_of a h) zero_is ∙ is,
        counts_on (n + 1) (h ++ publishes p ∷ []) es (omega (arith, sum, one, is)) each.1 (omega (arith, few)),
      )
  counts_on n h (adds author call what ∷ es) is each few =
      let zero_is : author ≡ 0 = omega (arith, few) in
      let sum = sum_by-append (λ x. cond (is_by 0 x) 1 0) h (adds author call what ∷ []) in
      let one = ap {B = ℕ} (λ a. cond (a == 0) 1 0) zero_is in (
        zero_is,
        each.0 ∙ ap (λ a. calls_of a h) zero_is ∙ is,
        counts_on (n + 1) (h ++ adds author call what ∷ []) es (omega (arith, sum, one, is)) each.1
            (omega (arith, few)),
      )

  pub one_author : OneAuthorCounts meaning
  one_author site more legal few = counts_on 0 (opens site ∷ []) more refl legal (omega (arith, few))
