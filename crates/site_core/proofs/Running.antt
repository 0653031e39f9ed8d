-- For callers: requests that run go on to do so when the history grows, and with one request more; which entries
-- replies name.
use Rattle.std.proofs.Common.{◌≡◌, ℕ, ◌≤◌, List, [], ◌∷◌, ◌++◌, length, refl, sym, ◌∙◌, ap, subst, arith, append_assoc, append-nil}
use mathlib.Core.List.{IsPrefix}
use Rattle.list_sums.specs.Counts.{total, same, times}
use Rattle.list_sums.proofs.Totals.{total-append}
use Rattle.site_core.specs.Asked.{Asked}
use Rattle.site_core.specs.Meaning.{Meaning}
use Rattle.site_core.specs.Events.{Event}
use Rattle.site_core.specs.Fits.{Listed, Fits, had, named}
use Rattle.site_core.specs.Runs.{had_after, all_named, Runs}
use Rattle.site_core.specs.declared.reply.ReplyOf.{ReplyOf}
use Rattle.site_core.proofs.Fitting.{fits_grows}

module _ {C F : Type 0} where
  pub had_after-push : (s : ℕ) (replies : List (ReplyOf C F)) (reply : ReplyOf C F) →
      had_after s (replies ++ reply ∷ []) ≡ had (had_after s replies) reply
  had_after-push s [] reply = refl
  had_after-push s (first ∷ replies) reply = had_after-push (had s first) replies reply

  pub all_named-append : (first second : List (ReplyOf C F)) →
      all_named (first ++ second) ≡ all_named first ++ all_named second
  all_named-append [] second = refl
  all_named-append (reply ∷ first) second =
      ap (λ entries. named reply ++ entries) (all_named-append first second)
      ∙ sym (append_assoc (named reply) (all_named first) (all_named second))

  pub all_named-snoc : (replies : List (ReplyOf C F)) (reply : ReplyOf C F) →
      all_named (replies ++ reply ∷ []) ≡ all_named replies ++ named reply
  all_named-snoc replies reply =
      all_named-append replies (reply ∷ []) ∙ ap (λ l. all_named replies ++ l) (append-nil (named reply))

  -- how often replies name an entry, as a sum over them
  pub times_named : (entry : ℕ) (replies : List (ReplyOf C F)) →
      times entry (all_named replies) ≡ total (λ reply. times entry (named reply)) replies
  times_named entry [] = refl
  times_named entry (reply ∷ replies) =
      let rest = times_named entry replies in
      let all = total-append (same entry) (named reply) (all_named replies) in
      omega (arith, rest, all)

module _ {S C F : Type 0} (meaning : Meaning S C F) (listed : Listed S) where
  pub runs_grow : (h more : List (Event S)) (limit author s : ℕ) (requests : List (Asked S))
      (replies : List (ReplyOf C F)) → length (h ++ more) ≤ limit →
      Runs meaning listed h limit author s requests replies →
      Runs meaning listed (h ++ more) limit author s requests replies
  runs_grow h more limit author s [] [] within runs = runs
  runs_grow h more limit author s (asked ∷ requests) (reply ∷ replies) within (fits, runs) = (
    fits_grows meaning listed h more limit author s asked reply within fits,
    runs_grow h more limit author (had s reply) requests replies within runs,
  )
  runs_grow h more limit author s [] (reply ∷ replies) within runs = runs
  runs_grow h more limit author s (asked ∷ requests) [] within runs = runs

  -- the same under a history that begins so
  pub runs_under : (h now : List (Event S)) (limit author s : ℕ) (requests : List (Asked S))
      (replies : List (ReplyOf C F)) → IsPrefix h now → length now ≤ limit →
      Runs meaning listed h limit author s requests replies → Runs meaning listed now limit author s requests replies
  runs_under h now limit author s requests replies p few runs =
      subst (λ l. Runs meaning listed l limit author s requests replies) p.1
      (runs_grow h p.0 limit author s requests replies (omega (arith, ap length p.1, few)) runs)

  pub runs_push : (h : List (Event S)) (limit author s : ℕ) (requests : List (Asked S)) (replies : List (ReplyOf C F))
      (asked : Asked S) (reply : ReplyOf C F) → Runs meaning listed h limit author s requests replies →
      Fits meaning listed h limit author (had_after s replies) asked reply →
      Runs meaning listed h limit author s (requests ++ asked ∷ []) (replies ++ reply ∷ [])
  runs_push h limit author s [] [] asked reply runs fits = (fits, tt)
  runs_push h limit author s (a ∷ requests) (r ∷ replies) asked reply (first, runs) fits =
      (first, runs_push h limit author (had s r) requests replies asked reply runs fits)
  runs_push h limit author s [] (r ∷ replies) asked reply runs fits = absurd runs
  runs_push h limit author s (a ∷ requests) [] asked reply runs fits = absurd runs
