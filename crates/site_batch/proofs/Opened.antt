-- Places that are all filled, taken as the list of what they hold.
use Rattle.std.proofs.Common.{◌≡◌, ℕ, zero, suc, ◌<◌, List, [], ◌∷◌, map, length, slice_get, Option, Some, None, refl, sym, ap, ◌∙◌, subst, arith}
use Rattle.list_sums.specs.Counts.{total, times}
use Rattle.list_sums.proofs.Marks.{below_yes}
use Rattle.site_batch.specs.declared.answered.Answered.{Answered}
use Rattle.site_core.specs.Each.{Each}
use Rattle.site_batch.specs.Answers.{indexes, AreAll, weigh, somes, AreFilled, AreOrdered}
use native.Mathlib.Decide.{ℕ_discrete}
use mathlib.Core.Logic.{dite}
use Rattle.list_sums.proofs.Marks.{same_no}

module _ {T : Type 0} where
  -- each place holds something
  abbrev AreHeld : List (Option T) → Type 0
  AreHeld slots = (i : ℕ) → i < length slots → (reply : T) × (slice_get slots i ≡ Some (Some reply))

  -- a place that stands among those of the answers is that of one of them
  answer_at : (P : Answered T → Type 0) (answers : List (Answered T)) (i : ℕ) → 0 < times i (indexes answers) → Each P answers →
      (a : Answered T) × (a.index ≡ i) × P a
  answer_at P [] i stands each = absurd (omega (arith, stands))
  answer_at P (a ∷ answers) i stands each = dite (ℕ_discrete i a.index)
      (λ is. (a, sym is, each.0))
      (λ apart. let mark = same_no i a.index apart in answer_at P answers i (omega (arith, stands, mark)) each.1)

  all_held : (count : ℕ) (answers : List (Answered T)) (slots : List (Option T)) → AreAll count answers →
      AreFilled count answers slots → AreHeld slots
  all_held count answers slots each filled i inside =
      let mark = below_yes count i (omega (arith, inside, filled.count_is)) in
      let found = answer_at (λ a. slice_get slots a.index ≡ Some (Some a.reply)) answers i
      (omega (arith, each i, mark)) filled.at in
      (found.0.reply, ap (λ k. slice_get slots k) (sym found.1) ∙ found.2)

  -- then what they hold is all of them
  held_all : (slots : List (Option T)) → AreHeld slots → map Some (somes slots) ≡ slots
  held_all [] held = refl
  held_all (None ∷ slots) held = let first = held 0 (omega arith) in absurd (cc first.1)
  held_all (Some reply ∷ slots) held =
      ap (λ l. Some reply ∷ l) (held_all slots (λ i inside. held (suc i) (omega (arith, inside))))

  map_length : (xs : List T) → length (map Some xs) ≡ length xs
  map_length [] = refl
  map_length (x ∷ xs) = let rest = map_length xs in omega (arith, rest)

  map_at : (xs : List T) (i : ℕ) (x : T) → slice_get (map Some xs) i ≡ Some (Some x) → slice_get xs i ≡ Some x
  map_at [] i x at = absurd cc
  map_at (y ∷ xs) zero x at = let is : y ≡ x = cc in ap Some is
  map_at (y ∷ xs) (suc i) x at = map_at xs i x at

  map_total : (f : T → ℕ) (xs : List T) → total (weigh f) (map Some xs) ≡ total f xs
  map_total f [] = refl
  map_total f (x ∷ xs) = let rest = map_total f xs in omega (arith, rest)

  at_replies : (slots : List (Option T)) → map Some (somes slots) ≡ slots → (answers : List (Answered T)) →
      Each (λ a. slice_get slots a.index ≡ Some (Some a.reply)) answers →
      Each (λ a. slice_get (somes slots) a.index ≡ Some a.reply) answers
  at_replies slots is [] at = tt
  at_replies slots is (a ∷ answers) at =
      (map_at (somes slots) a.index a.reply (ap (λ l. slice_get l a.index) is ∙ at.0), at_replies slots is answers at.1)

  pub ordered : (count : ℕ) (answers : List (Answered T)) (slots : List (Option T)) (replies : List T) → AreAll count answers →
      AreFilled count answers slots → replies ≡ somes slots → AreOrdered count answers replies
  ordered count answers slots replies each filled is =
      let held = held_all slots (all_held count answers slots each filled) in
      subst (AreOrdered count answers) (sym is) (record {
        count_is = sym (map_length (somes slots)) ∙ ap length held ∙ filled.count_is;
        at = at_replies slots held answers filled.at;
        sums = λ f. sym (map_total f (somes slots)) ∙ ap (total (weigh f)) held ∙ filled.sums f;
      })
