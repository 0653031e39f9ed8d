-- The calls of some authors, in a front and in a list that has one entry more.
use Rattle.std.proofs.Common.{◌≡◌, ℕ, ◌+◌, ◌<◌, ◌≤◌, List, [], ◌∷◌, ◌++◌, length, Option, Some, None, slice_get, refl, ap, sym, subst, ◌∙◌, arith, All, length-append}
use mathlib.Core.List.{IsPrefix}
use mathlib.Core.Logic.{dite}
use native.Mathlib.Decide.{ℕ_discrete, dec_le}
use Rattle.std.proofs.lemmas.Option.{slice_get_past, slice_get_within, get_or_from_slice_get}
use Rattle.list_sums.specs.Counts.{same, times}
use Rattle.hist_lock.specs.Calls.{stands, wrote, AreCalls}
use Rattle.list_sums.proofs.Totals.{total-append}
use Rattle.list_sums.proofs.Marks.{same_yes, same_no}
use Rattle.hist_lock.proofs.Fronts.{at_front, at_append, at_end}

-- Calls that stand before a place
abbrev pub Before : List ℕ → ℕ → Type 0
Before calls limit = (k : ℕ) → 0 < times k calls → k < limit

pub times_none : (calls : List ℕ) (limit k : ℕ) → Before calls limit → limit ≤ k → times k calls ≡ 0
times_none calls limit k h le = dite (dec_le 1 (times k calls)) (λ y. absurd (omega (arith, h k y))) (λ n. omega arith)

stands_both : (xs ys : List ℕ) (o : Option ℕ) → stands (xs ++ ys) o ≡ stands xs o + stands ys o
stands_both xs ys None = refl
stands_both xs ys (Some a) = total-append (same a) xs ys

-- whoever is no author yet wrote nothing
stands_new : (new : ℕ) (o : Option ℕ) → ((a : ℕ) → o ≡ Some a → a < new) → stands (new ∷ []) o ≡ 0
stands_new new None h = refl
stands_new new (Some a) h = omega (arith, same_no a new (λ e. absurd (omega (arith, h a refl))))

stands_nobody : (o : Option ℕ) → stands [] o ≡ 0
stands_nobody None = refl
stands_nobody (Some a) = refl

module _ {E : Type 0} (author : E → Option ℕ) where
  pub calls_front : (calls numbers : List ℕ) (front now : List E) → IsPrefix front now → Before calls (length front) → AreCalls author calls numbers now → AreCalls author calls numbers front
  calls_front calls numbers front now p before h k =
      dite (dec_le (length front) k) (λ past. times_none calls (length front) k before past ∙ ap (wrote author numbers) (sym (slice_get_past front k past)))
      (λ inside. h k ∙ ap (wrote author numbers) (at_front front now k p (omega arith)))

  past_end : (now : List E) (e : E) (numbers : List ℕ) (k : ℕ) → length now < k → wrote author numbers (slice_get (now ++ e ∷ []) k) ≡ 0
  past_end now e numbers k lt = ap (wrote author numbers) (slice_get_past (now ++ e ∷ []) k (omega (arith, length-append now (e ∷ []))))

  -- an entry of another author changes no calls
  pub calls_kept : (calls numbers : List ℕ) (now : List E) (e : E) → Before calls (length now) → stands numbers (author e) ≡ 0 → AreCalls author calls numbers now → AreCalls author calls numbers (now ++ e ∷ [])
  calls_kept calls numbers now e before other h k =
      dite (ℕ_discrete k (length now)) (λ at. times_none calls (length now) k before (omega arith) ∙ sym (ap (wrote author numbers) (at_end now e k at) ∙ other))
      (λ ne. dite (dec_le (length now) k) (λ past. times_none calls (length now) k before past ∙ sym (past_end now e numbers k (omega arith)))
      (λ inside. h k ∙ ap (wrote author numbers) (sym (at_append now (e ∷ []) k (omega arith)))))

  -- an entry of one of the authors is one call more
  pub calls_added : (calls numbers : List ℕ) (now : List E) (e : E) → Before calls (length now) → stands numbers (author e) ≡ 1 → AreCalls author calls numbers now
      → AreCalls author (calls ++ length now ∷ []) numbers (now ++ e ∷ [])
  calls_added calls numbers now e before one h k =
      let sum = total-append (same k) calls (length now ∷ []) in
      dite (ℕ_discrete k (length now))
      (λ at. let w : wrote author numbers (slice_get (now ++ e ∷ []) k) ≡ 1 = ap (wrote author numbers) (at_end now e k at) ∙ one in
      omega (arith, sum, same_yes k (length now) at, times_none calls (length now) k before (omega arith), w))
      (λ ne. let zero_here = same_no k (length now) ne in
      dite (dec_le (length now) k) (λ past. omega (arith, sum, zero_here, times_none calls (length now) k before past, past_end now e numbers k (omega arith)))
      (λ inside. let w : wrote author numbers (slice_get (now ++ e ∷ []) k) ≡ wrote author numbers (slice_get now k) = ap (wrote author numbers) (at_append now (e ∷ []) k (omega arith)) in
      omega (arith, sum, zero_here, h k, w)))

  wrote_both : (xs ys : List ℕ) (o : Option E) → wrote author (xs ++ ys) o ≡ wrote author xs o + wrote author ys o
  wrote_both xs ys None = refl
  wrote_both xs ys (Some e) = stands_both xs ys (author e)

  pub calls_joined : (calls more xs ys : List ℕ) (now : List E) → AreCalls author calls xs now → AreCalls author more ys now → AreCalls author (calls ++ more) (xs ++ ys) now
  calls_joined calls more xs ys now h g k = omega (arith, total-append (same k) calls more, wrote_both xs ys (slice_get now k), h k, g k)

  wrote_new : (new : ℕ) (o : Option E) → ((e : E) (a : ℕ) → o ≡ Some e → author e ≡ Some a → a < new) → wrote author (new ∷ []) o ≡ 0
  wrote_new new None h = refl
  wrote_new new (Some e) h = stands_new new (author e) (λ a is. h e a refl is)

  pub calls_new : (new : ℕ) (now : List E) → ((k : ℕ) (e : E) (a : ℕ) → slice_get now k ≡ Some e → author e ≡ Some a → a < new) → AreCalls author [] (new ∷ []) now
  calls_new new now h k = sym (wrote_new new (slice_get now k) (h k))

  wrote_nobody : (o : Option E) → wrote author [] o ≡ 0
  wrote_nobody None = refl
  wrote_nobody (Some e) = stands_nobody (author e)

  pub calls_nobody : (now : List E) → AreCalls author [] [] now
  calls_nobody now k = sym (wrote_nobody (slice_get now k))

  pub at_all : (P : E → Type 0) (xs : List E) (k : ℕ) (e : E) → All P xs → slice_get xs k ≡ Some e → P e
  at_all P xs k e h is = subst P (get_or_from_slice_get xs k e e is) (h k e (slice_get_within xs k e is))
