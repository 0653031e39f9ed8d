-- Places that are filled one after another.
use Rattle.std.proofs.Common.{◌≡◌, ◌≢◌, ℕ, zero, suc, ◌+◌, ◌<◌, List, [], ◌∷◌, ◌++◌, length, replicate, set, slice_get, Option, Some, None, refl, sym, ap, ◌∙◌, arith, append_assoc}
use Rattle.list_sums.specs.Counts.{total, times, below}
use Rattle.list_sums.proofs.Marks.{same_yes, below_lt, below_le}
use Rattle.site_batch.specs.declared.answered.Answered.{Answered}
use Rattle.site_core.specs.Each.{Each}
use Rattle.site_batch.specs.Answers.{indexes, AreAll, weigh, AreFilled}
use native.Mathlib.Decide.{ℕ_discrete}
use mathlib.Core.Logic.{dite}

module _ {X : Type 0} where
  set_here : (xs : List X) (i : ℕ) (x : X) → i < length xs → slice_get (set xs i x) i ≡ Some x
  set_here [] i x inside = absurd (omega (arith, inside))
  set_here (y ∷ ys) zero x inside = refl
  set_here (y ∷ ys) (suc i) x inside = set_here ys i x (omega (arith, inside))

  set_there : (xs : List X) (i j : ℕ) (x : X) → j ≢ i → slice_get (set xs i x) j ≡ slice_get xs j
  set_there [] i j x apart = refl
  set_there (y ∷ ys) zero zero x apart = absurd (apart refl)
  set_there (y ∷ ys) zero (suc j) x apart = refl
  set_there (y ∷ ys) (suc i) zero x apart = refl
  set_there (y ∷ ys) (suc i) (suc j) x apart = set_there ys i j x (λ is. apart (ap suc is))

  set_length : (xs : List X) (i : ℕ) (x : X) → length (set xs i x) ≡ length xs
  set_length [] i x = refl
  set_length (y ∷ ys) zero x = refl
  set_length (y ∷ ys) (suc i) x = let rest = set_length ys i x in omega (arith, rest)

  set_total : (f : X → ℕ) (xs : List X) (i : ℕ) (old x : X) → slice_get xs i ≡ Some old →
      total f (set xs i x) + f old ≡ total f xs + f x
  set_total f [] i old x at = absurd cc
  set_total f (y ∷ ys) zero old x at = let is : y ≡ old = cc in let same = ap f is in omega (arith, same)
  set_total f (y ∷ ys) (suc i) old x at = let rest = set_total f ys i old x at in omega (arith, rest)

  pub replicate_more : (n : ℕ) (x : X) → replicate n x ++ x ∷ [] ≡ replicate (suc n) x
  replicate_more zero x = refl
  replicate_more (suc n) x = ap (λ l. x ∷ l) (replicate_more n x)

  replicate_length : (n : ℕ) (x : X) → length (replicate n x) ≡ n
  replicate_length zero x = refl
  replicate_length (suc n) x = let rest = replicate_length n x in omega (arith, rest)

  replicate_at : (n i : ℕ) (x : X) → i < n → slice_get (replicate n x) i ≡ Some x
  replicate_at zero i x inside = absurd (omega (arith, inside))
  replicate_at (suc n) zero x inside = refl
  replicate_at (suc n) (suc i) x inside = replicate_at n i x (omega (arith, inside))

  replicate_total : (f : X → ℕ) (n : ℕ) (x : X) → f x ≡ 0 → total f (replicate n x) ≡ 0
  replicate_total f zero x none = refl
  replicate_total f (suc n) x none = let rest = replicate_total f n x none in omega (arith, rest, none)

module _ {T : Type 0} where
  -- at first all places are empty
  pub none_filled : (count : ℕ) (slots : List (Option T)) → slots ≡ replicate count None → AreFilled count [] slots
  none_filled count slots is = record {
    count_is = ap length is ∙ replicate_length count None;
    at = tt;
    others = λ i inside none. ap (λ s. slice_get s i) is ∙ replicate_at count i None inside;
    sums = λ f. ap (total (weigh f)) is ∙ replicate_total (weigh f) count None refl;
  }

  -- answers that stand at other places stay
  still_at : (slots : List (Option T)) (i : ℕ) (reply : T) (answers : List (Answered T)) → times i (indexes answers) ≡ 0 →
      Each (λ a. slice_get slots a.index ≡ Some (Some a.reply)) answers →
      Each (λ a. slice_get (set slots i (Some reply)) a.index ≡ Some (Some a.reply)) answers
  still_at slots i reply [] none at = tt
  still_at slots i reply (a ∷ answers) none at = (
    set_there slots i a.index (Some reply) (λ is. let mark = same_yes i a.index (sym is) in omega (arith, none, mark)) ∙ at.0,
    still_at slots i reply answers (omega (arith, none)) at.1,
  )

  pub indexes-append : (xs ys : List (Answered T)) (i : ℕ) → times i (indexes (xs ++ ys)) ≡ times i (indexes xs) + times i (indexes ys)
  indexes-append [] ys i = omega arith
  indexes-append (x ∷ xs) ys i = let rest = indexes-append xs ys i in omega (arith, rest)

  -- the place of an answer that is taken is one of all, and none of those before it had it
  pub place_of : (count : ℕ) (all rest done : List (Answered T)) (a : Answered T) → AreAll count all → all ≡ rest ++ a ∷ done →
      (a.index < count) × (times a.index (indexes done) ≡ 0)
  place_of count all rest done a each is =
      let here : times a.index (indexes (rest ++ a ∷ done)) ≡ below count a.index =
      ap (λ l. times a.index (indexes l)) (sym is) ∙ each a.index in
      let parts = indexes-append rest (a ∷ done) a.index in
      let mark = same_yes a.index a.index refl in (
        below_lt count a.index (omega (arith, here, parts, mark)),
        omega (arith, here, parts, mark, below_le count a.index),
      )

  -- the last of those that are left is taken
  pub taken : (all now rest done : List (Answered T)) (a : Answered T) → all ≡ now ++ done → now ≡ rest ++ a ∷ [] →
      all ≡ rest ++ a ∷ done
  taken all now rest done a is last = is ∙ ap (λ l. l ++ done) last ∙ append_assoc rest (a ∷ []) done

  pub one_filled : (count : ℕ) (all rest done : List (Answered T)) (a : Answered T) (slots : List (Option T)) →
      AreAll count all → all ≡ rest ++ a ∷ done → AreFilled count done slots →
      AreFilled count (a ∷ done) (set slots a.index (Some a.reply))
  one_filled count all rest done a slots each is filled =
      let place = place_of count all rest done a each is in
      let inside : a.index < length slots = omega (arith, place.0, filled.count_is) in
      let empty = filled.others a.index place.0 place.1 in
      record {
        count_is = set_length slots a.index (Some a.reply) ∙ filled.count_is;
        at = (set_here slots a.index (Some a.reply) inside, still_at slots a.index a.reply done place.1 filled.at);
        others = λ i low none. dite (ℕ_discrete i a.index)
            (λ here. let mark = same_yes i a.index here in absurd (omega (arith, none, mark)))
            (λ apart. set_there slots a.index i (Some a.reply) apart ∙ filled.others i low (omega (arith, none)));
        sums = λ f. let step = set_total (weigh f) slots a.index None (Some a.reply) empty in
            let before = filled.sums f in omega (arith, step, before);
      }
