-- Answers that carry the places of their requests, and the list of their replies in that order.
use Rattle.std.specs.Prelude.{◌≡◌, ℕ, ◌<◌, List, [], ◌∷◌, map, length, slice_get, Option, Some, None}
use Rattle.list_sums.specs.Counts.{total, times, below}
use Rattle.site_core.specs.Each.{Each}
use Rattle.site_batch.specs.declared.answered.Answered.{Answered}

module _ {T : Type 0} where
  -- the places of the requests
  abbrev pub indexes : List (Answered T) → List ℕ
  indexes answers = map (λ a. a.index) answers

  -- each place below the count stands once, and no other does
  abbrev pub AreAll : ℕ → List (Answered T) → Type 0
  AreAll count answers = (i : ℕ) → times i (indexes answers) ≡ below count i

  -- what a count of replies finds in a place
  abbrev pub weigh : (T → ℕ) → Option T → ℕ
  weigh f None = 0
  weigh f (Some reply) = f reply

  -- what stands in the places that are not empty
  abbrev pub somes : List (Option T) → List T
  somes [] = []
  somes (None ∷ slots) = somes slots
  somes (Some reply ∷ slots) = reply ∷ somes slots

  -- these answers stand in their places, and all other places are empty
  pub record AreFilled (count : ℕ) (answers : List (Answered T)) (slots : List (Option T)) : Type 0 where
    pub count_is : length slots ≡ count
    pub at : Each (λ a. slice_get slots a.index ≡ Some (Some a.reply)) answers
    pub others : (i : ℕ) → i < count → times i (indexes answers) ≡ 0 → slice_get slots i ≡ Some None
    pub sums : (f : T → ℕ) → total (weigh f) slots ≡ total (λ a. f a.reply) answers

  -- each answer's reply has the place of its request, and whatever is counted of the replies is counted alike
  pub record AreOrdered (count : ℕ) (answers : List (Answered T)) (replies : List T) : Type 0 where
    pub count_is : length replies ≡ count
    pub at : Each (λ a. slice_get replies a.index ≡ Some a.reply) answers
    pub sums : (f : T → ℕ) → total f replies ≡ total (λ a. f a.reply) answers
