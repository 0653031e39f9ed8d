-- Which entries are whose, where passes of one author each made all entries that have an author.
use Rattle.std.proofs.Common.{◌≡◌, ℕ, ◌≤◌, List, [], ◌∷◌, length, slice_get, Option, Some, None, refl, ap, arith}
use mathlib.Core.Logic.{dite}
use native.Mathlib.Decide.{dec_le}
use mathlib.Core.List.{IsPrefix}
use Rattle.std.proofs.lemmas.Option.{slice_get_past}
use Rattle.list_sums.specs.Counts.{total, times, same}
use Rattle.hist_lock.specs.Calls.{stands, count_author, wrote, has_author, AreCalls}
use Rattle.hist_lock.proofs.Fronts.{at_front}
use Rattle.site_core.specs.Each.{Each}

module _ {A : Type 0} where
  total_le : (f g : A → ℕ) (xs : List A) → Each (λ x. f x ≤ g x) xs → total f xs ≤ total g xs
  total_le f g [] each = omega arith
  total_le f g (x ∷ xs) each = let rest = total_le f g xs each.1 in omega (arith, rest, each.0)

  -- terms that are no greater, and have no smaller sum, are the same
  squeezed : (f g : A → ℕ) (xs : List A) → Each (λ x. f x ≤ g x) xs → total g xs ≤ total f xs →
      Each (λ x. f x ≡ g x) xs
  squeezed f g [] each le = tt
  squeezed f g (x ∷ xs) each le =
      let rest = total_le f g xs each.1 in
      (omega (arith, rest, each.0, le), squeezed f g xs each.1 (omega (arith, rest, each.0, le)))

  total_none : (xs : List A) → total (λ _. 0) xs ≡ 0
  total_none [] = refl
  total_none (x ∷ xs) = let rest = total_none xs in omega (arith, rest)

  -- how many of these have this number
  abbrev pub count_with : (A → ℕ) → ℕ → List A → ℕ
  count_with number a xs = total (λ x. same a (number x)) xs

  stand_alike : (number : A → ℕ) (a : ℕ) (xs : List A) →
      total (λ x. stands (number x ∷ []) (Some a)) xs ≡ count_with number a xs
  stand_alike number a [] = refl
  stand_alike number a (x ∷ xs) = let rest = stand_alike number a xs in omega (arith, rest)

  few_stand : (number : A → ℕ) (who : Option ℕ) (xs : List A) → ((a : ℕ) → count_with number a xs ≤ 1) →
      total (λ x. stands (number x ∷ []) who) xs ≤ count_author who
  few_stand number None xs apart = let none = total_none xs in omega (arith, none)
  few_stand number (Some a) xs apart = let alike = stand_alike number a xs in omega (arith, apart a, alike)

module _ {E : Type 0} (author : E → Option ℕ) where
  -- calls within a front are calls within the whole, and may be fewer
  pub calls_within : (own : List ℕ) (a : ℕ) (front h : List E) → AreCalls author own (a ∷ []) front → IsPrefix front h →
      (k : ℕ) → times k own ≤ wrote author (a ∷ []) (slice_get h k)
  calls_within own a front h are begins k = dite (dec_le (length front) k)
      (λ past. let none : wrote author (a ∷ []) (slice_get front k) ≡ 0 =
      ap (wrote author (a ∷ [])) (slice_get_past front k past) in
      omega (arith, are k, none))
      (λ inside. let here : wrote author (a ∷ []) (slice_get h k) ≡ wrote author (a ∷ []) (slice_get front k) =
      ap (wrote author (a ∷ [])) (at_front front h k begins (omega (arith, inside))) in omega (arith, are k, here))

  pub has_one : (e : Option E) → has_author author e ≤ 1
  has_one None = omega arith
  has_one (Some e) = at_most (author e)
    where
      at_most : (who : Option ℕ) → count_author who ≤ 1
      at_most None = omega arith
      at_most (Some a) = omega arith

  module _ {A : Type 0} (number : A → ℕ) (own : A → List ℕ) where
    few_wrote : (xs : List A) (e : Option E) → ((a : ℕ) → count_with number a xs ≤ 1) →
        total (λ x. wrote author (number x ∷ []) e) xs ≤ has_author author e
    few_wrote xs None apart = let none = total_none xs in omega (arith, none)
    few_wrote xs (Some e) apart = few_stand number (author e) xs apart

    abbrev pub OwnsWithin : List E → List A → Type 0
    OwnsWithin h xs = Each (λ x. (k : ℕ) → times k (own x) ≤ wrote author (number x ∷ []) (slice_get h k)) xs

    at_place : (h : List E) (k : ℕ) (xs : List A) → OwnsWithin h xs →
        Each (λ x. times k (own x) ≤ wrote author (number x ∷ []) (slice_get h k)) xs
    at_place h k [] within = tt
    at_place h k (x ∷ xs) within = (within.0 k, at_place h k xs within.1)

    -- An entry is owned exactly by its author's pass, where the passes have an author each, no two the same one, own no
    -- entry of another's, and together own the entry if it has an author.
    pub exactly_own : (xs : List A) (h : List E) → ((a : ℕ) → count_with number a xs ≤ 1) → OwnsWithin h xs → (k : ℕ) →
        has_author author (slice_get h k) ≤ total (λ x. times k (own x)) xs →
        Each (λ x. times k (own x) ≡ wrote author (number x ∷ []) (slice_get h k)) xs
    exactly_own xs h apart within k all =
        squeezed (λ x. times k (own x)) (λ x. wrote author (number x ∷ []) (slice_get h k)) xs (at_place h k xs within)
        (let few = few_wrote xs (slice_get h k) apart in omega (arith, few, all))

    -- and so where none of them made it
    pub none_own : (xs : List A) (h : List E) → OwnsWithin h xs → (k : ℕ) →
        Each (λ x. wrote author (number x ∷ []) (slice_get h k) ≡ 0) xs →
        Each (λ x. times k (own x) ≡ wrote author (number x ∷ []) (slice_get h k)) xs
    none_own [] h within k none = tt
    none_own (x ∷ xs) h within k none = let few = within.0 k in (omega (arith, few, none.0), none_own xs h within.1 k none.1)
