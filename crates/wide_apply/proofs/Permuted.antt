-- Two lists of the same, in each of which nothing stands twice, are one list in two orders.
use Rattle.std.proofs.Common.{◌≡◌, ◌⊎◌, ◌↔◌, ℕ, zero, suc, ◌<◌, List, [], ◌∷◌, ◌++◌, Some, Contains, slice_get, inl, inr}
use Rattle.std.proofs.Common.{refl, sym, subst, ap, ◌∙◌, arith, append_assoc}
use Rattle.std.specs.List.Sorted.{IsPermutation}
use Rattle.std.proofs.lemmas.List.Elements.{Contains-append_left, Contains-append_right, Contains-append_cases}
use Rattle.std.proofs.lemmas.List.Sorted.{IsPermutation-refl, IsPermutation-trans, IsPermutation-append_comm}
use Rattle.std.proofs.lemmas.List.Sorted.{IsPermutation-append_left, IsPermutation-append_right}
use Rattle.std.proofs.lemmas.Option.{slice_get-get_or}
use Rattle.agent_transaction.proofs.TaskOrders.{none_in, in_front, in_rest, in_cases}

module _ {X : Type 0} where
  -- nothing stands twice
  abbrev pub Apart : List X → Type 0
  Apart [] = Unit {0}
  Apart (x ∷ xs) = ((y : X) → Contains xs y → ¬ (x ≡ y)) × Apart xs

  -- where no place has what another one has
  pub apart_by_places : (xs : List X) →
      ((k j : ℕ) (x : X) → slice_get xs k ≡ Some x → slice_get xs j ≡ Some x → k ≡ j) → Apart xs
  apart_by_places [] one = tt
  apart_by_places (x ∷ xs) one = (
    λ y c same.
        let there : slice_get xs c.0 ≡ Some y = slice_get-get_or xs c.0 y c.1 ∙ ap Some c.2 in
        let e : 0 ≡ suc c.0 = one 0 (suc c.0) x refl (there ∙ ap Some (sym same)) in
        omega (arith, e),
    apart_by_places xs (λ k j y a b. let e : suc k ≡ suc j = one (suc k) (suc j) y a b in omega (arith, e)),
  )

  split : (ys : List X) (x : X) → Contains ys x → (us : List X) × (vs : List X) × (ys ≡ us ++ x ∷ vs)
  split [] x c = absurd (none_in x c)
  split (y ∷ ys) x c = elim (in_cases y x ys c) [
    | inl e ↦ ([], ys, ap (λ z. z ∷ ys) e)
    | inr r ↦ (let s = split ys x r in (y ∷ s.0, s.1, ap (λ l. y ∷ l) s.2))
  ]

  -- what stands in two lists stands in them with something between
  around : (us vs : List X) (x z : X) → Contains (us ++ vs) z → Contains (us ++ x ∷ vs) z
  around us vs x z c = elim (Contains-append_cases us vs z c) [
    | inl here ↦ Contains-append_left us (x ∷ vs) z here
    | inr there ↦ Contains-append_right us (x ∷ vs) z (in_rest x z vs there)
  ]

  left_out : (us vs : List X) (x : X) → Apart (us ++ x ∷ vs) → Apart (us ++ vs) × ¬ (Contains (us ++ vs) x)
  left_out [] vs x a = (a.1, λ c. a.0 x c refl)
  left_out (u ∷ us) vs x a =
      let rest = left_out us vs x a.1 in (
        (λ y c. a.0 y (around us vs x y c), rest.0),
        λ c. elim (in_cases u x (us ++ vs) c) [
          | inl e ↦ a.0 x (Contains-append_right us (x ∷ vs) x (in_front x vs)) e
          | inr k ↦ rest.1 k
        ],
      )

  moved : (us vs : List X) (x : X) → IsPermutation (x ∷ (us ++ vs)) (us ++ x ∷ vs)
  moved us vs x =
      subst (λ l. IsPermutation (x ∷ (us ++ vs)) l) (append_assoc us (x ∷ []) vs)
      (IsPermutation-append_left vs (x ∷ us) (us ++ x ∷ []) (IsPermutation-append_comm (x ∷ []) us))

  pub permuted : (xs ys : List X) → Apart xs → Apart ys → ((x : X) → Contains xs x ↔ Contains ys x) →
      IsPermutation xs ys
  permuted [] [] a b same = IsPermutation-refl []
  permuted [] (y ∷ ys) a b same = absurd (none_in y ((same y).1 (in_front y ys)))
  permuted (x ∷ xs) ys a b same =
      let s = split ys x ((same x).0 (in_front x xs)) in
      let us = s.0 in
      let vs = s.1 in
      let out = left_out us vs x (subst Apart s.2 b) in
      let rest = permuted xs (us ++ vs) a.1 out.0 (λ z. (
        λ k. elim (Contains-append_cases us (x ∷ vs) z (subst (λ l. Contains l z) s.2
            ((same z).0 (in_rest x z xs k)))) [
              | inl here ↦ Contains-append_left us vs z here
              | inr there ↦ elim (in_cases x z vs there) [
                | inl e ↦ absurd (a.0 z k e)
                | inr later ↦ Contains-append_right us vs z later
              ]
            ],
        λ k. elim (in_cases x z xs ((same z).1 (subst (λ l. Contains l z) (sym s.2) (around us vs x z k)))) [
          | inl e ↦ absurd (out.1 (subst (λ w. Contains (us ++ vs) w) (sym e) k))
          | inr r ↦ r
        ],
      )) in
      subst (λ l. IsPermutation (x ∷ xs) l) (sym s.2)
      (IsPermutation-trans (x ∷ xs) (x ∷ (us ++ vs)) (us ++ x ∷ vs)
      (IsPermutation-append_right (x ∷ []) xs (us ++ vs) rest) (moved us vs x))
