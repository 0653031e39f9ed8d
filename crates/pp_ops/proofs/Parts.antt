-- A part of a list whose ends are cut to the list.
use Rattle.std.proofs.Common.{◌≡◌, ℕ, ◌-◌, List, [], length, take, drop, ap, sym, ◌∙◌, inl, inr, refl, arith}
use Rattle.std.specs.Prelude.{min, ℤ, slice_range}
use Rattle.std.proofs.lemmas.Bool.{cases_lt}
use Rattle.std.proofs.lemmas.List.{take_all, drop_all, length-drop, take-map, drop-map, length-map}
use Rattle.pp_values.specs.declared.value.Value.{Value}
use Rattle.pp_values.specs.Views.{view, views}
use Rattle.pp_ops.specs.Accesses.{first_place, end_place, part}

clipped : {X : Type 0} (xs : List X) (f e n : ℕ) → n ≡ length xs →
    take (min e n - min f (min e n)) (drop (min f (min e n)) xs) ≡ take (e - f) (drop f xs)
clipped {X} xs f e n is = elim (cases_lt (min e n) f) [
  | inl past ↦
      let front : min e n - min f (min e n) ≡ 0 = omega arith in
      let none : take (min e n - min f (min e n)) (drop (min f (min e n)) xs) ≡ [] =
      ap (λ k. take k (drop (min f (min e n)) xs)) front in
      elim (cases_lt f e) [
        | inl before ↦
            let gone : drop f xs ≡ [] = drop_all f xs (omega arith) in
            none ∙ sym (ap (take (e - f)) gone ∙ take_all (e - f) [] (omega arith))
        | inr behind ↦
            let nothing : e - f ≡ 0 = omega arith in
            none ∙ sym (ap (λ k. take k (drop f xs)) nothing)
      ]
  | inr within ↦
      let first : min f (min e n) ≡ f = omega arith in
      rw first
      (elim (cases_lt n e) [
        | inl less ↦ take_all (min e n - f) (drop f xs) (omega (arith, length-drop f xs))
            ∙ sym (take_all (e - f) (drop f xs) (omega (arith, length-drop f xs)))
        | inr not_less ↦ let same : min e n ≡ e = omega arith in ap (λ k. take (k - f) (drop f xs)) same
      ])
]

pub part_clipped : (xs : List Value) (from count : ℤ) →
    views (slice_range xs (min (first_place from (length xs)) (min (end_place from count (length xs)) (length xs)))
    (min (end_place from count (length xs)) (length xs)))
    ≡ part from count (views xs)
part_clipped xs from count =
    let n = length xs in
    ap views (clipped xs (first_place from (length xs)) (end_place from count (length xs)) (length xs) refl)
    ∙ sym (rw (length-map xs view, drop-map view, take-map view) refl)
