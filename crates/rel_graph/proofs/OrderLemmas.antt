-- Where nothing comes before itself there is an order, and it is decided what comes before what.
use Rattle.std.proofs.Common.{◌≡◌, ◌⊎◌, ℕ, zero, suc, ◌<◌, Bool, true, false, List, [], ◌∷◌, ◌++◌, set, replicate, count_by}
use Rattle.std.proofs.Common.{inl, inr, refl, sym, ap, ◌∙◌, arith, true≢false}
use Rattle.std.specs.Prelude.{slice_index_or}
use Rattle.std.proofs.lemmas.Bool.{cases_lt}
use Rattle.rel_graph.specs.Before.{Before, Direct}
use Rattle.rel_graph.specs.Cycles.{HasNoCycle}
use Rattle.rel_graph.specs.FirstCycles.{is_direct}
use Rattle.rel_graph.specs.Laws.{SomeOrder}
use Rattle.rel_graph.specs.Listing.{Listing}
use Rattle.rel_graph.specs.Marks.{Marked}
use Rattle.rel_graph.specs.Orders.{IsOrder}
use Rattle.rel_graph.specs.Pairs.{AllBelow}
use Rattle.rel_graph.proofs.CycleLemmas.{IsToldBy, direct_told, way_cases}
use Rattle.rel_graph.proofs.Ordering.{fewer_left, free_listed, listed_all, listing_more, listing_start, order_from}
use Rattle.rel_graph.proofs.Ordering.{ready_free}

bool_cases : (b : Bool) → (b ≡ true) ⊎ (b ≡ false)
bool_cases true = inl refl
bool_cases false = inr refl

module _ (R : ℕ → ℕ → Type 0) (leads : ℕ → ℕ → Bool) (count : ℕ) (told : IsToldBy R leads count) where
  -- something that is left stands directly before x
  abbrev Blocked : List Bool → ℕ → Type 0
  Blocked left x = (y : ℕ) × Marked left y × R y x

  module _ (left : List Bool) where
    blocked_by : (x n : ℕ) → ((y : ℕ) → y < n → Marked left y → ¬ (R y x)) →
        Blocked left x ⊎ ((y : ℕ) → y < suc n → Marked left y → ¬ (R y x))
    blocked_by x n none = elim (bool_cases (slice_index_or left n false)) [
      | inl here ↦ elim (bool_cases (leads n x)) [
        | inl is ↦ inl (n, here, told.sound n x is)
        | inr isnt ↦ inr (λ y h m r. elim (cases_lt y n) [
          | inl less ↦ none y less m r
          | inr more ↦
              let same : y ≡ n = omega (arith, h, more) in
              true≢false (sym (told.complete y x r) ∙ ap (λ z. leads z x) same ∙ isnt)
        ])
      ]
      | inr gone ↦ inr (λ y h m r. elim (cases_lt y n) [
        | inl less ↦ none y less m r
        | inr more ↦
            let same : y ≡ n = omega (arith, h, more) in
            true≢false (sym m ∙ ap (λ z. slice_index_or left z false) same ∙ gone)
      ])
    ]

    blocked : (x n : ℕ) → Blocked left x ⊎ ((y : ℕ) → y < n → Marked left y → ¬ (R y x))
    blocked x zero = inr (λ y h m r. absurd (omega (arith, h)))
    blocked x (suc n) = elim (blocked x n) [
      | inl is ↦ inl is
      | inr none ↦ blocked_by x n none
    ]

    -- the least of what is left that nothing blocks
    pub record Next : Type 0 where
      pub x : ℕ
      pub marked : Marked left x
      pub free : (y : ℕ) → Marked left y → ¬ (R y x)
      pub lesser : (y : ℕ) → y < x → Marked left y → Blocked left y

    next_by : (n : ℕ) → ((y : ℕ) → y < n → Marked left y → Blocked left y) →
        Next ⊎ ((y : ℕ) → y < suc n → Marked left y → Blocked left y)
    next_by n all = elim (bool_cases (slice_index_or left n false)) [
      | inl here ↦ elim (blocked n count) [
        | inl is ↦ inr (λ y h m. elim (cases_lt y n) [
          | inl less ↦ all y less m
          | inr more ↦ (let same : n ≡ y = omega (arith, h, more) in rw (← same) is)
        ])
        | inr none ↦ inl (record {
          x = n;
          marked = here;
          free = λ y m r. none y (told.below y n r).0 m r;
          lesser = all;
        })
      ]
      | inr gone ↦ inr (λ y h m. elim (cases_lt y n) [
        | inl less ↦ all y less m
        | inr more ↦
            let same : y ≡ n = omega (arith, h, more) in
            absurd (true≢false (sym m ∙ ap (λ z. slice_index_or left z false) same ∙ gone))
      ])
    ]

    next_below : (n : ℕ) → Next ⊎ ((y : ℕ) → y < n → Marked left y → Blocked left y)
    next_below zero = inr (λ y h m. absurd (omega (arith, h)))
    next_below (suc n) = elim (next_below n) [
      | inl is ↦ inl is
      | inr all ↦ next_by n all
    ]

  module _ (acyclic : HasNoCycle R) where
    list_on : (fuel : ℕ) (left : List Bool) (order : List ℕ) → Listing R count left order →
        count_by (λ b. b) left < fuel → (all : List ℕ) × IsOrder R count all
    list_on zero left order l few = absurd (omega (arith, few))
    list_on (suc fuel) left order l few = elim (next_below left count) [
      | inl next ↦
          let less = fewer_left left next.x next.marked in
          list_on fuel (set left next.x false) (order ++ next.x ∷ [])
          (listing_more R count left order l next.x next.marked
          (free_listed R count left order l next.x (λ y r. (told.below y next.x r).0) next.free)
          (λ y m ready. elim (cases_lt y next.x) [
            | inl less ↦
                let b = next.lesser y less m in
                absurd (ready_free R count left order l y b.0 ready b.1 b.2)
            | inr more ↦ more
          ]))
          (omega (arith, few, less))
      | inr all ↦ (
        order,
        order_from R count left order l (listed_all R count left order l
            (λ x m none. let b = all x (l.within x m) m in none b.0 b.1 b.2) acyclic),
      )
    ]

    some_order_of : (all : List ℕ) × IsOrder R count all
    some_order_of = list_on (suc (count_by (λ b. b) (replicate count true))) (replicate count true) []
        (listing_start R count) (omega arith)

pub some_order : SomeOrder
some_order containers edges count below edges_below acyclic =
    some_order_of (Direct containers edges) (is_direct containers edges count) count
    (direct_told containers edges count below edges_below) acyclic

module _ (containers edges : List (ℕ × ℕ)) (count : ℕ) (below : AllBelow containers count)
    (edges_below : AllBelow edges count) where
  pub direct_decided : (r s : ℕ) → Direct containers edges r s ⊎ ¬ (Direct containers edges r s)
  direct_decided r s =
      let told = direct_told containers edges count below edges_below in
      elim (bool_cases (is_direct containers edges count r s)) [
        | inl is ↦ inl (told.sound r s is)
        | inr isnt ↦ inr (λ d. true≢false (sym (told.complete r s d) ∙ isnt))
      ]

  pub before_decided : (r s : ℕ) → Before containers edges r s ⊎ ¬ (Before containers edges r s)
  before_decided r s =
      elim (way_cases (Direct containers edges) (is_direct containers edges count) count
      (direct_told containers edges count below edges_below) s r) [
        | inl none ↦ inr (λ h. none.1 h.0 h.1)
        | inr some ↦ inl (some.0, some.2.chain)
      ]
