-- The cycle is followed from the goal to the goal, and what was found on the way is farther from it than what is to
-- come.
use Rattle.std.proofs.Common.{◌≡◌, ◌⊎◌, ℕ, suc, ◌+◌, ◌<◌, ◌≤◌, Bool, List, [], ◌∷◌, length, Option, Some, All, get_or, take, Contains, inl, inr, refl, sym, subst, arith}
use Rattle.std.proofs.lemmas.List.Elements.{Contains-push_cases, All-contains}
use Rattle.std.proofs.lemmas.List.{take_more}
use Rattle.std.proofs.lemmas.Bool.{cases_lt}
use Rattle.rel_graph.specs.Distances.{distance, AreDistances, IsStep, IsLeastOf}
use Rattle.rel_graph.specs.Marks.{Marked}
use Rattle.rel_graph.specs.Visits.{AreNew}
use Rattle.rel_graph.proofs.VisitLemmas.{none_in}

some_same : (o : Option ℕ) (j k : ℕ) → o ≡ Some j → o ≡ Some k → j ≡ k
some_same o j k e f = cc

-- what stands directly behind a resource is no more than one nearer
pub no_nearer : (R : ℕ → ℕ → Type 0) (goal : ℕ) (numbers : List (Option ℕ)) (total at left x k : ℕ) →
    AreDistances R goal numbers → distance numbers goal ≡ Some total → distance numbers at ≡ Some left → left ≤ total →
    R at x → distance numbers x ≡ Some k → left ≤ suc k
no_nearer R goal numbers total at left x k d has far near r e =
    let s = d.sound x k e in
    let long = s.1 in
    elim (cases_lt total (suc k)) [
      | inl less ↦ omega (arith, less, near)
      | inr more ↦
          let b = d.least at (x ∷ s.0) (r, s.2) (λ n f. (let same = some_same (distance numbers goal) n total f has in
          omega (arith, same, more, long))) in
          let same = some_same (distance numbers at) b.0 left b.1 far in
          let le = b.2 in
          omega (arith, same, le, long)
    ]

module _ (R : ℕ → ℕ → Type 0) (start found : List ℕ) (from : ℕ) (is : start ≡ from ∷ [])
    (sound : (y : ℕ) → Contains found y → (s : ℕ) × Contains start s × R s y) where
  pub from_start : Contains start from
  from_start = subst (λ l. Contains l from) (sym is) (0, omega arith, refl)

  pub found_behind : (y : ℕ) → Contains found y → R from y
  found_behind y c =
      let s = sound y c in
      elim (Contains-push_cases [] from s.0 (subst (λ l. Contains l s.0) is s.1)) [
        | inl none ↦ absurd (none_in s.0 none)
        | inr same ↦ subst (λ w. R w y) (sym same) s.2
      ]

  module _ (numbers : List (Option ℕ)) (inner inner' : List Bool) (news : AreNew inner inner' found) where
    pub found_either : (y : ℕ) → Marked inner' y → Marked inner y ⊎ R from y
    found_either y m = elim (news.all y m) [
      | inl old ↦ inl old
      | inr new ↦ inr (found_behind y new)
    ]

    module _ (all : (s y : ℕ) → Contains start s → R s y → Marked inner' y) (left : ℕ)
        (farther : (y : ℕ) → Marked inner y → ¬ (distance numbers y ≡ Some left)) where
      pub behind_found : (y : ℕ) → R from y → distance numbers y ≡ Some left → Contains found y
      behind_found y r e = elim (news.all y (all from y from_start r)) [
        | inl old ↦ absurd (farther y old e)
        | inr new ↦ new
      ]

      -- the least of what is found is the next one
      pub step_found : (x : ℕ) → IsLeastOf found numbers left x → IsStep R numbers from left x
      step_found x l = record {
        direct = found_behind x l.among;
        far = l.far;
        least = λ y r e. l.least y (behind_found y r e) e;
      }

pub only_one : (start : List ℕ) (from n : ℕ) → start ≡ from ∷ [] → from < n → (v : ℕ) → Contains start v → v < n
only_one start from n is inside v c = elim (Contains-push_cases [] from v (subst (λ l. Contains l v) is c)) [
  | inl none ↦ absurd (none_in v none)
  | inr same ↦ omega (arith, same, inside)
]

-- ---- the least one

module _ (found : List ℕ) (numbers : List (Option ℕ)) (i least left : ℕ) (inside : i < length found)
    (all : (y : ℕ) → Contains (take i found) y → distance numbers y ≡ Some left → least ≤ y) where
  each : (P : ℕ → Type 0) → ((y : ℕ) → Contains (take i found) y → P y) → P (get_or found i 0) →
      (y : ℕ) → Contains (take (i + 1) found) y → P y
  each P before here y c = elim (Contains-push_cases (take i found) (get_or found i 0) y
      (subst (λ l. Contains l y) (take_more found i 0 inside) c)) [
        | inl old ↦ before y old
        | inr same ↦ subst P same here
      ]

  -- this one is no candidate
  pub least_kept : (distance numbers (get_or found i 0) ≡ Some left → least ≤ get_or found i 0) →
      (y : ℕ) → Contains (take (i + 1) found) y → distance numbers y ≡ Some left → least ≤ y
  least_kept here = each (λ y. distance numbers y ≡ Some left → least ≤ y) all here

  -- this one is less
  pub least_less : get_or found i 0 < least →
      (y : ℕ) → Contains (take (i + 1) found) y → distance numbers y ≡ Some left → get_or found i 0 ≤ y
  least_less less = each (λ y. distance numbers y ≡ Some left → get_or found i 0 ≤ y)
      (λ y c e. (let h = all y c e in omega (arith, h, less))) (λ _. omega arith)

pub least_is : (found : List ℕ) (numbers : List (Option ℕ)) (least left : ℕ) → All (λ x. x < length numbers) found →
    ((x : ℕ) × Contains found x × (distance numbers x ≡ Some left)) →
    (least ≡ length numbers) ⊎ (Contains found least × (distance numbers least ≡ Some left)) →
    ((y : ℕ) → Contains found y → distance numbers y ≡ Some left → least ≤ y) → IsLeastOf found numbers left least
least_is found numbers least left below some (inr is) all = record { among = is.0; far = is.1; least = all }
least_is found numbers least left below some (inl none) all =
    let n = All-contains (λ x. x < length numbers) found some.0 below some.1 in
    let h = all some.0 some.1 some.2 in
    absurd (omega (arith, n, h, none))
