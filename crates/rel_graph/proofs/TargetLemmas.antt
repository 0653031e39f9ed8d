-- The targets of each step, as arrows come.
use Rattle.std.proofs.Common.{take, append-nil, ◌≡◌, ℕ, suc, ◌+◌, ◌<◌, ◌≤◌, true, false, cond, List, [], ◌∷◌, ◌++◌, length, get_or, set, inl, inr, refl, sym, subst, ap, ◌∙◌, arith, All, length-set, get_or-set_same, get_or-set_other}
use Rattle.std.specs.Prelude.{nat_eq}
use Rattle.std.specs.List.{AllByRecursion}
use Rattle.std.specs.declared.vec.Vec.{Vec}
use Rattle.std.specs.declared.alloc.Global.{Global}
use Rattle.std.proofs.lemmas.List.{take_more}
use Rattle.std.proofs.lemmas.List.Elements.{recursion_from_All, All-from_recursion}
use Rattle.std.proofs.lemmas.Bool.Decides.{eqb_tells}
use Rattle.rel_graph.specs.Pairs.{AllBelow}
use Rattle.rel_graph.specs.Releases.{targets}

pub targets_few : (arrows : List (ℕ × ℕ)) (u : ℕ) → length (targets arrows u) ≤ length arrows
targets_few [] u = omega arith
targets_few (a ∷ arrows) u =
    let rest = targets_few arrows u in
    elim (nat_eq u a.0) as (λ b. length (cond b (a.1 ∷ targets arrows u) (targets arrows u)) ≤ suc (length arrows)) [
      | true ↦ omega (arith, rest)
      | false ↦ omega (arith, rest)
    ]

all_targets : (arrows : List (ℕ × ℕ)) (u n : ℕ) → AllByRecursion (λ p. (p.0 < n) × (p.1 < n)) arrows →
    AllByRecursion (λ t. t < n) (targets arrows u)
all_targets [] u n h = tt
all_targets (a ∷ arrows) u n h =
    elim (nat_eq u a.0) as (λ b. AllByRecursion (λ t. t < n) (cond b (a.1 ∷ targets arrows u) (targets arrows u))) [
      | true ↦ (h.0.1, all_targets arrows u n h.1)
      | false ↦ all_targets arrows u n h.1
    ]

pub targets_below : (arrows : List (ℕ × ℕ)) (u n : ℕ) → AllBelow arrows n → All (λ t. t < n) (targets arrows u)
targets_below arrows u n h = All-from_recursion (λ t. t < n) (targets arrows u)
    (all_targets arrows u n (recursion_from_All (λ p. (p.0 < n) × (p.1 < n)) arrows h))

targets_more : (arrows : List (ℕ × ℕ)) (a : ℕ × ℕ) (u : ℕ) →
    targets (arrows ++ a ∷ []) u ≡ targets arrows u ++ cond (nat_eq u a.0) (a.1 ∷ []) []
targets_more [] a u = refl
targets_more (x ∷ arrows) a u =
    let rest = targets_more arrows a u in
    elim (nat_eq u x.0) as (λ b. cond b (x.1 ∷ targets (arrows ++ a ∷ []) u) (targets (arrows ++ a ∷ []) u) ≡
    cond b (x.1 ∷ targets arrows u) (targets arrows u) ++ cond (nat_eq u a.0) (a.1 ∷ []) []) [
      | true ↦ ap (λ l. x.1 ∷ l) rest
      | false ↦ rest
    ]

-- an arrow's target is put behind those of its step, which are taken out for that
module _ (out : List (Vec ℕ Global)) (arrows : List (ℕ × ℕ)) (i n : ℕ) (x y held old : Vec ℕ Global)
    (within : i < length arrows) (below : AllBelow arrows n) (long : length out ≡ n)
    (so_far : (u : ℕ) (d : Vec ℕ Global) → u < n → (get_or out u d).items ≡ targets (take i arrows) u)
    (was : old ≡ get_or out (get_or arrows i (0, 0)).0 old) (kept : held ≡ old)
    (put_it : y.items ≡ held.items ++ (get_or arrows i (0, 0)).1 ∷ []) where
  abbrev from : ℕ
  from = (get_or arrows i (0, 0)).0

  abbrev to : ℕ
  to = (get_or arrows i (0, 0)).1

  from_below : from < n
  from_below = (below i (0, 0) within).0

  abbrev after : List (Vec ℕ Global)
  after = set (set out from x) from y

  pub still_long : length after ≡ n
  still_long = length-set (set out from x) from y ∙ length-set out from x ∙ long

  more : (u : ℕ) → targets (take (i + 1) arrows) u ≡ targets (take i arrows) u ++ cond (nat_eq u from) (to ∷ []) []
  more u = ap (λ l. targets l u) (take_more arrows i (0, 0) within) ∙
      targets_more (take i arrows) (get_or arrows i (0, 0)) u

  at_from : (d : Vec ℕ Global) → (get_or after from d).items ≡ targets (take (i + 1) arrows) from
  at_from d =
      let inside : from < length (set out from x) =
      (let e = length-set out from x in let b = from_below in omega (arith, e, b, long)) in
      ap (λ (v : Vec ℕ Global). v.items) (get_or-set_same (set out from x) from y d inside)
      ∙ put_it ∙ ap (λ (v : Vec ℕ Global). v.items ++ to ∷ []) (kept ∙ was)
      ∙ ap (λ l. l ++ to ∷ []) (so_far from old from_below)
      ∙ sym (more from ∙ elim (eqb_tells from from) [
        | inl same ↦ ap (λ b. targets (take i arrows) from ++ cond b (to ∷ []) []) same.0
        | inr other ↦ absurd (other.1 refl)
      ])

  pub put_at : (u : ℕ) (d : Vec ℕ Global) → u < n → (get_or after u d).items ≡ targets (take (i + 1) arrows) u
  put_at u d h = elim (eqb_tells u from) [
    | inl same ↦ subst (λ w. (get_or after w d).items ≡ targets (take (i + 1) arrows) w) (sym same.1) (at_from d)
    | inr other ↦
        ap (λ (v : Vec ℕ Global). v.items) (get_or-set_other (set out from x) from u y d other.1 ∙
        get_or-set_other out from u x d other.1)
        ∙ so_far u d h
        ∙ sym (more u ∙ ap (λ b. targets (take i arrows) u ++ cond b (to ∷ []) []) other.0 ∙
        append-nil (targets (take i arrows) u))
  ]
