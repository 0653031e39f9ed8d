-- The targets of each node, as arrows come.
use Rattle.std.proofs.Common.{take, append-nil, ◌≡◌, ℕ, ◌+◌, ◌<◌, true, false, cond, List, [], ◌∷◌, ◌++◌, length, get_or, set, inl, inr, refl, sym, subst, ap, ◌∙◌, arith, All, length-set, get_or-set_same, get_or-set_other}
use Rattle.std.specs.Prelude.{nat_eq}
use Rattle.std.specs.declared.vec.Vec.{Vec}
use Rattle.std.specs.declared.alloc.Global.{Global}
use Rattle.std.specs.List.{AllByRecursion}
use Rattle.std.proofs.lemmas.List.{take_more}
use Rattle.std.proofs.lemmas.Bool.Decides.{eqb_tells}
use Rattle.std.proofs.lemmas.List.Elements.{recursion_from_All, All-from_recursion}
use Rattle.rel_graph.specs.Pairs.{AllBelow}
use Rattle.agent_marks.specs.Nodes.{targets}

-- ---- the targets of each node, as arrows come

pub targets_more : (arrows : List (ℕ × ℕ)) (a : ℕ × ℕ) (u : ℕ) → targets (arrows ++ a ∷ []) u ≡ targets arrows u ++ cond (nat_eq u a.0) (a.1 ∷ []) []
targets_more [] a u = refl
targets_more (x ∷ arrows) a u =
    let rest = targets_more arrows a u in
    elim (nat_eq u x.0) as (λ b. cond b (x.1 ∷ targets (arrows ++ a ∷ []) u) (targets (arrows ++ a ∷ []) u) ≡ cond b (x.1 ∷ targets arrows u) (targets arrows u) ++ cond (nat_eq u a.0) (a.1 ∷ []) []) [
      | true ↦ ap (λ l. x.1 ∷ l) rest
      | false ↦ rest
    ]

module _ (out : List (Vec ℕ Global)) (arrows : List (ℕ × ℕ)) (i n : ℕ) (x y held old : Vec ℕ Global) (within : i < length arrows) (below : AllBelow arrows n) (long : length out ≡ n)
    (so_far : (u : ℕ) (d : Vec ℕ Global) → u < n → (get_or out u d).items ≡ targets (take i arrows) u)
    (was : old ≡ get_or out (get_or arrows i (0, 0)).0 old) (kept : held ≡ old) (put_it : y.items ≡ held.items ++ (get_or arrows i (0, 0)).1 ∷ []) where
  abbrev from : ℕ
  from = (get_or arrows i (0, 0)).0

  from_below : (get_or arrows i (0, 0)).0 < n
  from_below = (below i (0, 0) within).0

  next : List (Vec ℕ Global)
  next = set (set out (get_or arrows i (0, 0)).0 x) (get_or arrows i (0, 0)).0 y

  pub still_long : length (set (set out (get_or arrows i (0, 0)).0 x) (get_or arrows i (0, 0)).0 y) ≡ n
  still_long = length-set (set out (get_or arrows i (0, 0)).0 x) (get_or arrows i (0, 0)).0 y ∙ length-set out (get_or arrows i (0, 0)).0 x ∙ long

  more : (u : ℕ) → targets (take (i + 1) arrows) u ≡ targets (take i arrows) u ++ cond (nat_eq u (get_or arrows i (0, 0)).0) ((get_or arrows i (0, 0)).1 ∷ []) []
  more u = ap (λ l. targets l u) (take_more arrows i (0, 0) within) ∙ targets_more (take i arrows) (get_or arrows i (0, 0)) u

  at_from : (d : Vec ℕ Global) → (get_or (set (set out (get_or arrows i (0, 0)).0 x) (get_or arrows i (0, 0)).0 y) (get_or arrows i (0, 0)).0 d).items ≡ targets (take (i + 1) arrows) (get_or arrows i (0, 0)).0
  at_from d =
      let a : ℕ × ℕ = get_or arrows i (0, 0) in
      let inside : a.0 < length (set out a.0 x) = (let e = length-set out a.0 x in let b = from_below in omega (arith, e, b, long)) in
      ap (λ (v : Vec ℕ Global). v.items) (get_or-set_same (set out a.0 x) a.0 y d inside)
      ∙ put_it ∙ ap (λ (v : Vec ℕ Global). v.items ++ a.1 ∷ []) (kept ∙ was) ∙ ap (λ l. l ++ a.1 ∷ []) (so_far a.0 old from_below)
      ∙ sym (more a.0 ∙ elim (eqb_tells a.0 a.0) [
        | inl same ↦ ap (λ b. targets (take i arrows) a.0 ++ cond b (a.1 ∷ []) []) same.0
        | inr other ↦ absurd (other.1 refl)
      ])

  pub put_at : (u : ℕ) (d : Vec ℕ Global) → u < n → (get_or (set (set out (get_or arrows i (0, 0)).0 x) (get_or arrows i (0, 0)).0 y) u d).items ≡ targets (take (i + 1) arrows) u
  put_at u d h = elim (eqb_tells u (get_or arrows i (0, 0)).0) [
    | inl same ↦ subst (λ w. (get_or (set (set out (get_or arrows i (0, 0)).0 x) (get_or arrows i (0, 0)).0 y) w d).items ≡ targets (take (i + 1) arrows) w) (sym same.1) (at_from d)
    | inr other ↦
        ap (λ (v : Vec ℕ Global). v.items) (get_or-set_other (set out (get_or arrows i (0, 0)).0 x) (get_or arrows i (0, 0)).0 u y d other.1 ∙ get_or-set_other out (get_or arrows i (0, 0)).0 u x d other.1)
        ∙ so_far u d h
        ∙ sym (more u ∙ ap (λ b. targets (take i arrows) u ++ cond b ((get_or arrows i (0, 0)).1 ∷ []) []) other.0 ∙ append-nil (targets (take i arrows) u))
  ]

-- ---- all of them

targets_all : (arrows : List (ℕ × ℕ)) (u n : ℕ) → AllByRecursion (λ p. (p.0 < n) × (p.1 < n)) arrows →
    AllByRecursion (λ t. t < n) (targets arrows u)
targets_all [] u n h = tt
targets_all (a ∷ arrows) u n h =
    elim (nat_eq u a.0) as (λ b. AllByRecursion (λ t. t < n) (cond b (a.1 ∷ targets arrows u) (targets arrows u))) [
      | true ↦ (h.0.1, targets_all arrows u n h.1)
      | false ↦ targets_all arrows u n h.1
    ]

pub targets_below : (arrows : List (ℕ × ℕ)) (u n : ℕ) → AllBelow arrows n → All (λ t. t < n) (targets arrows u)
targets_below arrows u n h =
    All-from_recursion (λ t. t < n) (targets arrows u)
    (targets_all arrows u n (recursion_from_All (λ p. (p.0 < n) × (p.1 < n)) arrows h))
