-- Marks as they are set, and one go over the pairs.
use Rattle.std.proofs.Common.{◌≡◌, ◌≢◌, ◌⊎◌, ℕ, ◌+◌, ◌<◌, Bool, true, false, not, cond, List, length, get_or, set, count_by, inl, inr, sym, subst, arith, get_or-set_same, get_or-set_other, true≢false, ◌∙◌, ap, lt_of_not-le}
use lib.ListN.{get_or-eq_default}
use Rattle.std.proofs.lemmas.Bool.Decides.{eqb_tells}
use Rattle.std.proofs.lemmas.List.Sums.{sum_by-set}
use Rattle.rel_graph.specs.Marks.{Marked}

-- a marked one is within the list
pub marked_within : (marks : List Bool) (x : ℕ) → Marked marks x → x < length marks
marked_within marks x m = lt_of_not-le (λ h. true≢false (sym m ∙ get_or-eq_default marks false h))

pub marked_set_here : (marks : List Bool) (y : ℕ) → y < length marks → Marked (set marks y true) y
marked_set_here marks y h = get_or-set_same marks y true false h

pub marked_set_other : (marks : List Bool) (y x : ℕ) (b : Bool) → x ≢ y →
    get_or (set marks y b) x false ≡ get_or marks x false
marked_set_other marks y x b ne = get_or-set_other marks y x b false ne

pub marked_set_keeps : (marks : List Bool) (y x : ℕ) → y < length marks → Marked marks x → Marked (set marks y true) x
marked_set_keeps marks y x h m = elim (eqb_tells x y) [
  | inl e ↦ subst (λ z. Marked (set marks y true) z) (sym e.1) (marked_set_here marks y h)
  | inr e ↦ marked_set_other marks y x true e.1 ∙ m
]

pub marked_set_cases : (marks : List Bool) (y x : ℕ) → Marked (set marks y true) x → (y ≡ x) ⊎ Marked marks x
marked_set_cases marks y x m = elim (eqb_tells x y) [
  | inl e ↦ inl (sym e.1)
  | inr e ↦ inr (sym (marked_set_other marks y x true e.1) ∙ m)
]

-- one mark more is one less that is not marked
pub fewer_unmarked : (marks : List Bool) (y : ℕ) → y < length marks → get_or marks y false ≡ false →
    count_by not (set marks y true) + 1 ≡ count_by not marks
fewer_unmarked marks y h u =
    let e = sum_by-set (λ b. cond (not b) 1 0) marks y true false h in
    let one : ℕ = 1 in
    let k : cond (not (get_or marks y false)) 1 0 ≡ one = ap (λ b. cond (not b) 1 0) u in
    omega (arith, e, k)
