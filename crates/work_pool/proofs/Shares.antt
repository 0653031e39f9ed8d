-- Jobs that are cut off run by run: what is left for the runs to come is within their shares.
use Rattle.std.proofs.Common.{◌≡◌, ℕ, zero, suc, ◌+◌, ◌-◌, ◌*◌, ◌/◌, ◌<◌, ◌≤◌, List, [], ◌∷◌, ◌++◌, length, Vec, ◌∙◌, ap, arith, add-mul, one-mul, mul_comm, mul-le-mul_right}
use Rattle.std.proofs.lemmas.Nat.{div-add-mod', mod_below}
use Rattle.std.proofs.lemmas.List.Elements.{All-append}
use Rattle.std.specs.declared.alloc.Global.{Global}
use mathlib.Core.Logic.{dite}
use native.Mathlib.Decide.{dec_le}
use native.Mathlib.Nat.{div-le_of_le-mul, mul-le-mul_left, mul-one, mul-suc}
use Rattle.work_pool.specs.Groups.{share, AreWithin}

-- the shares of all runs cover the jobs
pub shares_cover : (jobs runs : ℕ) → 0 < runs → jobs ≤ share jobs runs * runs
shares_cover jobs runs some_ =
    let whole = div-add-mod' (jobs + runs - 1) runs in let small = mod_below (jobs + runs - 1) runs some_ in omega (arith, some_, whole, small)

one_more : (most left : ℕ) → 0 < left → most * left ≡ most * (left - 1) + most
one_more most zero some_ = absurd (omega (arith, some_))
one_more most (suc k) some_ = let back : k ≡ suc k - 1 = omega arith in mul-suc most k ∙ ap (λ (n : ℕ). most * n + most) back

-- the run that is cut off is within its share
pub run_within : (jobs left most : ℕ) → jobs ≤ most * left → jobs / left ≤ most
run_within jobs left most covered = div-le_of_le-mul left (let turned = mul_comm most left in omega (arith, covered, turned))

-- and the rest within the shares of the runs to come
pub rest_within : (jobs left most : ℕ) → 0 < left → jobs ≤ most * left → jobs - jobs / left ≤ most * (left - 1)
rest_within jobs left most some_ covered =
    let run : ℕ = jobs / left in let split = one_more most left some_ in
    dite (dec_le most run)
    (λ full. omega (arith, covered, split, full))
    (λ not_full.
    let more : run + 1 ≤ most = omega arith in
    let whole = div-add-mod' jobs left in let small = mod_below jobs left some_ in let runs = one_more run left some_ in
    let shared = mul-le-mul_right (left - 1) more in let apart = add-mul run 1 (left - 1) in let one = one-mul (left - 1) in
    omega (arith, some_, whole, small, runs, shared, apart, one))

-- the same of the lengths that the code computes: what stays, and what is cut off
pub front_within : (jobs len len' left most front : ℕ) → len ≡ jobs → len' ≡ jobs → 0 < left → jobs ≤ most * left
    → front ≡ len - len' / left → front ≤ most * (left - 1)
front_within jobs len len' left most front is is' some_ covered cut_ =
    let rest = rest_within jobs left most some_ covered in let same_run = ap (λ (n : ℕ). n / left) is' in omega (arith, is, same_run, rest, cut_)

pub back_within : (jobs len len' left most back : ℕ) → len ≡ jobs → len' ≡ jobs → jobs ≤ most * left
    → back + (len - len' / left) ≡ jobs → back ≤ most
back_within jobs len len' left most back is is' covered cut_ =
    let run = run_within jobs left most covered in let same_run = ap (λ (n : ℕ). n / left) is' in omega (arith, is, same_run, run, cut_)

-- the last run has all that is left
pub last_within : (jobs left most : ℕ) → left ≤ 1 → jobs ≤ most * left → jobs ≤ most
last_within jobs left most last_ covered =
    let bound = mul-le-mul_left most last_ in let one = mul-one most in omega (arith, covered, bound, one)

one_within : {A : Type 0} (most : ℕ) (run : Vec A Global) → length run.items ≤ most → AreWithin most (run ∷ [])
one_within most run within zero d lt = within
one_within most run within (suc k) d lt = absurd (omega (arith, lt))

pub within_push : {A : Type 0} (most : ℕ) (runs : List (Vec A Global)) (run : Vec A Global)
    → AreWithin most runs → length run.items ≤ most → AreWithin most (runs ++ run ∷ [])
within_push {A} most runs run before within =
    All-append (λ (r : Vec A Global). length r.items ≤ most) runs (run ∷ []) before (one_within most run within)
