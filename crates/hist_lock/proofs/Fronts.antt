-- Fronts of one list.
use Rattle.std.proofs.Common.{◌≡◌, ℕ, zero, suc, ◌<◌, ◌≤◌, List, [], ◌∷◌, ◌++◌, length, Some, slice_get, refl, ap, sym, subst, ◌∙◌, arith, append_assoc, append-nil, length-append}
use mathlib.Core.List.{IsPrefix}
use Rattle.hist_lock.specs.Calls.{IsLonger}

module _ {A : Type 0} where
  pub prefix_self : (xs : List A) → IsPrefix xs xs
  prefix_self xs = ([], append-nil xs)

  pub prefix_trans : (xs ys zs : List A) → IsPrefix xs ys → IsPrefix ys zs → IsPrefix xs zs
  prefix_trans xs ys zs p q = (p.0 ++ q.0, sym (append_assoc xs p.0 q.0) ∙ (ap (λ w. w ++ q.0) p.1 ∙ q.1))

  -- of two fronts that are alike the longer is as they are
  pub rejoined : (old now one other longer after : List A) → one ≡ now → other ≡ now → IsPrefix old now →
      IsLonger one other longer → IsPrefix longer after → IsPrefix old after
  rejoined old now one other longer after one_is other_is begins is goes_on =
      let same : longer ≡ now = (is.0 (omega (arith, ap length one_is, ap length other_is))).0 ∙ one_is in
      prefix_trans old now after begins (subst (λ xs. IsPrefix xs after) same goes_on)

  pub prefix_length : (xs ys : List A) → IsPrefix xs ys → length xs ≤ length ys
  prefix_length xs ys p = omega (arith, sym (ap length p.1) ∙ length-append xs p.0)

  -- of two fronts of one list the shorter begins the longer
  pub prefix_shorter : (xs ys zs : List A) → IsPrefix xs zs → IsPrefix ys zs → length xs ≤ length ys → IsPrefix xs ys
  prefix_shorter [] ys zs p q le = (ys, refl)
  prefix_shorter (x ∷ xs) [] zs p q le = absurd (omega arith)
  prefix_shorter (x ∷ xs) (y ∷ ys) [] p q le = absurd (cc (p.1))
  prefix_shorter (x ∷ xs) (y ∷ ys) (z ∷ zs) p q le =
      let heads : x ≡ y = cc (p.1, q.1) in let rest = prefix_shorter xs ys zs (p.0, cc (p.1)) (q.0, cc (q.1)) (omega arith) in (rest.0, cc (heads, rest.1))

  -- a front as long as the whole is the whole
  pub prefix_whole : (xs ys : List A) → IsPrefix xs ys → length ys ≤ length xs → xs ≡ ys
  prefix_whole [] [] p le = refl
  prefix_whole [] (y ∷ ys) p le = absurd (omega arith)
  prefix_whole (x ∷ xs) [] p le = absurd (cc (p.1))
  prefix_whole (x ∷ xs) (y ∷ ys) p le = let rest = prefix_whole xs ys (p.0, cc (p.1)) (omega arith) in cc (p.1, rest)

  pub at_append : (xs ys : List A) (k : ℕ) → k < length xs → slice_get (xs ++ ys) k ≡ slice_get xs k
  at_append [] ys k lt = absurd (omega arith)
  at_append (x ∷ xs) ys zero lt = refl
  at_append (x ∷ xs) ys (suc k) lt = at_append xs ys k (omega arith)

  pub at_front : (xs ys : List A) (k : ℕ) → IsPrefix xs ys → k < length xs → slice_get ys k ≡ slice_get xs k
  at_front xs ys k p lt = ap (λ l. slice_get l k) (sym p.1) ∙ at_append xs p.0 k lt

  pub at_end : (xs : List A) (e : A) (k : ℕ) → k ≡ length xs → slice_get (xs ++ e ∷ []) k ≡ Some e
  at_end [] e zero h = refl
  at_end [] e (suc k) h = absurd (omega arith)
  at_end (x ∷ xs) e zero h = absurd (omega arith)
  at_end (x ∷ xs) e (suc k) h = at_end xs e k (omega arith)
