-- A name that is put behind so many in a list, in the place of what stands there.
use Rattle.std.proofs.Common.{◌≡◌, ◌≤◌, ℕ, zero, suc, ◌+◌, length, arith, List, [], ◌∷◌, ◌++◌, true, true≢false, refl, ap, subst, sym}
use Rattle.std.proofs.lemmas.List.{length-append, length-take-le, take_all, take_at}
use Rattle.std.specs.Prelude.{slice_get, take}
use Rattle.scope_core.specs.Keyed.{is_named, replaced}
use Rattle.scope_core.specs.Names.{Name}
use Rattle.scope_core.proofs.Puts.{name_here}

module _ {T : Type 0} where
  -- ---- where that name stands there already

  pub length_replaced : (n : ℕ) (v : T) (es : List (Name × T)) → length (replaced n v es) ≡ length es
  length_replaced n v [] = refl
  length_replaced zero v (e ∷ es) = refl
  length_replaced (suc n) v (e ∷ es) = let rest = length_replaced n v es in omega (arith, rest)

  pub replaced_front : (n : ℕ) (v : T) (es : List (Name × T)) → take n (replaced n v es) ≡ take n es
  replaced_front n v [] = refl
  replaced_front zero v (e ∷ es) = refl
  replaced_front (suc n) v (e ∷ es) = ap (λ l. e ∷ l) (replaced_front n v es)

  pub replaced_last : (n : ℕ) (x : Name) (v : T) (es : List (Name × T)) → is_named x (slice_get es n) ≡ true
      → take (n + 1) (replaced n v es) ≡ take n es ++ (x, v) ∷ []
  replaced_last n x v [] is = absurd (true≢false (sym is))
  replaced_last zero x v (e ∷ es) is = ap (λ y. (y, v) ∷ []) (sym (name_here x e.0 is))
  replaced_last (suc n) x v (e ∷ es) is =
      let next : suc (n + 1) ≡ suc n + 1 = omega arith in
      subst (λ k. take k (replaced (suc n) v (e ∷ es)) ≡ take (suc n) (e ∷ es) ++ (x, v) ∷ []) next
      (ap (λ l. e ∷ l) (replaced_last n x v es is))

  pub there : (n : ℕ) (x : Name) (es : List (Name × T)) → is_named x (slice_get es n) ≡ true → n + 1 ≤ length es
  there n x [] is = absurd (true≢false (sym is))
  there zero x (e ∷ es) is = omega arith
  there (suc n) x (e ∷ es) is = let rest = there n x es is in omega (arith, rest)

  -- ---- where it is put behind them

  module _ (n : ℕ) (es : List (Name × T)) (below : n ≤ length es) where
    pub front_length : length (take n es) ≡ n
    front_length = length-take-le n es below

    pub front_of : (l : List (Name × T)) → take n (take n es ++ l) ≡ take n es
    front_of l = take_at (take n es) l n front_length

    pub front_again : take n (take n es) ≡ take n es
    front_again = take_all n (take n es) (omega (arith, front_length))

    pub length_of : (e : Name × T) → length (take n es ++ e ∷ []) ≡ n + 1
    length_of e =
        let long : length (take n es ++ e ∷ []) ≡ length (take n es) + 1 = length-append (take n es) (e ∷ []) in
        omega (arith, long, front_length)

    pub last_of : (e : Name × T) → take (n + 1) (take n es ++ e ∷ []) ≡ take n es ++ e ∷ []
    last_of e = let long = length_of e in take_all (n + 1) (take n es ++ e ∷ []) (omega (arith, long))
