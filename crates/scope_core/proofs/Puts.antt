-- Values that are set one after another: the order of different names does not count, and the last value of a name stays.
use Rattle.std.proofs.Common.{◌≡◌, ◌∙◌, ◌<◌, ℕ, zero, suc, length, arith, List, [], ◌∷◌, ◌++◌, Bool, true, false, true≢false}
use Rattle.std.proofs.Common.{Option, None, Some, is_some, unwrap_or, refl, ap, sym, cond, if◌then◌else◌}
use Rattle.std.proofs.Common.{Ordering, Less, Equal, Greater}
use Rattle.std.proofs.lemmas.Cmp.{nat_list_cmp_total, tied_itself}
use Rattle.std.proofs.lemmas.Map.Text.{is_eq-slice_cmp}
use Rattle.std.proofs.lemmas.Slice.Eq.{bytes_eq-Decides}
use Rattle.std.specs.Option.{option_or}
use Rattle.std.specs.Prelude.{slice_get, slice_set}
use Rattle.std.specs.Str.{bytes_eq}
use Rattle.std.specs.Ordering.{is_eq, match_ordering, ordering_reverse}
use Rattle.pp_values.specs.Rising.{text_cmp}
use Rattle.scope_core.specs.Keyed.{held, replaced}
use Rattle.scope_core.specs.Names.{Name, value_of, with_value}

itself : (x : Name) → text_cmp x x ≡ Equal
itself x = tied_itself nat_list_cmp_total x

back : (x y : Name) → text_cmp y x ≡ ordering_reverse (text_cmp x y)
back x y = nat_list_cmp_total.antisymm y x

same : (x y : Name) → text_cmp x y ≡ Equal → x ≡ y
same x y is = (bytes_eq-Decides x y).0 (sym (is_eq-slice_cmp x y) ∙ ap is_eq is)

reversed : (r : Ordering) → is_eq (ordering_reverse r) ≡ is_eq r
reversed Less = refl
reversed Equal = refl
reversed Greater = refl

-- the test of a name, from either side
pub named : (x y : Name) → is_eq (text_cmp x y) ≡ bytes_eq y x
named x y = sym (ap is_eq (back x y) ∙ reversed (text_cmp x y)) ∙ is_eq-slice_cmp y x

none_first : {T : Type 0} (o p : Option T) → option_or o p ≡ None → o ≡ None
none_first None p none = refl
none_first (Some v) p none = none

equal_by : (r : Ordering) → is_eq r ≡ true → r ≡ Equal
equal_by Less is = absurd (true≢false (sym is))
equal_by Equal is = refl
equal_by Greater is = absurd (true≢false (sym is))

-- two names that the test takes for one are the same
pub name_here : (x y : Name) → is_eq (text_cmp x y) ≡ true → x ≡ y
name_here x y is = same x y (equal_by (text_cmp x y) is)

module _ {T : Type 0} where
  -- ---- a value that is set twice

  again_at : (r : Ordering) (x : Name) (v w : T) (e : Name × T) (es : List (Name × T)) → text_cmp x e.0 ≡ r
      → with_value x v (with_value x w es) ≡ with_value x v es
      → with_value x v (match_ordering r ((x, w) ∷ e ∷ es) ((e.0, w) ∷ es) (e ∷ with_value x w es))
      ≡ match_ordering r ((x, v) ∷ e ∷ es) ((e.0, v) ∷ es) (e ∷ with_value x v es)
  again_at Less x v w e es is rest = rw (itself x) refl
  again_at Equal x v w e es is rest = rw is refl
  again_at Greater x v w e es is rest = rw is (ap (λ l. e ∷ l) rest)

  again : (x : Name) (v w : T) (es : List (Name × T)) → with_value x v (with_value x w es) ≡ with_value x v es
  again x v w [] = rw (itself x) refl
  again x v w (e ∷ es) = again_at (text_cmp x e.0) x v w e es refl (again x v w es)

  -- ---- values of two names

  inner_at : (r : Ordering) (x y : Name) (v w : T) (e : Name × T) (es : List (Name × T)) → text_cmp x e.0 ≡ r
      → text_cmp y e.0 ≡ Greater → text_cmp y x ≡ Greater
      → with_value x v (with_value y w es) ≡ with_value y w (with_value x v es)
      → match_ordering r ((x, v) ∷ e ∷ with_value y w es) ((e.0, v) ∷ with_value y w es)
      (e ∷ with_value x v (with_value y w es))
      ≡ with_value y w (match_ordering r ((x, v) ∷ e ∷ es) ((e.0, v) ∷ es) (e ∷ with_value x v es))
  inner_at Less x y v w e es is above before rest = rw (before, above) refl
  inner_at Equal x y v w e es is above before rest = rw above refl
  inner_at Greater x y v w e es is above before rest = rw above (ap (λ l. e ∷ l) rest)

  swap_at : (r : Ordering) (x y : Name) (v w : T) (e : Name × T) (es : List (Name × T)) → text_cmp y e.0 ≡ r
      → text_cmp x y ≡ Less → text_cmp y x ≡ Greater
      → with_value x v (with_value y w es) ≡ with_value y w (with_value x v es)
      → with_value x v (match_ordering r ((y, w) ∷ e ∷ es) ((e.0, w) ∷ es) (e ∷ with_value y w es))
      ≡ with_value y w (with_value x v (e ∷ es))
  swap_at Less x y v w e es is below before rest =
      rw (below, nat_list_cmp_total.trans x y e.0 below is, before, is) refl
  swap_at Equal x y v w e es is below before rest =
      let here : text_cmp x e.0 ≡ Less = ap (text_cmp x) (sym (same y e.0 is)) ∙ below in
      rw (here, before, is) refl
  swap_at Greater x y v w e es is below before rest =
      inner_at (text_cmp x e.0) x y v w e es refl is before rest

  swap_below : (x y : Name) (v w : T) (es : List (Name × T)) → text_cmp x y ≡ Less → text_cmp y x ≡ Greater
      → with_value x v (with_value y w es) ≡ with_value y w (with_value x v es)
  swap_below x y v w [] below before = rw (below, before) refl
  swap_below x y v w (e ∷ es) below before =
      swap_at (text_cmp y e.0) x y v w e es refl below before (swap_below x y v w es below before)

  swap_by : (r : Ordering) (x y : Name) (v w : T) (es : List (Name × T)) → text_cmp x y ≡ r → is_eq r ≡ false
      → with_value x v (with_value y w es) ≡ with_value y w (with_value x v es)
  swap_by Less x y v w es is apart = swap_below x y v w es is (back x y ∙ ap ordering_reverse is)
  swap_by Equal x y v w es is apart = absurd (true≢false apart)
  swap_by Greater x y v w es is apart =
      sym (swap_below y x w v es (back x y ∙ ap ordering_reverse is) is)

  swap : (x y : Name) (v w : T) (es : List (Name × T)) → is_eq (text_cmp x y) ≡ false
      → with_value x v (with_value y w es) ≡ with_value y w (with_value x v es)
  swap x y v w es apart = swap_by (text_cmp x y) x y v w es refl apart

  -- ---- what is found behind a value that was set

  past : (x : Name) (e : Name × T) (es : List (Name × T)) → is_eq (text_cmp x e.0) ≡ false
      → value_of x (e ∷ es) ≡ value_of x es
  past x e es apart = rw apart refl

  other_at : (r : Ordering) (x y : Name) (v : T) (e : Name × T) (es : List (Name × T)) → text_cmp y e.0 ≡ r
      → is_eq (text_cmp x y) ≡ false → value_of x (with_value y v es) ≡ value_of x es
      → value_of x (match_ordering r ((y, v) ∷ e ∷ es) ((e.0, v) ∷ es) (e ∷ with_value y v es)) ≡ value_of x (e ∷ es)
  other_at Less x y v e es is apart rest = past x (y, v) (e ∷ es) apart
  other_at Equal x y v e es is apart rest =
      let here : is_eq (text_cmp x e.0) ≡ false = ap (λ z. is_eq (text_cmp x z)) (sym (same y e.0 is)) ∙ apart in
      past x (e.0, v) es here ∙ sym (past x e es here)
  other_at Greater x y v e es is apart rest = ap (cond (is_eq (text_cmp x e.0)) (Some e.1)) rest

  other : (x y : Name) (v : T) (es : List (Name × T)) → is_eq (text_cmp x y) ≡ false
      → value_of x (with_value y v es) ≡ value_of x es
  other x y v [] apart = past x (y, v) [] apart
  other x y v (e ∷ es) apart = other_at (text_cmp y e.0) x y v e es refl apart (other x y v es apart)

  own_at : (r : Ordering) (x : Name) (v : T) (e : Name × T) (es : List (Name × T)) → text_cmp x e.0 ≡ r
      → value_of x (with_value x v es) ≡ Some v
      → value_of x (match_ordering r ((x, v) ∷ e ∷ es) ((e.0, v) ∷ es) (e ∷ with_value x v es)) ≡ Some v
  own_at Less x v e es is rest = rw (itself x) refl
  own_at Equal x v e es is rest = rw is refl
  own_at Greater x v e es is rest = rw is rest

  own : (x : Name) (v : T) (es : List (Name × T)) → value_of x (with_value x v es) ≡ Some v
  own x v [] = rw (itself x) refl
  own x v (e ∷ es) = own_at (text_cmp x e.0) x v e es refl (own x v es)

  -- ---- names in a list before those of a map

  both_at : (r : Ordering) (x : Name) (e : Name × T) (es later : List (Name × T)) → text_cmp x e.0 ≡ r
      → value_of x (held es later) ≡ option_or (value_of x es) (value_of x later)
      → value_of x (with_value e.0 e.1 (held es later))
      ≡ option_or (cond (is_eq r) (Some e.1) (value_of x es)) (value_of x later)
  both_at Less x e es later is rest = other x e.0 e.1 (held es later) (ap is_eq is) ∙ rest
  both_at Equal x e es later is rest =
      ap (λ y. value_of y (with_value e.0 e.1 (held es later))) (same x e.0 is) ∙ own e.0 e.1 (held es later)
  both_at Greater x e es later is rest = other x e.0 e.1 (held es later) (ap is_eq is) ∙ rest

  pub found_in_both : (x : Name) (es later : List (Name × T))
      → value_of x (held es later) ≡ option_or (value_of x es) (value_of x later)
  found_in_both x [] later = refl
  found_in_both x (e ∷ es) later =
      both_at (text_cmp x e.0) x e es later refl (found_in_both x es later)

  apart_from : (x : Name) (e : Name × T) (es : List (Name × T)) → value_of x (e ∷ es) ≡ None
      → (is_eq (text_cmp x e.0) ≡ false) × (value_of x es ≡ None)
  apart_from x e es = by (is_eq (text_cmp x e.0))
    where
      by : (b : Bool) → (if b then Some e.1 else value_of x es) ≡ None → (b ≡ false) × (value_of x es ≡ None)
      by true none = absurd (true≢false (ap is_some none))
      by false none = (refl, none)

  not_first : (x : Name) (es later : List (Name × T)) → value_of x (held es later) ≡ None → value_of x es ≡ None
  not_first x es later none = none_first (value_of x es) (value_of x later) (sym (found_in_both x es later) ∙ none)

  -- a name that is not in the list goes into the map, or to the end of the list
  later_by : (x : Name) (v : T) (es later : List (Name × T)) → value_of x es ≡ None
      → held es (with_value x v later) ≡ with_value x v (held es later)
  later_by x v [] later none = refl
  later_by x v (e ∷ es) later none =
      let apart = apart_from x e es none in
      ap (with_value e.0 e.1) (later_by x v es later apart.1) ∙ sym (swap x e.0 v e.1 (held es later) apart.0)

  pub into_later : (x : Name) (v : T) (es later : List (Name × T)) → value_of x (held es later) ≡ None
      → held es (with_value x v later) ≡ with_value x v (held es later)
  into_later x v es later none = later_by x v es later (not_first x es later none)

  end_by : (x : Name) (v : T) (es later : List (Name × T)) → value_of x es ≡ None
      → held (es ++ (x, v) ∷ []) later ≡ with_value x v (held es later)
  end_by x v [] later none = refl
  end_by x v (e ∷ es) later none =
      let apart = apart_from x e es none in
      ap (with_value e.0 e.1) (end_by x v es later apart.1) ∙ sym (swap x e.0 v e.1 (held es later) apart.0)

  pub at_end : (x : Name) (v : T) (es later : List (Name × T)) → value_of x (held es later) ≡ None
      → held (es ++ (x, v) ∷ []) later ≡ with_value x v (held es later)
  at_end x v es later none = end_by x v es later (not_first x es later none)

  -- the list when the value of one name in it is put back
  pub put_back : (es : List (Name × T)) (p : ℕ) (e : Name × T) (v : T) → slice_get es p ≡ Some e
      → slice_set es p (e.0, v) ≡ replaced p v es
  put_back [] p e v there = refl
  put_back (f ∷ es) zero e v there = ap (λ x. ((unwrap_or x e).0, v) ∷ es) (sym there)
  put_back (f ∷ es) (suc p) e v there = ap (λ l. f ∷ l) (put_back es p e v there)

  pub not_there : (es : List (Name × T)) (p : ℕ) (v : T) → (p < length es → false ≡ true) → es ≡ replaced p v es
  not_there [] p v none = refl
  not_there (f ∷ es) zero v none = absurd (true≢false (sym (none (omega arith))))
  not_there (f ∷ es) (suc p) v none =
      ap (λ l. f ∷ l) (not_there es p v (λ below. none (omega (arith, below))))
