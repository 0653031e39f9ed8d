-- A map is built again, one entry after another.
use Rattle.std.proofs.Common.{◌≡◌, ℕ, Bool, true, false, ◌&&◌, List, [], ◌∷◌, ◌++◌, T, refl, sym, subst, ap, ◌∙◌, append_assoc, append-nil}
use Rattle.std.specs.Cmp.Lexicographic.{nat_list_cmp_total}
use Rattle.std.specs.Ordering.{is_lt, ordering_reverse}
use Rattle.std.specs.declared.cmp.Ordering.{Ordering}
use Rattle.std.specs.declared.cmp.Ordering.TheVariants.{Less, Equal, Greater}
use Rattle.std.specs.FinMap.{put}
use Rattle.std.specs.FinMap.Entries.{is_sorted, below_all, by_order}
use Rattle.std.specs.List.{AllByRecursion}
use Rattle.std.specs.List.Sorted.{IsStrictlySortedBy}
use Rattle.std.specs.Map.{keys_of}
use Rattle.pp_values.specs.Rising.{text_cmp}
use Rattle.pp_values.specs.Settings.{Setting}
use Rattle.pp_values.specs.declared.value.Value.{Value}
use Rattle.agent_machine.specs.Recorded.{recorded}

-- one entry after another is put in
abbrev pub puts : List Setting → List Setting → List Setting
puts es [] = es
puts es (x ∷ xs) = puts (put text_cmp x.0 x.1 es) xs

first : (a b : Bool) → T (a && b) → T a
first true b p = tt
first false b p = absurd p

second : (a b : Bool) → T (a && b) → T b
second true b p = p
second false b p = absurd p

less : (o : Ordering) → T (is_lt o) → o ≡ Less
less Less p = refl
less Equal p = absurd p
less Greater p = absurd p

turned : (x y : List ℕ) → text_cmp y x ≡ Less → text_cmp x y ≡ Greater
turned x y e = nat_list_cmp_total.antisymm x y ∙ ap ordering_reverse e

-- a key that stands behind others comes after them
below_middle : (k : List ℕ) (front back : List Setting) (x : Setting) → T (below_all text_cmp k (front ++ x ∷ back)) → text_cmp k x.0 ≡ Less
below_middle k [] back x h = less _ (first _ _ h)
below_middle k (e ∷ es) back x h = below_middle k es back x (second _ _ h)

put_last : (front back : List Setting) (x : Setting) → T (is_sorted text_cmp (front ++ x ∷ back)) → put text_cmp x.0 x.1 front ≡ front ++ x ∷ []
put_last [] back x h = refl
put_last (e ∷ es) back x h =
    ap (λ r. by_order r ((x.0, x.1) ∷ e ∷ es) ((e.0, x.1) ∷ es) (e ∷ put text_cmp x.0 x.1 es))
    (turned x.0 e.0 (below_middle e.0 es back x (first _ _ h)))
    ∙ ap (λ (l : List Setting). e ∷ l) (put_last es back x (second _ _ h))

pub puts_sorted : (front back : List Setting) → T (is_sorted text_cmp (front ++ back)) → puts front back ≡ front ++ back
puts_sorted front [] h = sym (append-nil front)
puts_sorted front (x ∷ back) h =
    let is = append_assoc front (x ∷ []) back in
    ap (λ (l : List Setting). puts l back) (put_last front back x h)
    ∙ puts_sorted (front ++ x ∷ []) back (subst (λ (l : List Setting). T (is_sorted text_cmp l)) (sym is) h) ∙ is

below_recorded : (k : List ℕ) (es : List (List ℕ × Value)) → below_all text_cmp k (recorded es) ≡ below_all text_cmp k es
below_recorded k [] = refl
below_recorded k (e ∷ es) = ap (λ b. is_lt (text_cmp k e.0) && b) (below_recorded k es)

sorted_recorded : (es : List (List ℕ × Value)) → is_sorted text_cmp (recorded es) ≡ is_sorted text_cmp es
sorted_recorded [] = refl
sorted_recorded (e ∷ es) =
    ap (λ b. b && is_sorted text_cmp (recorded es)) (below_recorded e.0 es) ∙ ap (λ b. below_all text_cmp e.0 es && b) (sorted_recorded es)

both : (a b : Bool) → T a → T b → T (a && b)
both true b p q = q
both false b p q = absurd p

is_less : (o : Ordering) → o ≡ Less → T (is_lt o)
is_less o e = subst (λ q. T (is_lt q)) (sym e) tt

below_from : (x : List ℕ) (es : List (List ℕ × Value)) → AllByRecursion (λ y. text_cmp x y ≡ Less) (keys_of es) → T (below_all text_cmp x es)
below_from x [] all = tt
below_from x (e ∷ es) all = both _ _ (is_less _ all.0) (below_from x es all.1)

sorted_from : (es : List (List ℕ × Value)) → IsStrictlySortedBy text_cmp (keys_of es) → T (is_sorted text_cmp es)
unfolding IsStrictlySortedBy
sorted_from [] h = tt
sorted_from (e ∷ es) h = both _ _ (below_from e.0 es h.0) (sorted_from es h.1)

pub puts_all : (es : List (List ℕ × Value)) → IsStrictlySortedBy text_cmp (keys_of es) → puts [] (recorded es) ≡ recorded es
puts_all es h = puts_sorted [] (recorded es) (subst T (sym (sorted_recorded es)) (sorted_from es h))
