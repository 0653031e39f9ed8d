-- Entries in the order of their keys: where a key belongs, what halving finds, and what a change within one block makes of all.
use Rattle.std.proofs.Common.{◌≡◌, ◌≤◌, arith, length, ℕ, suc, Bool, true, false, not, ◌&&◌, T, cond, None, Some, List, [], ◌∷◌, ◌++◌, refl, sym, ap, subst, ◌∙◌}
use Rattle.std.specs.declared.cmp.Ordering.{Ordering}
use Rattle.std.specs.declared.cmp.Ordering.TheVariants.{Less, Equal, Greater}
use Rattle.std.specs.Ordering.{is_lt, is_eq, is_gt, ordering_reverse, eq_by_cmp}
use Rattle.std.specs.Cmp.Lexicographic.{nat_list_cmp_total}
use Rattle.std.specs.List.{insert}
use Rattle.std.specs.FinMap.{find, put, is_sorted, slice_cmp-IsAntisymmetric, nat_cmp-IsAntisymmetric}
use Rattle.std.specs.FinMap.Entries.{below_all, by_order}
use Rattle.pp_values.specs.Rising.{text_cmp}
use Rattle.export_store.specs.Rows.{EntryOf, others, count_below}
use Rattle.export_store.specs.Levels.{is_above}

pub first : (a b : Bool) → T (a && b) → T a
first true b h = tt
first false b h = h

pub second : (a b : Bool) → T (a && b) → T b
second true b h = h
second false b h = absurd h

pub both : (a b : Bool) → T a → T b → T (a && b)
both true b p q = q
both false b p q = p

pub less : (r : Ordering) → T (is_lt r) → r ≡ Less
less Less h = refl
less Equal h = absurd h
less Greater h = absurd h

pub is_less : (r : Ordering) → r ≡ Less → T (is_lt r)
is_less r e = subst (λ q. T (is_lt q)) (sym e) tt

pub greater : (r : Ordering) → T (is_gt r) → r ≡ Greater
greater Less h = absurd h
greater Equal h = absurd h
greater Greater h = refl

pub is_greater : (r : Ordering) → r ≡ Greater → T (is_gt r)
is_greater r e = subst (λ q. T (is_gt q)) (sym e) tt

by_order-append : {A : Type 0} (r : Ordering) (a b c x y z back : List A) → a ≡ x ++ back → b ≡ y ++ back → c ≡ z ++ back →
    by_order r a b c ≡ by_order r x y z ++ back
by_order-append Less a b c x y z back p q s = p
by_order-append Equal a b c x y z back p q s = q
by_order-append Greater a b c x y z back p q s = s

cond-append : {A : Type 0} (t : Bool) (a x y back : List A) → a ≡ x ++ back → (b : List A) → b ≡ y ++ back → cond t a b ≡ cond t x y ++ back
cond-append true a x y back p b q = p
cond-append false a x y back p b q = q

pub turn : (x y : List ℕ) (r : Ordering) → text_cmp x y ≡ r → text_cmp y x ≡ ordering_reverse r
turn x y r e = nat_list_cmp_total.antisymm y x ∙ ap ordering_reverse e

module _ {V : Type 0} where
  -- below a key that is below all the others
  pub below_more : (x y : List ℕ) (es : List (EntryOf V)) → text_cmp x y ≡ Less → T (below_all text_cmp y es) → T (below_all text_cmp x es)
  below_more x y [] p h = tt
  below_more x y (e ∷ es) p h = both _ _ (is_less _ (nat_list_cmp_total.trans x y e.0 p (less _ (first _ _ h)))) (below_more x y es p (second _ _ h))

  pub below_tied : (x y : List ℕ) (es : List (EntryOf V)) → text_cmp x y ≡ Equal → T (below_all text_cmp y es) → T (below_all text_cmp x es)
  below_tied x y [] p h = tt
  below_tied x y (e ∷ es) p h = both _ _ (is_less _ (nat_list_cmp_total.congr x y e.0 p ∙ less _ (first _ _ h))) (below_tied x y es p (second _ _ h))

  pub below_middle : (x : List ℕ) (front back : List (EntryOf V)) (e : EntryOf V) → T (below_all text_cmp x (front ++ e ∷ back)) → text_cmp x e.0 ≡ Less
  below_middle x [] back e h = less _ (first _ _ h)
  below_middle x (f ∷ fs) back e h = below_middle x fs back e (second _ _ h)

  pub below_front : (x : List ℕ) (front back : List (EntryOf V)) → T (below_all text_cmp x (front ++ back)) → T (below_all text_cmp x front)
  below_front x [] back h = tt
  below_front x (f ∷ fs) back h = both _ _ (first _ _ h) (below_front x fs back (second _ _ h))

  pub sorted_front : (front back : List (EntryOf V)) → T (is_sorted text_cmp (front ++ back)) → T (is_sorted text_cmp front)
  sorted_front [] back h = tt
  sorted_front (f ∷ fs) back h = both _ _ (below_front f.0 fs back (first _ _ h)) (sorted_front fs back (second _ _ h))

  pub sorted_back : (front back : List (EntryOf V)) → T (is_sorted text_cmp (front ++ back)) → T (is_sorted text_cmp back)
  sorted_back [] back h = h
  sorted_back (f ∷ fs) back h = sorted_back fs back (second _ _ h)

  pub sorted_middle : (front middle back : List (EntryOf V)) → T (is_sorted text_cmp (front ++ (middle ++ back))) → T (is_sorted text_cmp middle)
  sorted_middle front middle back h = sorted_front middle back (sorted_back front (middle ++ back) h)

  -- ---- where a key belongs

  pub above-append : (k : List ℕ) (xs ys : List (EntryOf V)) → T (is_above k xs) → T (is_above k ys) → T (is_above k (xs ++ ys))
  above-append k [] ys p q = q
  above-append k (x ∷ xs) ys p q = both _ _ (first _ _ p) (above-append k xs ys (second _ _ p) q)

  -- a key above the last one is above all
  pub above_last : (k : List ℕ) (front : List (EntryOf V)) (e : EntryOf V) → T (is_sorted text_cmp (front ++ e ∷ [])) → text_cmp k e.0 ≡ Greater → T (is_above k (front ++ e ∷ []))
  above_last k [] e h p = both _ _ (is_greater _ p) tt
  above_last k (f ∷ fs) e h p =
      both _ _ (is_greater _ (turn f.0 k Less (nat_list_cmp_total.trans f.0 e.0 k (below_middle f.0 fs [] e (first _ _ h)) (turn k e.0 Greater p))))
      (above_last k fs e (second _ _ h) p)

  -- and so is one above a last block that isn't empty
  pub above_block : (k : List ℕ) (front block : List (EntryOf V)) → 1 ≤ length block → T (is_sorted text_cmp (front ++ block)) → T (is_above k block) → T (is_above k (front ++ block))
  above_block k [] block some h p = p
  above_block k (f ∷ fs) [] some h p = absurd (omega (arith, some))
  above_block k (f ∷ fs) (e ∷ es) some h p =
      both _ _ (is_greater _ (turn f.0 k Less (nat_list_cmp_total.trans f.0 e.0 k (below_middle f.0 fs es e (first _ _ h)) (turn k e.0 Greater (greater _ (first _ _ p))))))
      (above_block k fs (e ∷ es) some (second _ _ h) p)

  -- one that isn't is below what stands behind it
  pub not_above_last : (k : List ℕ) (front : List (EntryOf V)) (e : EntryOf V) (back : List (EntryOf V)) → T (is_sorted text_cmp (front ++ e ∷ back)) →
      (r : Ordering) → text_cmp k e.0 ≡ r → is_gt r ≡ false → T (below_all text_cmp k back)
  not_above_last k front e back h Less p other = below_more k e.0 back p (first _ _ (sorted_back front (e ∷ back) h))
  not_above_last k front e back h Equal p other = below_tied k e.0 back p (first _ _ (sorted_back front (e ∷ back) h))
  not_above_last k front e back h Greater p other = absurd (subst T other tt)

  -- ---- what stands in front or behind doesn't matter

  pub find-below : (k : List ℕ) (es : List (EntryOf V)) → T (below_all text_cmp k es) → find text_cmp k es ≡ None
  find-below k [] h = refl
  find-below k (e ∷ es) h = ap (λ r. cond (is_eq r) (Some e.1) (find text_cmp k es)) (less _ (first _ _ h)) ∙ find-below k es (second _ _ h)

  find-middle : (k : List ℕ) (middle back : List (EntryOf V)) → T (below_all text_cmp k back) → find text_cmp k (middle ++ back) ≡ find text_cmp k middle
  find-middle k [] back h = find-below k back h
  find-middle k (e ∷ es) back h = ap (cond (eq_by_cmp text_cmp k e.0) (Some e.1)) (find-middle k es back h)

  pub find-block : (k : List ℕ) (front middle back : List (EntryOf V)) → T (is_above k front) → T (below_all text_cmp k back) →
      find text_cmp k (front ++ (middle ++ back)) ≡ find text_cmp k middle
  find-block k [] middle back p q = find-middle k middle back q
  find-block k (f ∷ fs) middle back p q =
      ap (λ r. cond (is_eq r) (Some f.1) (find text_cmp k (fs ++ (middle ++ back)))) (greater _ (first _ _ p)) ∙ find-block k fs middle back (second _ _ p) q

  pub put-below : (k : List ℕ) (v : V) (back : List (EntryOf V)) → T (below_all text_cmp k back) → put text_cmp k v back ≡ (k, v) ∷ back
  put-below k v [] h = refl
  put-below k v (b ∷ bs) h = ap (λ r. by_order r ((k, v) ∷ b ∷ bs) ((b.0, v) ∷ bs) (b ∷ put text_cmp k v bs)) (less _ (first _ _ h))

  put-middle : (k : List ℕ) (v : V) (middle back : List (EntryOf V)) → T (below_all text_cmp k back) → put text_cmp k v (middle ++ back) ≡ put text_cmp k v middle ++ back
  put-middle k v [] back h = put-below k v back h
  put-middle k v (e ∷ es) back h =
      by_order-append (text_cmp k e.0) _ _ _ ((k, v) ∷ e ∷ es) ((e.0, v) ∷ es) (e ∷ put text_cmp k v es) back refl refl (ap (λ l. e ∷ l) (put-middle k v es back h))

  pub put-block : (k : List ℕ) (v : V) (front middle back : List (EntryOf V)) → T (is_above k front) → T (below_all text_cmp k back) →
      put text_cmp k v (front ++ (middle ++ back)) ≡ front ++ (put text_cmp k v middle ++ back)
  put-block k v [] middle back p q = put-middle k v middle back q
  put-block k v (f ∷ fs) middle back p q =
      let rest : List (EntryOf V) = fs ++ (middle ++ back) in
      ap (λ r. by_order r ((k, v) ∷ f ∷ rest) ((f.0, v) ∷ rest) (f ∷ put text_cmp k v rest)) (greater _ (first _ _ p))
      ∙ ap (λ l. f ∷ l) (put-block k v fs middle back (second _ _ p) q)

  pub others-below : (k : List ℕ) (es : List (EntryOf V)) → T (below_all text_cmp k es) → others k es ≡ es
  others-below k [] h = refl
  others-below k (e ∷ es) h =
      ap (λ r. cond (not (is_eq r)) (e ∷ others k es) (others k es)) (less _ (first _ _ h)) ∙ ap (λ l. e ∷ l) (others-below k es (second _ _ h))

  others-middle : (k : List ℕ) (middle back : List (EntryOf V)) → T (below_all text_cmp k back) → others k (middle ++ back) ≡ others k middle ++ back
  others-middle k [] back h = others-below k back h
  others-middle k (e ∷ es) back h =
      let rest : others k (es ++ back) ≡ others k es ++ back = others-middle k es back h in
      cond-append (not (eq_by_cmp text_cmp k e.0)) _ (e ∷ others k es) (others k es) back (ap (λ l. e ∷ l) rest) _ rest

  pub others-block : (k : List ℕ) (front middle back : List (EntryOf V)) → T (is_above k front) → T (below_all text_cmp k back) →
      others k (front ++ (middle ++ back)) ≡ front ++ (others k middle ++ back)
  others-block k [] middle back p q = others-middle k middle back q
  others-block k (f ∷ fs) middle back p q =
      let rest : List (EntryOf V) = fs ++ (middle ++ back) in
      ap (λ r. cond (not (is_eq r)) (f ∷ others k rest) (others k rest)) (greater _ (first _ _ p))
      ∙ ap (λ l. f ∷ l) (others-block k fs middle back (second _ _ p) q)

  -- ---- one entry in the middle

  pub sorted_after : (front back : List (EntryOf V)) (e : EntryOf V) → T (is_sorted text_cmp (front ++ e ∷ back)) → T (is_sorted text_cmp back)
  sorted_after [] back e h = second _ _ h
  sorted_after (f ∷ fs) back e h = sorted_after fs back e (second _ _ h)

  pub find-before : (k : List ℕ) (front back : List (EntryOf V)) (e : EntryOf V) → T (is_sorted text_cmp (front ++ e ∷ back)) → text_cmp k e.0 ≡ Less →
      find text_cmp k (front ++ e ∷ back) ≡ find text_cmp k front
  find-before k [] back e h p =
      ap (λ r. cond (is_eq r) (Some e.1) (find text_cmp k back)) p ∙ find-below k back (below_more k e.0 back p (first _ _ h))
  find-before k (f ∷ fs) back e h p = ap (cond (eq_by_cmp text_cmp k f.0) (Some f.1)) (find-before k fs back e (second _ _ h) p)

  -- the key is above an entry that is below one that the key is not below
  above : (k : List ℕ) (fs back : List (EntryOf V)) (f e : EntryOf V) → T (below_all text_cmp f.0 (fs ++ e ∷ back)) → text_cmp e.0 k ≡ Less → text_cmp k f.0 ≡ Greater
  above k fs back f e h p = turn f.0 k Less (nat_list_cmp_total.trans f.0 e.0 k (below_middle f.0 fs back e h) p)

  pub find-after : (k : List ℕ) (front back : List (EntryOf V)) (e : EntryOf V) → T (is_sorted text_cmp (front ++ e ∷ back)) → text_cmp k e.0 ≡ Greater →
      find text_cmp k (front ++ e ∷ back) ≡ find text_cmp k back
  find-after k [] back e h p = ap (λ r. cond (is_eq r) (Some e.1) (find text_cmp k back)) p
  find-after k (f ∷ fs) back e h p =
      ap (λ r. cond (is_eq r) (Some f.1) (find text_cmp k (fs ++ e ∷ back))) (above k fs back f e (first _ _ h) (turn k e.0 Greater p))
      ∙ find-after k fs back e (second _ _ h) p

  tied_above : (k : List ℕ) (fs back : List (EntryOf V)) (f e : EntryOf V) → T (below_all text_cmp f.0 (fs ++ e ∷ back)) → text_cmp k e.0 ≡ Equal → text_cmp k f.0 ≡ Greater
  tied_above k fs back f e h p = nat_list_cmp_total.congr k e.0 f.0 p ∙ turn f.0 e.0 Less (below_middle f.0 fs back e h)

  pub find-at : (k : List ℕ) (front back : List (EntryOf V)) (e : EntryOf V) → T (is_sorted text_cmp (front ++ e ∷ back)) → text_cmp k e.0 ≡ Equal →
      find text_cmp k (front ++ e ∷ back) ≡ Some e.1
  find-at k [] back e h p = ap (λ r. cond (is_eq r) (Some e.1) (find text_cmp k back)) p
  find-at k (f ∷ fs) back e h p =
      ap (λ r. cond (is_eq r) (Some f.1) (find text_cmp k (fs ++ e ∷ back))) (tied_above k fs back f e (first _ _ h) p)
      ∙ find-at k fs back e (second _ _ h) p

  -- ---- a new entry

  count_below-below : (k : List ℕ) (es : List (EntryOf V)) → T (below_all text_cmp k es) → count_below k es ≡ 0
  count_below-below k [] h = refl
  count_below-below k (e ∷ es) h = ap (λ r. cond (is_gt r) (suc (count_below k es)) 0) (less _ (first _ _ h))

  -- to take out the entry of a key, and to insert the new one where it belongs, is to put it
  pub insert-others : (k : List ℕ) (v : V) (es : List (EntryOf V)) → T (is_sorted text_cmp es) →
      insert (others k es) (count_below k (others k es)) (k, v) ≡ put text_cmp k v es
  insert-others k v [] h = refl
  insert-others k v (e ∷ es) h =
      let rest = others k es in
      elim (text_cmp k e.0) as (λ r. text_cmp k e.0 ≡ r → insert (cond (not (is_eq r)) (e ∷ rest) rest) (count_below k (cond (not (is_eq r)) (e ∷ rest) rest)) (k, v) ≡ by_order r ((k, v) ∷ e ∷ es) ((e.0, v) ∷ es) (e ∷ put text_cmp k v es)) [
        | Less ↦ λ p.
            ap (λ r. insert (e ∷ rest) (cond (is_gt r) (suc (count_below k rest)) 0) (k, v)) p
            ∙ ap (λ l. (k, v) ∷ e ∷ l) (others-below k es (below_more k e.0 es p (first _ _ h)))
        | Equal ↦ λ p.
            let low : T (below_all text_cmp k es) = below_tied k e.0 es p (first _ _ h) in
            ap (λ l. insert l (count_below k l) (k, v)) (others-below k es low)
            ∙ ap (λ n. insert es n (k, v)) (count_below-below k es low)
            ∙ ap (λ t. (t, v) ∷ es) (slice_cmp-IsAntisymmetric nat_cmp-IsAntisymmetric k e.0 p)
        | Greater ↦ λ p.
            ap (λ r. insert (e ∷ rest) (cond (is_gt r) (suc (count_below k rest)) 0) (k, v)) p
            ∙ ap (λ l. e ∷ l) (insert-others k v es (second _ _ h))
      ] refl
