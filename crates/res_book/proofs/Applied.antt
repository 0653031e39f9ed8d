-- Of which pairs a block was applied.
use Rattle.std.proofs.Common.{◌≡◌, ◌==◌, ℕ, Bool, true, false, ◌||◌, List, [], ◌∷◌, refl, sym, ap, ◌∙◌}
use Rattle.std.specs.BTreeMap.{is_at}
use Rattle.std.specs.BTreeSet.{insert_key}
use Rattle.std.specs.Cmp.{both_tied, unsigned_ties}
use Rattle.std.specs.List.{list_any}
use Rattle.std.specs.Ordering.{is_eq, match_ordering, nat_cmp}
use Rattle.std.specs.declared.cmp.Ordering.{Ordering}
use Rattle.std.specs.declared.cmp.Ordering.TheVariants.{Less, Equal, Greater}
use Rattle.std.proofs.lemmas.Map.Lookups.{exact_pairs, exact_unsigned}
use Rattle.res_book.specs.Relations.{Related, is_applied, pair_cmp, same_pair, with_applied}

pair_told : (p q : ℕ × ℕ) → same_pair p q ≡ is_eq (pair_cmp p q)
pair_told p q =
    both_tied (p.0 == q.0) (p.1 == q.1) (nat_cmp p.0 q.0) (nat_cmp p.1 q.1) (unsigned_ties p.0 q.0)
    (unsigned_ties p.1 q.1)

-- a set has a pair where its keys have it
pub pair_found : (c n : ℕ) (ps : List (ℕ × ℕ)) →
    list_any (is_at (pair_cmp (c, n))) ps ≡ list_any (same_pair (c, n)) ps
pair_found c n [] = refl
pair_found c n (p ∷ ps) =
    ap (λ b. b || list_any (is_at (pair_cmp (c, n))) ps) (sym (pair_told (c, n) p))
    ∙ ap (λ b. same_pair (c, n) p || b) (pair_found c n ps)

-- ---- what a mark changes

exact_pair : (p q : ℕ × ℕ) → pair_cmp p q ≡ Equal → p ≡ q
exact_pair = exact_pairs nat_cmp nat_cmp exact_unsigned exact_unsigned

either_way : (a b c : Bool) → (a || (b || c)) ≡ (b || (a || c))
either_way true true c = refl
either_way true false c = refl
either_way false b c = refl

twice : (a b : Bool) → (a || b) ≡ (a || (a || b))
twice true b = refl
twice false b = refl

module _ (f : ℕ × ℕ → Bool) (k : ℕ × ℕ) (alike : (x : ℕ × ℕ) → pair_cmp k x ≡ Equal → f x ≡ f k) where
  put_at : (x : ℕ × ℕ) (xs : List (ℕ × ℕ)) (o : Ordering) → pair_cmp k x ≡ o →
      list_any f (insert_key pair_cmp xs k) ≡ (f k || list_any f xs) →
      list_any f (match_ordering o (k ∷ x ∷ xs) (x ∷ xs) (x ∷ insert_key pair_cmp xs k))
      ≡ (f k || (f x || list_any f xs))
  put_at x xs Less is more = refl
  put_at x xs Equal is more = rw (alike x is) (twice (f k) (list_any f xs))
  put_at x xs Greater is more = ap (λ b. f x || b) more ∙ either_way (f x) (f k) (list_any f xs)

  any_put : (xs : List (ℕ × ℕ)) → list_any f (insert_key pair_cmp xs k) ≡ (f k || list_any f xs)
  any_put [] = refl
  any_put (x ∷ xs) = put_at x xs (pair_cmp k x) refl (any_put xs)

-- this pair is among those from then on, and all others are as they were
pub applied-marked : (c n d m : ℕ) (r : Related) →
    is_applied d m (with_applied c n r) ≡ (same_pair (d, m) (c, n) || is_applied d m r)
applied-marked c n d m r =
    any_put (same_pair (d, m)) (c, n) (λ x e. ap (same_pair (d, m)) (sym (exact_pair (c, n) x e))) r.applied
