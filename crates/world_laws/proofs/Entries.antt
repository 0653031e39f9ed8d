-- Entries in the order of their keys, and one more of them.
use Rattle.std.proofs.Common.{◌≡◌, Bool, true, false, cond, List, [], ◌∷◌, Option, None, Some, refl, ap, ◌∙◌, Ordering}
use Rattle.std.specs.BTreeMap.{insert_entry}
use Rattle.std.specs.Cmp.{IsTotalOrder}
use Rattle.std.specs.Map.{lookup}
use Rattle.std.specs.Ordering.{is_eq, match_ordering}
use Rattle.std.specs.declared.cmp.Ordering.TheVariants.{Less, Equal, Greater}

equal : (o : Ordering) → is_eq o ≡ true → o ≡ Equal
equal Less e = absurd cc
equal Equal e = refl
equal Greater e = absurd cc

module _ {K X : Type 0} (cmp : K → K → Ordering) (total : IsTotalOrder cmp) where
  -- the value at a key
  abbrev value : K → List (K × X) → Option X
  value x = lookup (λ y. is_eq (cmp x y))

  -- keys that the order doesn't tell apart have the same value
  same_value : (x k : K) (es : List (K × X)) → is_eq (cmp x k) ≡ true → value x es ≡ value k es
  same_value x k es is = ap (λ test. lookup test es) (λ i y. is_eq (total.congr x k y (equal (cmp x k) is) i))

  -- what was found is found behind a new entry, at whose key there was nothing
  past : (b : Bool) (x k : K) (v d : X) (es : List (K × X)) → (b ≡ true → value x es ≡ value k es) →
      value k es ≡ None → value x es ≡ Some d → cond b (Some v) (value x es) ≡ Some d
  past true x k v d es same none e = let one : value x es ≡ None = same refl ∙ none in absurd cc
  past false x k v d es same none e = e

  -- the same key among these
  within : (b : Bool) (v d : X) (o p : Option X) → (o ≡ Some d → p ≡ Some d) →
      cond b (Some v) o ≡ Some d → cond b (Some v) p ≡ Some d
  within true v d o p same e = e
  within false v d o p same e = same e

  found_by : (o : Ordering) (k : K) (v : X) (e : K × X) (es new : List (K × X)) (x : K) (d : X) →
      cond (is_eq o) (Some e.1) (value k es) ≡ None → value k (e ∷ es) ≡ None →
      (value k es ≡ None → value x es ≡ Some d → value x new ≡ Some d) →
      value x (e ∷ es) ≡ Some d →
      value x (match_ordering o ((k, v) ∷ e ∷ es) ((e.0, v) ∷ es) (e ∷ new)) ≡ Some d
  found_by Less k v e es new x d none no_value more found =
      past (is_eq (cmp x k)) x k v d (e ∷ es) (same_value x k (e ∷ es)) no_value found
  found_by Equal k v e es new x d none no_value more found = absurd cc
  found_by Greater k v e es new x d none no_value more found =
      within (is_eq (cmp x e.0)) e.1 d (value x es) (value x new) (more none) found

  pub found_still : (k : K) (v : X) (es : List (K × X)) → value k es ≡ None → (x : K) (d : X) →
      value x es ≡ Some d → value x (insert_entry cmp es k v) ≡ Some d
  found_still k v [] none x d e = absurd cc
  found_still k v (e ∷ es) none x d found =
      found_by (cmp k e.0) k v e es (insert_entry cmp es k v) x d none none (λ n. found_still k v es n x d) found
