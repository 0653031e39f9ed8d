-- The order of a small catalog, found by computing: where only the first resource contains others, and no relation
-- names it.
use Rattle.std.proofs.Common.{◌≡◌, ℕ, zero, suc, ◌<◌, Bool, true, false, not, ◌&&◌, ◌||◌, List, [], ◌∷◌, length, take, slice_index, Contains, inl, inr, refl, sym, subst, ap, ◌∙◌, true≢false, arith}
use Rattle.std.specs.Cmp.{unsigned_Decides}
use Rattle.std.specs.Cmp.{nat_eq_equiv}
use Rattle.std.specs.List.{list_all, list_any}
use Rattle.std.specs.Prelude.{nat_eq, nat_lt}
use Rattle.std.proofs.lemmas.Bool.{cases_lt, ltb-true}
use Rattle.std.proofs.lemmas.Map.Views.{Contains-from_any, list_any-from_Contains}
use Rattle.rel_graph.specs.Before.{Belongs, Direct}
use Rattle.rel_graph.specs.Chains.{Paired, Chain, Closure}
use Rattle.rel_graph.specs.Cycles.{HasNoCycle}
use Rattle.rel_graph.specs.Orders.{Ready, IsNext, IsOrder}

pub first : (a b : Bool) → (a && b) ≡ true → a ≡ true
first true b e = refl
first false b e = e

pub second : (a b : Bool) → (a && b) ≡ true → b ≡ true
second true b e = e
second false b e = absurd (true≢false (sym e))

pub not_true : (b : Bool) → not b ≡ true → b ≡ false
not_true true e = absurd (true≢false (sym e))
not_true false e = refl

pub same : (a b : ℕ) → nat_eq a b ≡ true → a ≡ b
same a b h = (unsigned_Decides a b).0 h

pub itself : (a : ℕ) → nat_eq a a ≡ true
itself a = (unsigned_Decides a a).1 refl

pub holds_of : {X : Type 0} (p : X → Bool) (xs : List X) (x : X) → list_all p xs ≡ true → Contains xs x → p x ≡ true
holds_of p [] x h c = absurd (let l = c.1 in omega (arith, l))
holds_of p (y ∷ xs) x h (zero, less, is) = subst (λ z. p z ≡ true) is (first _ _ h)
holds_of p (y ∷ xs) x h (suc k, less, is) = holds_of p xs x (second _ _ h) (k, omega (arith, less), is)

pub found : {X : Type 0} (p : X → Bool) (xs : List X) → list_any p xs ≡ true → (x : X) × Contains xs x × (p x ≡ true)
found p [] h = absurd (true≢false (sym h))
found {X = X} p (y ∷ xs) h = elim (p y) as (λ b. p y ≡ b → (b || list_any p xs) ≡ true →
    (x : X) × Contains (y ∷ xs) x × (p x ≡ true)) [
      | true ↦ λ is k. (y, (0, omega arith, refl), is)
      | false ↦ λ is k. let rest = found p xs k in
          (rest.0, (suc rest.1.0, (let l = rest.1.1 in omega (arith, l)), rest.1.2), rest.2)
    ] refl h

pub any_of : {X : Type 0} (p : X → Bool) (xs : List X) (x : X) → Contains xs x → p x ≡ true → list_any p xs ≡ true
any_of p [] x c h = absurd (let l = c.1 in omega (arith, l))
any_of p (y ∷ xs) x (zero, less, is) h = ap (λ b. b || list_any p xs) (ap p is ∙ h)
any_of p (y ∷ xs) x (suc k, less, is) h =
    elim (p y) as (λ b. (b || list_any p xs) ≡ true) [
      | true ↦ refl
      | false ↦ any_of p xs x (k, omega (arith, less), is) h
    ]

abbrev pub has_index : List ℕ → ℕ → Bool
has_index listed x = list_any (nat_eq x) listed

is_there : (listed : List ℕ) (x : ℕ) → has_index listed x ≡ true → Contains listed x
is_there listed x h = Contains-from_any same x listed h

has_there : (listed : List ℕ) (x : ℕ) → Contains listed x → has_index listed x ≡ true
has_there listed x c = list_any-from_Contains nat_eq_equiv x listed c

abbrev under : ℕ → List ℕ
under zero = []
under (suc n) = n ∷ under n

under_all : (p : ℕ → Bool) (n k : ℕ) → list_all p (under n) ≡ true → k < n → p k ≡ true
under_all p zero k h less = absurd (omega (arith, less))
under_all p (suc n) k h less = elim (cases_lt k n) [
  | inl l ↦ under_all p n k (second _ _ h) l
  | inr m ↦ subst (λ j. p j ≡ true) (let e : n ≡ k = omega (arith, less, m) in e) (first _ _ h)
]

-- ---- what is directly before what

abbrev pub is_flat : List (ℕ × ℕ) → List (ℕ × ℕ) → Bool
is_flat containers pairs =
    list_all (λ p. nat_eq p.0 0 && not (nat_eq p.1 0)) containers
    && list_all (λ p. not (nat_eq p.0 0) && not (nat_eq p.1 0)) pairs

module _ (containers pairs : List (ℕ × ℕ)) (flat : is_flat containers pairs ≡ true) where
  outer : list_all (λ p. nat_eq p.0 0 && not (nat_eq p.1 0)) containers ≡ true
  outer = first _ _ flat

  own : (r c : ℕ) → Belongs containers r c → nat_eq c 0 ≡ false → c ≡ r
  own r c (inl e) apart = e
  own r c (inr inside) apart = absurd (true≢false (sym (at_first inside.0 inside.1) ∙ apart)) where
    at_first : (via : List ℕ) → Chain (Paired containers) c via r → nat_eq c 0 ≡ true
    at_first [] h = first _ _ (holds_of (λ p. nat_eq p.0 0 && not (nat_eq p.1 0)) containers (c, r) outer h)
    at_first (x ∷ via) h = first _ _ (holds_of (λ p. nat_eq p.0 0 && not (nat_eq p.1 0)) containers (c, x) outer h.0)

  pub direct_pair : (r s : ℕ) → Direct containers pairs r s → Contains pairs (r, s)
  direct_pair r s d =
      let plain = holds_of (λ p. not (nat_eq p.0 0) && not (nat_eq p.1 0)) pairs (d.earlier, d.later)
      (second _ _ flat) d.edge in
      let left : d.earlier ≡ r = own r d.earlier d.source (not_true _ (first _ _ plain)) in
      let right : d.later ≡ s = own s d.later d.target (not_true _ (second _ _ plain)) in
      subst (λ x. Contains pairs (x, s)) left (subst (λ x. Contains pairs (d.earlier, x)) right d.edge)

  pub pair_direct : (r s : ℕ) → Contains pairs (r, s) → Direct containers pairs r s
  pair_direct r s c = record { earlier = r; later = s; edge = c; source = inl refl; target = inl refl }

  pub no_containment : HasNoCycle (Paired containers)
  no_containment q closes = ends closes.0 q q closes.1 (starts closes.0 q q closes.1) where
    starts : (via : List ℕ) (a b : ℕ) → Chain (Paired containers) a via b → nat_eq a 0 ≡ true
    starts [] a b h = first _ _ (holds_of (λ p. nat_eq p.0 0 && not (nat_eq p.1 0)) containers (a, b) outer h)
    starts (x ∷ via) a b h = first _ _ (holds_of (λ p. nat_eq p.0 0 && not (nat_eq p.1 0)) containers (a, x) outer h.0)

    ends : (via : List ℕ) (a b : ℕ) → Chain (Paired containers) a via b → nat_eq b 0 ≡ true → ⊥
    ends [] a b h e =
        true≢false (sym e ∙ not_true _ (second _ _ (holds_of (λ p. nat_eq p.0 0 && not (nat_eq p.1 0)) containers
        (a, b) outer h)))
    ends (x ∷ via) a b h e = ends via x b h.1 e

  -- nothing comes before what no pair leads to
  pub none_before : (x : ℕ) → list_all (λ p. not (nat_eq p.1 x)) pairs ≡ true → (a : ℕ) →
      ¬ (Closure (Direct containers pairs) a x)
  none_before x h a closes = ends closes.0 a closes.1 where
    ends : (via : List ℕ) (b : ℕ) → Chain (Direct containers pairs) b via x → ⊥
    ends [] b d =
        true≢false (sym (itself x) ∙ not_true _ (holds_of (λ p. not (nat_eq p.1 x)) pairs (b, x) h (direct_pair b x d)))
    ends (z ∷ via) b d = ends via z d.1

  -- ---- the order

  abbrev ready_by : List ℕ → ℕ → Bool
  ready_by listed x = list_all (λ p. not (nat_eq p.1 x) || has_index listed p.0) pairs

  abbrev blocked : List ℕ → ℕ → Bool
  blocked listed x = list_any (λ p. nat_eq p.1 x && not (has_index listed p.0)) pairs

  abbrev is_next : ℕ → List ℕ → ℕ → Bool
  is_next count listed x =
      (nat_lt x count && not (has_index listed x)) && ((ready_by listed x && list_all (ready_by listed) listed)
      && list_all (λ z. has_index listed z || blocked listed z) (under x))

  abbrev pub is_order : ℕ → List ℕ → Bool
  is_order count order =
      list_all (λ k. is_next count (take k order) (slice_index order k)) (under (length order))
      && list_all (has_index order) (under count)

  before_by : (listed : List ℕ) (a x : ℕ) → ready_by listed x ≡ true → Direct containers pairs a x → Contains listed a
  before_by listed a x h d =
      let test = holds_of (λ p. not (nat_eq p.1 x) || has_index listed p.0) pairs (a, x) h (direct_pair a x d) in
      is_there listed a (subst (λ b. (not b || has_index listed a) ≡ true) (itself x) test)

  ready_made : (listed : List ℕ) (x : ℕ) → ready_by listed x ≡ true → list_all (ready_by listed) listed ≡ true →
      Ready (Direct containers pairs) listed x
  ready_made listed x h all y closes = back closes.0 y closes.1 where
    back : (via : List ℕ) (a : ℕ) → Chain (Direct containers pairs) a via x → Contains listed a
    back [] a d = before_by listed a x h d
    back (z ∷ via) a d = before_by listed a z (holds_of (ready_by listed) listed z all (back via z d.1)) d.0

  next_made : (count : ℕ) (listed : List ℕ) (x : ℕ) → is_next count listed x ≡ true →
      IsNext (Direct containers pairs) count listed x
  next_made count listed x h =
      let here = first _ _ h in
      let rest = second _ _ h in
      let readies = first _ _ rest in
      record {
        below = ltb-true x count (first _ _ here);
        unlisted = λ c. true≢false (sym (has_there listed x c) ∙ not_true _ (second _ _ here));
        ready = ready_made listed x (first _ _ readies) (second _ _ readies);
        least = λ other less free ready. elim (cases_lt other x) [
          | inl l ↦ absurd (stuck other free ready (under_all (λ z. has_index listed z || blocked listed z) x other
              (second _ _ rest) l))
          | inr m ↦ m
        ];
      } where
        stuck : (z : ℕ) → ¬ (Contains listed z) → Ready (Direct containers pairs) listed z →
            (has_index listed z || blocked listed z) ≡ true → ⊥
        stuck z free ready h = elim (has_index listed z) as
            (λ b. has_index listed z ≡ b → (b || blocked listed z) ≡ true → ⊥) [
              | true ↦ λ is k. free (is_there listed z is)
              | false ↦ λ is k.
                  let p = found (λ p. nat_eq p.1 z && not (has_index listed p.0)) pairs k in
                  let to : p.0.1 ≡ z = same p.0.1 z (first _ _ p.2) in
                  let d : Direct containers pairs p.0.0 z = pair_direct p.0.0 z
                  (subst (λ y. Contains pairs (p.0.0, y)) to p.1) in
                  true≢false (sym (has_there listed p.0.0 (ready p.0.0 ([], d))) ∙ not_true _ (second _ _ p.2))
            ] refl h

  pub order_made : (count : ℕ) (order : List ℕ) → is_order count order ≡ true →
      IsOrder (Direct containers pairs) count order
  order_made count order h = record {
    each = λ k less. next_made count (take k order) (slice_index order k)
        (under_all (λ j. is_next count (take j order) (slice_index order j)) (length order) k (first _ _ h) less);
    all = λ x less. is_there order x (under_all (has_index order) count x (second _ _ h) less);
  }
