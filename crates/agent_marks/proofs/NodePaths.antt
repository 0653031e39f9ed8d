-- What arrows lead to: from the end of a resource to the begins of those that it comes before.
use Rattle.std.proofs.Common.{◌≡◌, ◌⊎◌, ℕ, List, [], ◌∷◌, inl, inr, refl, sym, subst, arith}
use Rattle.rel_graph.specs.Before.{Belongs, Direct, Before}
use Rattle.rel_graph.specs.Chains.{Paired, Chain}
use Rattle.rel_graph.specs.Pairs.{AllBelow}
use Rattle.rel_graph.proofs.Below.{before_below}
use Rattle.rel_graph.proofs.Chains.{closure_join, belongs_more, belongs_out, belongs_carries, belongs_join}
use Rattle.agent_marks.specs.Nodes.{begin_of, end_of, AreArrows}

begin_same : (a b : ℕ) → begin_of a ≡ begin_of b → a ≡ b
begin_same a b e = omega (arith, e)

end_same : (a b : ℕ) → end_of a ≡ end_of b → a ≡ b
end_same a b e = omega (arith, e)

begin_is_no_end : (a b : ℕ) → begin_of a ≡ end_of b → ⊥
begin_is_no_end a b e = omega (arith, e)

module _ (C E : List (ℕ × ℕ)) where
  deeper : (s c x : ℕ) → Paired C c x → Direct C E s c → Direct C E s x
  deeper s c x p d = record {
    earlier = d.earlier;
    later = d.later;
    edge = d.edge;
    source = d.source;
    target = belongs_more C c x d.later d.target p;
  }

  chain_inside : (s c x : ℕ) (between : List ℕ) → Paired C c x → Chain (Direct C E) s between c → Chain (Direct C E) s between x
  chain_inside s c x [] p h = deeper s c x p h
  chain_inside s c x (y ∷ between) p h = (h.0, chain_inside y c x between p h.1)

  straight : (s a x : ℕ) → Belongs C s a → Paired E a x → Direct C E s x
  straight s a x b p = record { earlier = a; later = x; edge = p; source = b; target = inl refl }

-- ---- with arrows through resources: all that a resource comes before

module _ (n : ℕ) (C E arrows : List (ℕ × ℕ)) (a : AreArrows n C E arrows) (s : ℕ) where
  record Says (v : ℕ) : Type 0 where
    begins : (x : ℕ) → v ≡ begin_of x → Before C E s x
    ends : (x : ℕ) → v ≡ end_of x → Belongs C s x ⊎ ((q : ℕ) × Before C E s q × Belongs C q x)

  says_begin : (u x : ℕ) → Paired arrows u (begin_of x) → Says u → Before C E s x
  says_begin u x p h = elim (a.to_begin u x p) [
    | inl (c, e, k) ↦ (let b = h.begins c e in (b.0, chain_inside C E s c x b.0 k b.1))
    | inr (y, e, k) ↦ elim (h.ends y e) [
      | inl b ↦ ([], straight C E s y x b k)
      | inr (q, b, i) ↦ closure_join (Direct C E) s q x b ([], straight C E q y x i k)
    ]
  ]

  says_end : (u x : ℕ) → Paired arrows u (end_of x) → Says u → Belongs C s x ⊎ ((q : ℕ) × Before C E s q × Belongs C q x)
  says_end u x p h = elim (a.to_end u x p) [
    | inl (m, e, k) ↦ elim (h.ends m e) [
      | inl b ↦ inl (belongs_out C s m x k b)
      | inr (q, b, i) ↦ inr (q, b, belongs_out C q m x k i)
    ]
    | inr (e, k) ↦ inr (x, h.begins x e, inl refl)
  ]

  says_on : (u v : ℕ) → Paired arrows u v → Says u → Says v
  says_on u v p h = record {
    begins = λ x e. says_begin u x (subst (Paired arrows u) e p) h;
    ends = λ x e. says_end u x (subst (Paired arrows u) e p) h;
  }

  says_first : Says (end_of s)
  says_first = record {
    begins = λ x e. absurd (begin_is_no_end x s (sym e));
    ends = λ x e. inl (inl (end_same x s (sym e)));
  }

  pub led_before : (r : ℕ) → Belongs arrows (begin_of r) (end_of s) → Before C E s r
  led_before r b = (belongs_carries arrows Says says_on (begin_of r) (end_of s) b says_first).begins r refl

-- ---- without them: all that it comes directly before

module _ (C E arrows : List (ℕ × ℕ)) (a : AreArrows 0 C E arrows) (s : ℕ) where
  record SaysDirect (v : ℕ) : Type 0 where
    begins : (x : ℕ) → v ≡ begin_of x → Direct C E s x
    ends : (x : ℕ) → v ≡ end_of x → Belongs C s x

  direct_begin : (u x : ℕ) → Paired arrows u (begin_of x) → SaysDirect u → Direct C E s x
  direct_begin u x p h = elim (a.to_begin u x p) [
    | inl (c, e, k) ↦ deeper C E s c x k (h.begins c e)
    | inr (y, e, k) ↦ straight C E s y x (h.ends y e) k
  ]

  direct_end : (u x : ℕ) → Paired arrows u (end_of x) → SaysDirect u → Belongs C s x
  direct_end u x p h = elim (a.to_end u x p) [
    | inl (m, e, k) ↦ belongs_out C s m x k (h.ends m e)
    | inr (e, k) ↦ absurd (omega (arith, k))
  ]

  direct_on : (u v : ℕ) → Paired arrows u v → SaysDirect u → SaysDirect v
  direct_on u v p h = record {
    begins = λ x e. direct_begin u x (subst (Paired arrows u) e p) h;
    ends = λ x e. direct_end u x (subst (Paired arrows u) e p) h;
  }

  direct_first : SaysDirect (end_of s)
  direct_first = record {
    begins = λ x e. absurd (begin_is_no_end x s (sym e));
    ends = λ x e. inl (end_same x s (sym e));
  }

  pub led_direct : (r : ℕ) → Belongs arrows (begin_of r) (end_of s) → Direct C E s r
  led_direct r b = (belongs_carries arrows SaysDirect direct_on (begin_of r) (end_of s) b direct_first).begins r refl

-- ---- the other way

module _ (n : ℕ) (C E arrows : List (ℕ × ℕ)) (a : AreArrows n C E arrows) where
  climbs : (s c : ℕ) → Belongs C s c → Belongs arrows (end_of c) (end_of s)
  climbs s c b = belongs_carries C (λ x. Belongs arrows (end_of c) (end_of x))
      (λ x y p h. belongs_out arrows (end_of c) (end_of x) (end_of y) (a.up x y p) h) s c b (inl refl)

  descends : (r c : ℕ) → Belongs C r c → Belongs arrows (begin_of r) (begin_of c)
  descends r c b = belongs_carries C (λ x. Belongs arrows (begin_of x) (begin_of c))
      (λ x y p h. belongs_more arrows (begin_of x) (begin_of y) (begin_of c) h (a.down x y p)) r c b (inl refl)

  pub direct_led : (s r : ℕ) → Direct C E s r → Belongs arrows (begin_of r) (end_of s)
  direct_led s r d =
      belongs_join arrows (begin_of r) (begin_of d.later) (end_of s) (descends r d.later d.target)
      (belongs_join arrows (begin_of d.later) (end_of d.earlier) (end_of s)
      (belongs_more arrows (end_of d.earlier) (begin_of d.later) (end_of d.earlier) (inl refl) (a.across d.earlier d.later d.edge))
      (climbs s d.earlier d.source))

  module _ (below : AllBelow C n) (edges_below : AllBelow E n) where
    chain_led : (s r : ℕ) (between : List ℕ) → Chain (Direct C E) s between r → Belongs arrows (begin_of r) (end_of s)
    chain_led s r [] h = direct_led s r h
    chain_led s r (c ∷ between) h =
        belongs_join arrows (begin_of r) (end_of c) (end_of s) (chain_led c r between h.1)
        (belongs_more arrows (begin_of c) (end_of c) (end_of s) (direct_led s c h.0)
        (a.along c (before_below C E n c r below edges_below (between, h.1))))

    pub before_led : (s r : ℕ) → Before C E s r → Belongs arrows (begin_of r) (end_of s)
    before_led s r b = chain_led s r b.0 b.1
