-- Chains joined, and what stands inside what.
use Rattle.std.proofs.Common.{ℕ, List, [], ◌∷◌, ◌++◌, inl, inr, subst, sym}
use Rattle.rel_graph.specs.Chains.{Paired, Chain, Closure}
use Rattle.rel_graph.specs.Before.{Inside, Belongs}

pub chain_join : (R : ℕ → ℕ → Type 0) (a b c : ℕ) (u v : List ℕ) → Chain R a u b → Chain R b v c →
    Chain R a (u ++ b ∷ v) c
chain_join R a b c [] v h k = (h, k)
chain_join R a b c (x ∷ u) v h k = (h.0, chain_join R x b c u v h.1 k)

pub closure_join : (R : ℕ → ℕ → Type 0) (a b c : ℕ) → Closure R a b → Closure R b c → Closure R a c
closure_join R a b c h k = (h.0 ++ b ∷ k.0, chain_join R a b c h.0 k.0 h.1 k.1)

-- one pair further from the container
pub belongs_more : (pairs : List (ℕ × ℕ)) (r s c : ℕ) → Belongs pairs r c → Paired pairs r s → Belongs pairs s c
belongs_more pairs r s c (inl e) p = inr ([], subst (λ x. Paired pairs x s) (sym e) p)
belongs_more pairs r s c (inr h) p = inr (closure_join (Paired pairs) c r s h ([], p))

-- one pair further out
pub belongs_out : (pairs : List (ℕ × ℕ)) (r c d : ℕ) → Paired pairs d c → Belongs pairs r c → Belongs pairs r d
belongs_out pairs r c d p (inl e) = inr ([], subst (λ x. Paired pairs d x) e p)
belongs_out pairs r c d p (inr h) = inr (c ∷ h.0, (p, h.1))

-- a fact that each pair hands on holds wherever pairs lead
pub chain_carries : (pairs : List (ℕ × ℕ)) (P : ℕ → Type 0) → ((x y : ℕ) → Paired pairs x y → P x → P y) →
    (a b : ℕ) (between : List ℕ) → Chain (Paired pairs) a between b → P a → P b
chain_carries pairs P step a b [] h p = step a b h p
chain_carries pairs P step a b (x ∷ between) h p = chain_carries pairs P step x b between h.1 (step a x h.0 p)

pub belongs_carries : (pairs : List (ℕ × ℕ)) (P : ℕ → Type 0) → ((x y : ℕ) → Paired pairs x y → P x → P y) →
    (r c : ℕ) → Belongs pairs r c → P c → P r
belongs_carries pairs P step r c (inl e) p = subst P e p
belongs_carries pairs P step r c (inr h) p = chain_carries pairs P step c r h.0 h.1 p

pub belongs_join : (pairs : List (ℕ × ℕ)) (r c d : ℕ) → Belongs pairs r c → Belongs pairs c d → Belongs pairs r d
belongs_join pairs r c d (inl e) k = subst (λ x. Belongs pairs x d) e k
belongs_join pairs r c d (inr h) (inl e) = inr (subst (λ x. Inside pairs r x) (sym e) h)
belongs_join pairs r c d (inr h) (inr k) = inr (closure_join (Paired pairs) d c r k h)
