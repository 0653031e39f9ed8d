-- Whatever stands before something is one of the resources.
use Rattle.std.proofs.Common.{ℕ, ◌<◌, List, [], ◌∷◌}
use Rattle.std.proofs.lemmas.List.Elements.{All-contains}
use Rattle.rel_graph.specs.Chains.{Paired, Chain}
use Rattle.rel_graph.specs.Before.{Belongs, Direct, Before}
use Rattle.rel_graph.specs.Pairs.{AllBelow}
use Rattle.rel_graph.proofs.Chains.{belongs_carries}

pub paired_below : (pairs : List (ℕ × ℕ)) (n a b : ℕ) → AllBelow pairs n → Paired pairs a b → (a < n) × (b < n)
paired_below pairs n a b h p = All-contains (λ q. (q.0 < n) × (q.1 < n)) pairs (a, b) h p

pub belongs_below : (pairs : List (ℕ × ℕ)) (n r c : ℕ) → AllBelow pairs n → Belongs pairs r c → c < n → r < n
belongs_below pairs n r c h b = belongs_carries pairs (λ x. x < n) (λ x y p _. (paired_below pairs n x y h p).1) r c b

pub direct_below : (containers edges : List (ℕ × ℕ)) (n r s : ℕ) → AllBelow containers n → AllBelow edges n →
    Direct containers edges r s → r < n
direct_below containers edges n r s h k d = belongs_below containers n r d.earlier h d.source
    (paired_below edges n d.earlier d.later k d.edge).0

pub chain_below : (R : ℕ → ℕ → Type 0) (n a b : ℕ) (between : List ℕ) → ((r s : ℕ) → R r s → r < n) →
    Chain R a between b → a < n
chain_below R n a b [] below h = below a b h
chain_below R n a b (c ∷ between) below h = below a c h.0

pub before_below : (containers edges : List (ℕ × ℕ)) (n a b : ℕ) → AllBelow containers n → AllBelow edges n →
    Before containers edges a b → a < n
before_below containers edges n a b h k before =
    chain_below (Direct containers edges) n a b before.0 (λ r s. direct_below containers edges n r s h k) before.1
