-- Pairs the other way round.
use Rattle.std.proofs.Common.{◌≡◌, ℕ, ◌<◌, List, [], ◌∷◌, map, inl, inr, refl, sym, subst, ap, ◌∙◌}
use Rattle.std.proofs.lemmas.List.Elements.{All-map}
use lib.ListN.{get_or-map, length-map}
use Rattle.rel_graph.specs.Chains.{Paired, Chain, Closure}
use Rattle.rel_graph.specs.Before.{Belongs, Direct}
use Rattle.rel_graph.specs.Pairs.{AllBelow, flip}
use Rattle.rel_graph.proofs.Chains.{closure_join}

pub paired_flip : (pairs : List (ℕ × ℕ)) (a b : ℕ) → Paired pairs a b → Paired (map flip pairs) b a
paired_flip pairs a b (k, within, is) =
    (k, subst (λ n. k < n) (sym (length-map pairs flip)) within, get_or-map flip pairs k (a, b) ∙ ap flip is)

pub flip_again : (pairs : List (ℕ × ℕ)) → map flip (map flip pairs) ≡ pairs
flip_again [] = refl
flip_again (p ∷ pairs) = ap (λ ps. p ∷ ps) (flip_again pairs)

pub paired_back : (pairs : List (ℕ × ℕ)) (a b : ℕ) → Paired (map flip pairs) b a → Paired pairs a b
paired_back pairs a b h = subst (λ ps. Paired ps a b) (flip_again pairs) (paired_flip (map flip pairs) b a h)

pub chain_flip : (pairs : List (ℕ × ℕ)) (a b : ℕ) (between : List ℕ) → Chain (Paired pairs) a between b →
    Closure (Paired (map flip pairs)) b a
chain_flip pairs a b [] h = ([], paired_flip pairs a b h)
chain_flip pairs a b (x ∷ between) h =
    closure_join (Paired (map flip pairs)) b x a (chain_flip pairs x b between h.1) ([], paired_flip pairs a x h.0)

pub belongs_flip : (pairs : List (ℕ × ℕ)) (r c : ℕ) → Belongs pairs r c → Belongs (map flip pairs) c r
belongs_flip pairs r c (inl e) = inl (sym e)
belongs_flip pairs r c (inr h) = inr (chain_flip pairs c r h.0 h.1)

pub belongs_back : (pairs : List (ℕ × ℕ)) (r c : ℕ) → Belongs (map flip pairs) c r → Belongs pairs r c
belongs_back pairs r c h = subst (λ ps. Belongs ps r c) (flip_again pairs) (belongs_flip (map flip pairs) c r h)

pub below_flip : (pairs : List (ℕ × ℕ)) (n : ℕ) → AllBelow pairs n → AllBelow (map flip pairs) n
below_flip pairs n h = All-map (λ p. (p.0 < n) × (p.1 < n)) flip pairs (λ k d l. let b = h k d l in (b.1, b.0))

pub direct_flip : (containers edges : List (ℕ × ℕ)) (r s : ℕ) → Direct containers edges r s →
    Direct containers (map flip edges) s r
direct_flip containers edges r s d =
    record {
      earlier = d.later;
      later = d.earlier;
      edge = paired_flip edges d.earlier d.later d.edge;
      source =
          d.target;
      target = d.source;
    }

pub direct_back : (containers edges : List (ℕ × ℕ)) (r s : ℕ) → Direct containers (map flip edges) s r →
    Direct containers edges r s
direct_back containers edges r s d = subst (λ es. Direct containers es r s) (flip_again edges)
    (direct_flip containers (map flip edges) s r d)
