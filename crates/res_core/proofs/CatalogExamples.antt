-- What catalogs keep, at worked examples.
use Rattle.std.proofs.Common.{◌≡◌, ℕ, true, false, List, [], ◌∷◌, refl, codes}
use Rattle.std.specs.Ordering.{nat_cmp}
use Rattle.pp_values.specs.Datum.{text, default}
use Rattle.pp_values.specs.Settings.{Setting}
use Rattle.pp_values.specs.declared.reference.Reference.{Reference}
use Rattle.res_core.specs.Catalogs.{are_apart, are_containers, edge_cmp, has_form, is_between, is_ordered, reference_of}
use Rattle.res_core.specs.declared.edge.Edge.{Edge}
use Rattle.res_core.specs.declared.held.Held.{Held}

abbrev named : List ℕ → List ℕ → Reference
named kind title = record { kind = kind; title = title }

abbrev held : List ℕ → List Setting → Held
held kind ss = record {
  item = record { kind = kind; title = codes "x"; attributes = ss; tags = [] };
  inside = 0 ∷ [];
}

abbrev edge : ℕ → ℕ → Edge
edge from to = record { from = from; to = to; signal = true }

-- titles are told apart letter by letter, and kinds too
apart : are_apart (named (codes "file") (codes "a") ∷ named (codes "user") (codes "a") ∷ named (codes "file") (codes "A") ∷ []) ≡ true
apart = refl

twice : are_apart (named (codes "file") (codes "a") ∷ named (codes "user") (codes "a") ∷ named (codes "file") (codes "a") ∷ []) ≡ false
twice = refl

same : reference_of (held (codes "file") []) ≡ named (codes "file") (codes "x")
same = refl

-- of three resources
contained : are_containers 3 (0 ∷ 2 ∷ []) ≡ true
contained = refl

not_in_range : are_containers 3 (0 ∷ 3 ∷ []) ≡ false
not_in_range = refl

not_rising : are_containers 3 (2 ∷ 0 ∷ []) ≡ false
not_rising = refl

container_twice : are_containers 3 (1 ∷ 1 ∷ []) ≡ false
container_twice = refl

in_any_order : is_ordered nat_cmp [] ≡ true
in_any_order = refl

formed : has_form (held (codes "file") ((codes "mode", text (codes "0644")) ∷ [])) ≡ true
formed = refl

default_left : has_form (held (codes "file") ((codes "mode", default) ∷ [])) ≡ false
default_left = refl

-- a kind is in lower case
no_kind : has_form (held (codes "File") []) ≡ false
no_kind = refl

between : is_between 2 (edge 1 0) ≡ true
between = refl

past_the_last : is_between 2 (edge 1 2) ≡ false
past_the_last = refl

-- by `from` first
edges_rise : is_ordered edge_cmp (edge 0 2 ∷ edge 1 0 ∷ edge 1 1 ∷ []) ≡ true
edges_rise = refl

edges_fall : is_ordered edge_cmp (edge 0 2 ∷ edge 1 1 ∷ edge 1 0 ∷ []) ≡ false
edges_fall = refl

edge_twice : is_ordered edge_cmp (edge 0 2 ∷ edge 0 2 ∷ []) ≡ false
edge_twice = refl
