-- Which resources come before which, in rising order of both indexes, each pair once, and whether it signals.
use Rattle.std.specs.Prelude.{ℕ, Bool, false, ◌||◌, List, [], ◌∷◌, map, filter, unwrap_or}
use Rattle.std.specs.BTreeMap.{insert_entry, is_at}
use Rattle.std.specs.Map.{lookup}
use Rattle.std.specs.Ordering.{nat_cmp, ordering_then}
use Rattle.std.specs.declared.cmp.Ordering.{Ordering}
use Rattle.res_core.specs.Catalogs.{is_between}
use Rattle.res_core.specs.declared.edge.Edge.{Edge}

abbrev pub pair_cmp : ℕ × ℕ → ℕ × ℕ → Ordering
pair_cmp x y = ordering_then (nat_cmp x.0 y.0) (nat_cmp x.1 y.1)

-- a pair of indexes, and whether it signals
abbrev pub Entry : Type 0
Entry = (ℕ × ℕ) × Bool

abbrev pub signals : List Entry → ℕ × ℕ → Bool
signals es pair = unwrap_or (lookup (is_at (pair_cmp pair)) es) false

-- one more, or the same one again: it signals where one of them does
abbrev pub with_edge : List Entry → ℕ → ℕ → Bool → List Entry
with_edge es from to signal = insert_entry pair_cmp es (from, to) (signal || signals es (from, to))

-- from one index to each of these
unfoldable pub edges_from : List Entry → ℕ → List ℕ → Bool → List Entry
edges_from es from [] signal = es
edges_from es from (to ∷ rest) signal = edges_from (with_edge es from to signal) from rest signal

-- from each of these to each of those
unfoldable pub joined : List Entry → List ℕ → List ℕ → Bool → List Entry
joined es [] right signal = es
joined es (from ∷ rest) right signal = joined (edges_from es from right signal) rest right signal

abbrev pub edge_of : Entry → Edge
edge_of e = record { from = e.0.0; to = e.0.1; signal = e.1 }

-- those between resources, of which there are so many
abbrev pub edges_of : ℕ → List Entry → List Edge
edges_of count es = filter (is_between count) (map edge_of es)
