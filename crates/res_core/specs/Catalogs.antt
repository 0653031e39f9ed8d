-- What a catalog holds, and what holds of it at each moment.
use Rattle.std.specs.Prelude.{ℕ, nat_lt, IsTrue, Bool, true, not, ◌&&◌, List, [], ◌∷◌, length, map}
use Rattle.std.specs.List.{list_all, list_any}
use Rattle.std.specs.Ordering.{nat_cmp, is_lt, ordering_then}
use Rattle.std.specs.declared.cmp.Ordering.{Ordering}
use Rattle.pp_values.specs.Kinds.{is_kind}
use Rattle.pp_values.specs.References.{same_reference}
use Rattle.pp_values.specs.declared.reference.Reference.{Reference}
use Rattle.res_core.specs.PlainAttributes.{are_plain}
use Rattle.res_core.specs.declared.edge.Edge.{Edge}
use Rattle.res_core.specs.declared.held.Held.{Held}
use Rattle.res_core.specs.declared.log_line.LogLine.{LogLine}

-- a node's resources, each at its index, and which of them come before which
pub record Catalog : Type 0 where
  pub node : List ℕ
  pub resources : List Held
  pub edges : List Edge
  pub log : List LogLine

-- it is below the first of the others, if there is one
abbrev pub is_before : {A : Type 0} → (A → A → Ordering) → A → List A → Bool
is_before cmp x [] = true
is_before cmp x (y ∷ ys) = is_lt (cmp x y)

-- each is below the next one, so that none stands twice
abbrev pub is_ordered : {A : Type 0} → (A → A → Ordering) → List A → Bool
is_ordered cmp [] = true
is_ordered cmp (x ∷ xs) = is_before cmp x xs && is_ordered cmp xs

abbrev pub reference_of : Held → Reference
reference_of h = record { kind = h.item.kind; title = h.item.title }

-- no two of them are the same
abbrev pub are_apart : List Reference → Bool
are_apart [] = true
are_apart (q ∷ qs) = not (list_any (same_reference q) qs) && are_apart qs

-- what contains a resource, of so many: rising indexes, all of them of resources
abbrev pub are_containers : ℕ → List ℕ → Bool
are_containers count indexes = list_all (λ i. nat_lt i count) indexes && is_ordered nat_cmp indexes

-- documents have a form of the resource's kind and of each value
abbrev pub has_form : Held → Bool
has_form h = is_kind h.item.kind && are_plain h.item.attributes

-- both of its indexes are those of resources
abbrev pub is_between : ℕ → Edge → Bool
is_between count e = nat_lt e.from count && nat_lt e.to count

-- by `from`, then by `to`
abbrev pub edge_cmp : Edge → Edge → Ordering
edge_cmp e f = ordering_then (nat_cmp e.from f.from) (nat_cmp e.to f.to)

-- No two resources have the same reference. Each index is that of one of them; what contains a resource rises. The
-- edges rise by both of their indexes, so that no pair stands twice.
pub record IsCatalog (resources : List Held) (edges : List Edge) : Type 0 where
  pub apart : IsTrue (are_apart (map reference_of resources))
  pub contained : IsTrue (list_all (λ h. are_containers (length resources) h.inside) resources)
  pub forms : IsTrue (list_all has_form resources)
  pub between : IsTrue (list_all (is_between (length resources)) edges)
  pub ordered : IsTrue (is_ordered edge_cmp edges)
