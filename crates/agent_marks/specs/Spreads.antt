-- Marks on resources, and where they lead.
use Rattle.std.specs.Prelude.{◌≡◌, ◌↔◌, ℕ, ◌+◌, ◌<◌, ◌≤◌, Bool, not, List, [], length, get_or}
use Rattle.std.specs.List.{count_by}
use Rattle.std.specs.declared.alloc.Global.{Global}
use Rattle.std.specs.declared.vec.Vec.{Vec}
use Rattle.rel_graph.specs.Before.{Belongs}
use Rattle.rel_graph.specs.Marks.{Marked}
use Rattle.rel_graph.specs.Pairs.{AllBelow}
use Rattle.agent_marks.specs.Nodes.{begin_of, end_of, targets, Closed}

-- so many resources, the arrows between their nodes, and the marks on these
pub record Marking : Type 0 where
  pub count : ℕ
  pub arrows : List (ℕ × ℕ)
  pub nodes : List Bool

-- two nodes for each resource
abbrev pub nodes_of : ℕ → ℕ
nodes_of count = count + count

-- a mark on x spreads to y
abbrev pub Leads : Marking → ℕ → ℕ → Type 0
Leads m x y = Belongs m.arrows (begin_of y) (end_of x)

-- x is marked, by itself or by what leads to it
abbrev pub IsMarked : Marking → ℕ → Type 0
IsMarked m x = Marked m.nodes (begin_of x)

-- no node is marked
pub record IsEmpty (count : ℕ) (arrows : List (ℕ × ℕ)) (m : Marking) : Type 0 where
  pub size : m.count ≡ count
  pub leads_by : m.arrows ≡ arrows
  pub none : (x : ℕ) → ¬ (Marked m.nodes x)

-- nothing is marked, and marks spread as R says
pub record IsNew (count : ℕ) (R : ℕ → ℕ → Type 0) (m : Marking) : Type 0 where
  pub size : m.count ≡ count
  pub leads : (x y : ℕ) → Leads m x y ↔ R x y
  pub none : (x : ℕ) → ¬ (IsMarked m x)

-- The table has the targets of each node, what is marked has all marked that it leads to, and the stack is empty, with
-- room for all nodes that are not marked.
pub record IsMarking (count : ℕ) (arrows : List (ℕ × ℕ)) (table : List (Vec ℕ Global)) (nodes : List Bool)
    (stack : List ℕ) (room : ℕ) : Type 0 where
  pub below : AllBelow arrows (nodes_of count)
  pub wide : length table ≡ nodes_of count
  pub lists : (u : ℕ) (d : Vec ℕ Global) → u < length table → (get_or table u d).items ≡ targets arrows u
  pub long : length nodes ≡ nodes_of count
  pub closed : Closed arrows nodes
  pub empty : stack ≡ []
  pub space : count_by not nodes ≤ room
