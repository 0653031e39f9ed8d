-- The levels of a table: runs of leaves of rows.
use Rattle.std.specs.Prelude.{ℕ, ◌≤◌, ◌&&◌, Bool, true, IsTrue, List, [], ◌∷◌, length, Option, None, Some}
use Rattle.std.specs.List.{flat_map, All}
use Rattle.std.specs.Arc.{arc_value}
use Rattle.std.specs.declared.sync.Arc.{Arc}
use Rattle.std.specs.declared.alloc.Global.{Global}
use Rattle.std.specs.FinMap.{FinMap, is_sorted}
use Rattle.std.specs.FinMap.Entries.{below_all}
use Rattle.std.specs.Ordering.{is_gt}
use Rattle.pp_values.specs.Rising.{text_cmp}
use Rattle.export_store.specs.declared.leaf.Leaf.{Leaf}
use Rattle.export_store.specs.declared.run.Run.{Run}
use Rattle.export_store.specs.declared.root.Root.{Root}
use Rattle.export_store.specs.Rows.{EntryOf, entries_of}

-- a map from texts to values; its entries stand by key, in byte order
abbrev pub MapOf : Type 0 → Type 0
MapOf V = FinMap text_cmp V

-- from 1 to 64 members
abbrev pub Fits : {X : Type 0} → List X → Type 0
Fits members = (1 ≤ length members) × (length members ≤ 64)

module _ {V : Type 0} where
  abbrev pub leaf_entries : Arc (Leaf V) Global → List (EntryOf V)
  leaf_entries leaf = entries_of (arc_value leaf).rows.items

  -- the entries of leaves, one after another
  abbrev pub leaves_entries : List (Arc (Leaf V) Global) → List (EntryOf V)
  leaves_entries = flat_map leaf_entries

  abbrev pub run_entries : Arc (Run V) Global → List (EntryOf V)
  run_entries run = leaves_entries (arc_value run).leaves.items

  abbrev pub runs_entries : List (Arc (Run V) Global) → List (EntryOf V)
  runs_entries = flat_map run_entries

  abbrev pub IsLeaf : Arc (Leaf V) Global → Type 0
  IsLeaf leaf = Fits (arc_value leaf).rows.items

  abbrev pub IsRun : Arc (Run V) Global → Type 0
  IsRun run = Fits (arc_value run).leaves.items × All IsLeaf (arc_value run).leaves.items

  -- all keys are below this one
  abbrev pub is_above : List ℕ → List (EntryOf V) → Bool
  is_above key [] = true
  is_above key (e ∷ es) = is_gt (text_cmp key e.0) && is_above key es

  -- what stands in front is below the key, and what stands behind is above it
  pub record Around (key : List ℕ) (front back : List (EntryOf V)) : Type 0 where
    pub lower : IsTrue (is_above key front)
    pub higher : IsTrue (below_all text_cmp key back)

  -- a table's runs; an empty one may have no root
  abbrev pub root_runs : Option (Arc (Root V) Global) → List (Arc (Run V) Global)
  root_runs None = []
  root_runs (Some root) = (arc_value root).runs.items

  abbrev pub root_entries : Option (Arc (Root V) Global) → List (EntryOf V)
  root_entries root = runs_entries (root_runs root)

  -- the entries stand in the order of their keys, and each leaf and each run has from 1 to 64 members
  pub record IsTable (root : Option (Arc (Root V) Global)) : Type 0 where
    pub sorted : IsTrue (is_sorted text_cmp (root_entries root))
    pub runs : All IsRun (root_runs root)
