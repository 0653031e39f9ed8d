-- How deep a value nests: how many lists, hashes and data types stand within one another, the value itself included.
use Rattle.std.specs.Prelude.{◌≡◌, ℕ, ◌+◌, ◌≤◌, max, List}
use Rattle.pp_values.specs.Sort.{Sort, of, Arguments, none, kind, bound, text, types_arguments}
use Rattle.pp_values.specs.Datum as d
use Rattle.pp_values.specs.Datum.{Datum, Pair, Data, no_data, datum, Entries, no_entries, entry, data_of, entries_of}

-- no value nests deeper
abbrev pub max_nesting : ℕ
max_nesting = 4096

abbrev mutual
  pub sort_depth : Sort → ℕ
  sort_depth (of n xs) = arguments_depth xs + 1

  pub arguments_depth : Arguments → ℕ
  arguments_depth none = 0
  arguments_depth (kind s xs) = max (sort_depth s) (arguments_depth xs)
  arguments_depth (bound a xs) = arguments_depth xs
  arguments_depth (text a xs) = arguments_depth xs

abbrev pub arguments_of : Sort → Arguments
arguments_of (of n xs) = xs

-- a key is an integer or a text, so it has no depth
abbrev mutual
  pub depth : Datum → ℕ
  depth (d.list ds) = inner_depth ds + 1
  depth (d.hash es) = entries_depth es + 1
  depth (d.kind s) = sort_depth s
  depth v = 0

  pub inner_depth : Data → ℕ
  inner_depth no_data = 0
  inner_depth (datum v ds) = max (depth v) (inner_depth ds)

  pub entries_depth : Entries → ℕ
  entries_depth no_entries = 0
  entries_depth (entry k v es) = max (depth v) (entries_depth es)

-- the depth of the deepest of these values, of these pairs' values, and of these types
abbrev pub deepest : List Datum → ℕ
deepest ds = inner_depth (data_of ds)

abbrev pub deepest_value : List Pair → ℕ
deepest_value ps = entries_depth (entries_of ps)

abbrev pub deepest_type : List Sort → ℕ
deepest_type ts = arguments_depth (types_arguments ts)

-- a depth that is kept is that of what it is kept with, which does not nest too deep
abbrev pub IsDepth : ℕ → ℕ → Type 0
IsDepth kept depth = (kept ≡ depth) × (depth ≤ max_nesting)
