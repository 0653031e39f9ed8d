-- Whether a data type includes another, told by the first case that fits. `inc` tells it of the types within.
use Rattle.std.specs.Prelude.{ℕ, Bool, true, false, not, ◌&&◌, ◌||◌, Option, None, Some, List, length, pos}
use Rattle.std.specs.Cmp.Lexicographic.{pointwise}
use Rattle.std.specs.List.{list_all, list_any}
use Rattle.std.specs.Str.{bytes_eq}
use Rattle.pp_types.specs.Forms.{Form, any, undef, default, boolean, integer, string, enum, data_, array, hash, variant}
use Rattle.pp_types.specs.Forms.{not_undef, tuple, type_, catalog_entry, class, resource, kind_of_resource, Forms}
use Rattle.pp_types.specs.Forms.{no_forms, and_form, list_of, optional, data_types}
use Rattle.pp_types.specs.Ranges.{is_in_range, is_within, same_range}
use Rattle.pp_types.specs.Lengths.{has_length}

abbrev pub same_title : Option (List ℕ) → Option (List ℕ) → Bool
same_title None None = true
same_title (Some a) (Some b) = bytes_eq a b
same_title a b = false

abbrev mutual
  pub same : Form → Form → Bool
  same any any = true
  same undef undef = true
  same default default = true
  same boolean boolean = true
  same (integer r) (integer s) = same_range r s
  same (string r) (string s) = same_range r s
  same (enum ts) (enum us) = pointwise bytes_eq ts us
  same data_ data_ = true
  same (array t r) (array u s) = same t u && same_range r s
  same (hash k v r) (hash l u s) = same k l && (same v u && same_range r s)
  same (variant ts) (variant us) = same_forms ts us
  same (not_undef t) (not_undef u) = same t u
  same (tuple ts) (tuple us) = same_forms ts us
  same (type_ t) (type_ u) = same t u
  same catalog_entry catalog_entry = true
  same (class a) (class b) = same_title a b
  same resource resource = true
  same (kind_of_resource k a) (kind_of_resource l b) = bytes_eq k l && same_title a b
  same t u = false

  pub same_forms : Forms → Forms → Bool
  same_forms no_forms no_forms = true
  same_forms (and_form t ts) (and_form u us) = same t u && same_forms ts us
  same_forms ts us = false

abbrev pub is_any : Form → Bool
is_any any = true
is_any t = false

-- whether a type accepts Undef
abbrev mutual
  pub accepts_undef : Form → Bool
  accepts_undef any = true
  accepts_undef undef = true
  accepts_undef data_ = true
  accepts_undef (variant ts) = some_accept_undef ts
  accepts_undef t = false

  pub some_accept_undef : Forms → Bool
  some_accept_undef no_forms = false
  some_accept_undef (and_form t ts) = accepts_undef t || some_accept_undef ts

-- a title left out stands for each title
abbrev pub title_covers : Option (List ℕ) → Option (List ℕ) → Bool
title_covers None b = true
title_covers (Some a) None = false
title_covers (Some a) (Some b) = bytes_eq a b

-- types that accept no value: `CatalogEntry` includes `Class` and `Resource`, `Class` each class, `Resource` each other
-- kind, and a kind itself with a title
abbrev pub entry_covers : Form → Form → Bool
entry_covers catalog_entry catalog_entry = true
entry_covers catalog_entry (class b) = true
entry_covers catalog_entry resource = true
entry_covers catalog_entry (kind_of_resource l b) = true
entry_covers (class a) (class b) = title_covers a b
entry_covers resource resource = true
entry_covers resource (kind_of_resource l b) = true
entry_covers (kind_of_resource k a) (kind_of_resource l b) = bytes_eq k l && title_covers a b
entry_covers w n = false

-- Both are of one kind.
abbrev pub covers : (Form → Form → Bool) → Form → Form → Bool
covers inc undef undef = true
covers inc default default = true
covers inc boolean boolean = true
covers inc (integer r) (integer s) = is_within r s
covers inc (string r) (string s) = is_within r s
covers inc (string r) (enum us) = list_all (has_length r) us
covers inc (enum ts) (enum us) = list_all (λ u. list_any (bytes_eq u) ts) us
covers inc (array t r) (array u s) = is_within r s && inc t u
covers inc (array t r) (tuple us) = is_in_range r (pos (length (list_of us))) && list_all (inc t) (list_of us)
covers inc (hash k v r) (hash l u s) = is_within r s && (inc k l && inc v u)
covers inc (tuple ts) (tuple us) = pointwise inc (list_of ts) (list_of us)
covers inc (type_ t) (type_ u) = inc t u
covers inc catalog_entry n = entry_covers catalog_entry n
covers inc (class a) n = entry_covers (class a) n
covers inc resource n = entry_covers resource n
covers inc (kind_of_resource k a) n = entry_covers (kind_of_resource k a) n
covers inc w n = false

-- the same, of the types as which `Data` counts
abbrev pub data_covers : (Form → Form → Bool) → Form → Bool
data_covers inc n = list_any (λ t. covers inc t n) data_types

-- W is a `Variant`: some type of it includes N. W is `NotUndef[T]`: T includes N, and N does not accept Undef.
-- `Data` counts as a `Variant` of types that are neither.
abbrev pub by_wide : (Form → Form → Bool) → Form → Form → Bool
by_wide inc (variant ts) n = list_any (λ t. inc t n) (list_of ts)
by_wide inc (not_undef t) n = inc t n && not (accepts_undef n)
by_wide inc data_ n = data_covers inc n
by_wide inc w n = covers inc w n

-- N is a `Variant`: W includes each of its types. N is `NotUndef[T]`: `Optional[W]` includes T.
-- `Data` counts as a `Variant` of types that are neither.
abbrev pub by_narrow : (Form → Form → Bool) → Form → Form → Bool
by_narrow inc w (variant ts) = list_all (inc w) (list_of ts)
by_narrow inc w (not_undef t) = inc (optional w) t
by_narrow inc w data_ = list_all (by_wide inc w) data_types
by_narrow inc w n = by_wide inc w n

abbrev pub past_first : Bool → (Form → Form → Bool) → Form → Form → Bool
past_first true inc w n = true
past_first false inc w n = by_narrow inc w n

-- Both are the same, or W is `Any`.
abbrev pub by_rules : (Form → Form → Bool) → Form → Form → Bool
by_rules inc w n = past_first (same w n || is_any w) inc w n
