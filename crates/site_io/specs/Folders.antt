-- What contracts see of a tree of files, and what its calls do.
use Rattle.std.specs.Prelude.{◌≡◌, ℕ, ◌<◌, ◌≤◌, ◌==◌, Bool, true, false, ◌||◌, if◌then◌else◌, nat_eq, nat_lt, codes}
use Rattle.std.specs.Prelude.{List, [], ◌∷◌, ◌++◌, length, drop, Option, Some, None, option_and_then}
use Rattle.std.specs.Prelude.{option_map, IsTrue, IfSome}
use Rattle.std.specs.BTreeMap.{is_at}
use Rattle.std.specs.Map.{lookup}
use Rattle.std.specs.List.{starts_with, ends_with, position_or_len, before_first}
use Rattle.pp_values.specs.Rising.{text_cmp, is_rising, with_texts}
use Rattle.site_io.specs.declared.tree.Listed.{Listed}
use Rattle.site_io.specs.declared.tree.Listed.TheVariants as listed
use Rattle.site_io.specs.declared.tree.Content.{Content}
use Rattle.site_io.specs.declared.tree.Content.TheVariants as content
use Rattle.site_io.specs.Stream.{Rose}

-- A path, and the bytes of the file there: none where it is listed and there is no file, as at a link that leads
-- nowhere.
abbrev pub Held : Type 0
Held = List ℕ × Option (List ℕ)

-- a call of a tree: its path, and whether it failed
pub record Call : Type 0 where
  pub path : List ℕ
  pub failed : Bool

-- a count of faults; the files, and the calls so far in their order, where the tree tells them
pub record Folder : Type 0 where
  pub faults : ℕ
  pub told : Option (List Held)
  pub calls : Option (List Call)

-- a tree that tells nothing
abbrev pub untold_folder : ℕ → Folder
untold_folder faults = record { faults = faults; told = None; calls = None }

-- ---- names

-- the name of a folder, and so its path, ends in a slash
abbrev pub ends_in_slash : List ℕ → Bool
ends_in_slash name = ends_with nat_eq name (codes "/")

-- what all paths in a folder begin with: the folder's path, and a slash unless it is empty or ends in one
abbrev pub folder_front : List ℕ → List ℕ
folder_front path = if nat_eq (length path) 0 || ends_in_slash path then path else path ++ codes "/"

-- what stands behind a front
abbrev pub after_front : List ℕ → List ℕ → Option (List ℕ)
after_front front path = if starts_with nat_eq path front then Some (drop (length front) path) else None

abbrev pub is_slash : ℕ → Bool
is_slash b = b == 47

-- up to the first slash, which belongs to the name of a folder
abbrev pub first_name : List ℕ → List ℕ
first_name path =
    if nat_lt (position_or_len is_slash path) (length path) then before_first is_slash path ++ codes "/" else path

abbrev pub name_in : List ℕ → List (List ℕ)
name_in path = if nat_eq (length path) 0 then [] else first_name path ∷ []

abbrev pub names_in_rest : Option (List ℕ) → List (List ℕ)
names_in_rest None = []
names_in_rest (Some rest) = name_in rest

-- the name by which a path lies behind a front, if it does
abbrev pub name_behind : List ℕ → List ℕ → List (List ℕ)
name_behind front path = names_in_rest (after_front front path)

-- the names, and those by which the files lie behind a front
unfoldable pub names_with : List (List ℕ) → List ℕ → List Held → List (List ℕ)
names_with names front [] = names
names_with names front (held ∷ files) = names_with (with_texts names (name_behind front held.0)) front files

abbrev pub unless_none : List (List ℕ) → Option (List (List ℕ))
unless_none [] = None
unless_none (n ∷ ns) = Some (n ∷ ns)

-- The names in a folder in byte order, each once. A folder is there where some file lies in it.
abbrev pub names_at : List ℕ → List Held → Option (List (List ℕ))
names_at path files = unless_none (names_with [] (folder_front path) files)

-- ---- content

-- the bytes of the file at a path
abbrev pub bytes_at : List ℕ → List Held → Option (List ℕ)
bytes_at path files = option_and_then (λ found. found) (lookup (is_at (text_cmp path)) files)

-- ---- calls

-- it tells the same, and its count did not fall
pub record IsSameFolder (before after : Folder) : Type 0 where
  pub later : before.faults ≤ after.faults
  pub told : after.told ≡ before.told

-- these calls were made, one after another, and no others
abbrev pub HasMade : List Call → Folder → Folder → Type 0
HasMade made before after = after.calls ≡ option_map (λ calls. calls ++ made) before.calls

-- this call was made
abbrev pub HasCalled : List ℕ → Bool → Folder → Folder → Type 0
HasCalled path failed before after = HasMade (record { path = path; failed = failed } ∷ []) before after

-- these are the names at a path, in byte order
pub record HasListed (names : List (List ℕ)) (path : List ℕ) (before after : Folder) : Type 0 where
  pub same : IsSameFolder before after
  pub rising : IsTrue (is_rising names)
  pub told : IfSome before.told (λ files. names_at path files ≡ Some names)
  pub called : HasCalled path false before after

abbrev pub Lists : Listed → List ℕ → Folder → Folder → Type 0
Lists (listed.Names names) path before after = HasListed names path before after
Lists listed.Missing path before after =
    IsSameFolder before after × IfSome before.told (λ files. names_at path files ≡ None)
    × HasCalled path false before after
Lists listed.Failed path before after =
    IsSameFolder before after × Rose before.faults after.faults × HasCalled path true before after
Lists listed.Memory path before after = IsSameFolder before after

-- the file at a path has these bytes, which are within the limit
pub record HasGot (bytes path : List ℕ) (limit : ℕ) (before after : Folder) : Type 0 where
  pub same : IsSameFolder before after
  pub fits : length bytes ≤ limit
  pub told : IfSome before.told (λ files. bytes_at path files ≡ Some bytes)
  pub called : HasCalled path false before after

abbrev pub IsLonger : ℕ → Option (List ℕ) → Type 0
IsLonger limit None = ⊥
IsLonger limit (Some bytes) = limit < length bytes

abbrev pub Reads : Content → List ℕ → ℕ → Folder → Folder → Type 0
Reads (content.Bytes bytes) path limit before after = HasGot bytes path limit before after
Reads content.Missing path limit before after =
    IsSameFolder before after × IfSome before.told (λ files. bytes_at path files ≡ None)
    × HasCalled path false before after
Reads content.TooLarge path limit before after =
    IsSameFolder before after × IfSome before.told (λ files. IsLonger limit (bytes_at path files))
    × HasCalled path false before after
Reads content.Failed path limit before after =
    IsSameFolder before after × Rose before.faults after.faults × HasCalled path true before after
Reads content.Memory path limit before after = IsSameFolder before after

abbrev pub is_failed_list : Listed → Bool
is_failed_list (listed.Names names) = false
is_failed_list listed.Missing = false
is_failed_list listed.Failed = true
is_failed_list listed.Memory = false

abbrev pub is_failed_read : Content → Bool
is_failed_read (content.Bytes bytes) = false
is_failed_read content.Missing = false
is_failed_read content.TooLarge = false
is_failed_read content.Failed = true
is_failed_read content.Memory = false

-- these bytes, unless memory ran out
abbrev pub IsCopy : Content → List ℕ → Type 0
IsCopy (content.Bytes copy) bytes = copy ≡ bytes
IsCopy content.Missing bytes = ⊥
IsCopy content.TooLarge bytes = ⊥
IsCopy content.Failed bytes = ⊥
IsCopy content.Memory bytes = Unit {0}
