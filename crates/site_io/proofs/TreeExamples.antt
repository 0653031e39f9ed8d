-- Trees of files on small values.
use Rattle.std.proofs.Common.{◌≡◌, ℕ, Bool, true, false, [], ◌∷◌, Option, Some, None, refl, ap, arith}
use Rattle.std.proofs.Math.Dec.{lit≤, lit<}
use Rattle.std.specs.Prelude.{codes, List}
use Rattle.site_io.specs.declared.tree.Listed.TheVariants as listed
use Rattle.site_io.specs.declared.tree.Content.TheVariants as content
use Rattle.site_io.specs.Folders.{Held, Call, Folder, HasCalled, names_with, names_at, bytes_at, Lists, Reads, untold_folder}
use Rattle.site_io.specs.ScriptedFolder.{told_folder, is_failing_call}

-- four files, one of which can't be read
abbrev files : List Held
files =
    (codes "data/a.json", Some (codes "1")) ∷ (codes "data/a/b.json", Some (codes "22")) ∷
    (codes "data/a/c.json", None) ∷ (codes "hiera.yaml", Some []) ∷ []

abbrev held : Folder
held = told_folder 0 files

-- A folder's name ends in a slash, and stands once. In byte order `.` is before `/`.
data_names : names_at (codes "data/") files ≡ Some (codes "a.json" ∷ codes "a/" ∷ [])
unfolding names_with
data_names = refl

-- the slash at the end of a folder's path may miss
data_without_slash : names_at (codes "data") files ≡ Some (codes "a.json" ∷ codes "a/" ∷ [])
unfolding names_with
data_without_slash = refl

-- an empty path is the tree itself
root_names : names_at [] files ≡ Some (codes "data/" ∷ codes "hiera.yaml" ∷ [])
unfolding names_with
root_names = refl

-- what can't be read has a name
inner_names : names_at (codes "data/a/") files ≡ Some (codes "b.json" ∷ codes "c.json" ∷ [])
unfolding names_with
inner_names = refl

-- the path of a file is no folder, and the front of a name is none
no_folder : names_at (codes "hiera.yaml") files ≡ None
unfolding names_with
no_folder = refl

no_part_of_a_name : names_at (codes "dat") files ≡ None
unfolding names_with
no_part_of_a_name = refl

some_bytes : bytes_at (codes "data/a/b.json") files ≡ Some (codes "22")
some_bytes = refl

empty_file : bytes_at (codes "hiera.yaml") files ≡ Some []
empty_file = refl

-- there is no file where nothing can be read, at a folder's path, or where nothing stands
no_bytes : bytes_at (codes "data/a/c.json") files ≡ None
no_bytes = refl

no_bytes_of_a_folder : bytes_at (codes "data/a") files ≡ None
no_bytes_of_a_folder = refl

-- a folder that is there is not missing, and a file that fits is not too large
is_not_missing : Lists listed.Missing (codes "data/") held held → ⊥
unfolding names_with
is_not_missing lists = let none = lists.1 in cc

fits : Reads content.TooLarge (codes "data/a/b.json") 2 held held → ⊥
fits reads = let longer = reads.1 in omega (arith, longer)

is_too_large : Reads content.TooLarge (codes "data/a/b.json") 1 held held
is_too_large = (record { later = lit≤ tt; told = refl }, lit< tt, refl)

-- a file that can't be read is missing, and no empty one
reads_none : Reads (content.Bytes []) (codes "data/a/c.json") 9 held held → ⊥
reads_none reads = let some = reads.told in cc

-- who tells nothing fails only where the count rose
fails_counted : Lists listed.Failed (codes "data/") (untold_folder 2) (untold_folder 2) → ⊥
fails_counted lists = let rose = lists.1 in omega (arith, rose)

third_fails : is_failing_call (record { faults = 0; files = files; calls = 2; failing = 3 ∷ [] }) ≡ true
third_fails = refl

-- a tree that tells its calls, before its second one
abbrev called : List Call → Folder
called calls = record { faults = 0; told = None; calls = Some calls }

first : Call
first = record { path = codes "data/"; failed = false }

calls_again : HasCalled (codes "hiera.yaml") true (called (first ∷ []))
    (called (first ∷ record { path = codes "hiera.yaml"; failed = true } ∷ []))
calls_again = refl

-- what is said of the first call
abbrev path_of : Option (List Call) → List ℕ
path_of None = []
path_of (Some []) = []
path_of (Some (call ∷ calls)) = call.path

abbrev failed_of : Option (List Call) → Bool
failed_of None = false
failed_of (Some []) = false
failed_of (Some (call ∷ calls)) = call.failed

-- it was another one, or did not fail
calls_other : HasCalled [] true (called []) (called (record { path = codes "b"; failed = true } ∷ [])) → ⊥
calls_other has = let same : codes "b" ≡ [] = ap path_of has in cc

calls_well : HasCalled (codes "a") true (called []) (called (record { path = codes "a"; failed = false } ∷ [])) → ⊥
calls_well has = let same : false ≡ true = ap failed_of has in cc
