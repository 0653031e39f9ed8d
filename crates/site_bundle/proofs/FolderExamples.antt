-- Folders, and the sites in them.
use Rattle.std.proofs.Common.{◌≡◌, ℕ, true, false, List, [], ◌∷◌, ◌++◌, Option, Some, None, Ok, Err, refl, codes, pos}
use Rattle.pp_values.specs.Datum.{int, text, hash, entries_of}
use Rattle.pp_values.specs.declared.place.TheConstants.{MAIN_MANIFEST}
use Rattle.site_io.specs.Folders.{Held, names_with}
use Rattle.site_bundle.specs.declared.limits.TheConstants.{MOST_BUNDLE_BYTES, MOST_FILES}
use Rattle.site_bundle.specs.Refusals.{bad_shape, too_large}
use Rattle.site_bundle.specs.Bundles.{bundle_of}
use Rattle.site_bundle.specs.Files.{with_files}
use Rattle.site_bundle.specs.Gathering.{nothing_gathered, may_come, count_file, site_file, gather}
use Rattle.site_bundle.specs.Machines.{no_machine}
use Rattle.site_bundle.specs.Walks.{Walk, answer_of, bytes, missing, walk_then, in_turn, end_over}
use Rattle.site_bundle.specs.FolderSites.{folder_walk, files_walk, site_walk}
use Rattle.site_bundle.proofs.OnLiterals.{bundle_on_literals}

abbrev file : List ℕ → List ℕ → Held
file path content = (path, Some content)

abbrev main : Held
main = file MAIN_MANIFEST.now []

-- what is read of a folder, by path in byte order; what is not read may be anything
abbrev whole_files : List Held
whole_files =
    file (codes "d/README") (255 ∷ []) ∷
    file (codes "d/data/a.json") (codes "{}") ∷
    file (codes "d/data/b/c") (codes "c") ∷
    file (codes "d/hiera.yaml") (codes "h") ∷
    file (codes "d/machine.json") (codes "{\"failing\":[\"f\"]}") ∷
    file (codes "d/manifests/other.pp") (255 ∷ []) ∷
    file (codes "d/manifests/site.pp") (codes "s") ∷
    file (codes "d/modules/m/manifests/init.pp") (codes "m") ∷
    file (codes "d/nodes/a.json") (codes "{\"n\":1}") ∷
    file (codes "d/nodes/a.txt") (255 ∷ []) ∷
    file (codes "d/nodes/x/b.json") (codes "{}") ∷
    file (codes "e/data/a.json") (255 ∷ []) ∷ []

whole : end_over whole_files (site_walk (codes "d")) ≡ Ok (record {
  site = record {
    manifests = (MAIN_MANIFEST.now, codes "s") ∷ (codes "modules/m/manifests/init.pp", codes "m") ∷ [];
    «data» = (codes "data/a.json", codes "{}") ∷ (codes "data/b/c", codes "c") ∷ (codes "hiera.yaml", codes "h") ∷ [];
    nodes = (codes "a", hash (entries_of ((text (codes "n"), int (pos 1)) ∷ []))) ∷ [];
  };
  requests = [];
  machine = record { failing = codes "f" ∷ []; state = [] };
})
unfolding bundle_on_literals names_with walk_then in_turn end_over folder_walk files_walk site_walk
whole = refl

-- a bundle with these files, facts and machine says the same
as_a_bundle : end_over whole_files (site_walk (codes "d/")) ≡ bundle_of (codes "{\"bundle\":1,\"files\":{\"data/a.json\":\"{}\",\"data/b/c\":\"c\",\"hiera.yaml\":\"h\",\"manifests/site.pp\":\"s\",\"modules/m/manifests/init.pp\":\"m\"},\"nodes\":{\"a\":{\"n\":1}},\"machine\":{\"failing\":[\"f\"]}}")
unfolding bundle_on_literals with_files names_with walk_then in_turn end_over folder_walk files_walk site_walk
as_a_bundle = refl

-- all but the main manifest may be missing; the folder may be the tree itself
least : end_over (main ∷ []) (site_walk []) ≡ Ok (record { site = record { manifests = (MAIN_MANIFEST.now, []) ∷ []; «data» = []; nodes = [] }; requests = []; machine = no_machine })
unfolding bundle_on_literals names_with walk_then in_turn end_over folder_walk files_walk site_walk
least = refl

nothing : end_over [] (site_walk (codes "d")) ≡ Err (bad_shape MAIN_MANIFEST.now)
unfolding bundle_on_literals names_with walk_then in_turn end_over folder_walk files_walk site_walk
nothing = refl

-- The first path that is wrong decides, in byte order of paths: here that of the main manifest, and the path behind it does
-- not count.
main_first : end_over (file (codes "nodes/A.json") [] ∷ []) (site_walk []) ≡ Err (bad_shape MAIN_MANIFEST.now)
unfolding bundle_on_literals names_with walk_then in_turn end_over folder_walk files_walk site_walk
main_first = refl

-- what is no text, before all others that are wrong
no_text : end_over (file (codes "data/b") (255 ∷ []) ∷ file (codes "machine.json") [] ∷ []) (site_walk []) ≡ Err (bad_shape (codes "data/b"))
unfolding bundle_on_literals names_with walk_then in_turn end_over folder_walk files_walk site_walk
no_text = refl

-- a file comes before the folder of its name: `-` and `.` stand before `/`
file_first : end_over (file (codes "modules/a.b") (255 ∷ []) ∷ file (codes "modules/a/c") (255 ∷ []) ∷ main ∷ []) (site_walk []) ≡ Err (bad_shape (codes "modules/a.b"))
unfolding bundle_on_literals names_with walk_then in_turn end_over folder_walk files_walk site_walk
file_first = refl

no_machine_there : end_over (file (codes "machine.json") (codes "{\"state\":1}") ∷ main ∷ []) (site_walk []) ≡ Err (bad_shape (codes "machine.json"))
unfolding bundle_on_literals names_with walk_then in_turn end_over folder_walk files_walk site_walk
no_machine_there = refl

no_facts : end_over (main ∷ file (codes "nodes/a.json") (codes "[]") ∷ []) (site_walk []) ≡ Err (bad_shape (codes "nodes/a.json"))
unfolding bundle_on_literals names_with walk_then in_turn end_over folder_walk files_walk site_walk
no_facts = refl

no_name : end_over (main ∷ file (codes "nodes/.json") (codes "{}") ∷ []) (site_walk []) ≡ Err (bad_shape (codes "nodes/.json"))
unfolding bundle_on_literals names_with walk_then in_turn end_over folder_walk files_walk site_walk
no_name = refl

-- what is listed and is no file is passed over, whatever its name
passed_over : end_over ((codes "data/a", None) ∷ main ∷ (codes "nodes/A.json", None) ∷ []) (site_walk []) ≡ Ok (record { site = record { manifests = (MAIN_MANIFEST.now, []) ∷ []; «data» = []; nodes = [] }; requests = []; machine = no_machine })
unfolding bundle_on_literals names_with walk_then in_turn end_over folder_walk files_walk site_walk
passed_over = refl

-- a folder of depth 16 is read, one of depth 17 is not
abbrev fifteen : List ℕ
fifteen = codes "a/a/a/a/a/a/a/a/a/a/a/a/a/a/a/"

deepest : end_over (file (codes "data/" ++ fifteen ++ codes "f") (codes "x") ∷ main ∷ []) (site_walk []) ≡ Ok (record { site = record { manifests = (MAIN_MANIFEST.now, []) ∷ []; «data» = (codes "data/" ++ fifteen ++ codes "f", codes "x") ∷ []; nodes = [] }; requests = []; machine = no_machine })
unfolding bundle_on_literals names_with walk_then in_turn end_over folder_walk files_walk site_walk
deepest = refl

too_deep : end_over (file (codes "data/" ++ fifteen ++ codes "b/f") (codes "x") ∷ main ∷ []) (site_walk []) ≡ Err (too_large (codes "data/" ++ fifteen ++ codes "b/"))
unfolding bundle_on_literals names_with walk_then in_turn end_over folder_walk files_walk site_walk
too_deep = refl

-- the limits: one file more, and its size with that of all before it
last_file : may_come [] (record nothing_gathered { count = 65535 }) ≡ true
last_file = refl

one_too_many : count_file (codes "data/z") [] (record nothing_gathered { count = 65536 }) ≡ Err (too_large (codes "data/z"))
one_too_many = refl

last_byte : may_come (codes "x") (record nothing_gathered { count = 3; size = 67108863 }) ≡ true
last_byte = refl

byte_too_many : count_file (codes "data/z") (codes "x") (record nothing_gathered { count = 3; size = 67108864 }) ≡ Err (too_large (codes "data/z"))
byte_too_many = refl

-- an absent file does not count, where no more may come
absent : gather site_file (codes "data/z") None (record nothing_gathered { count = 65536 }) ≡ Ok (record nothing_gathered { count = 65536 })
absent = refl
