-- The site in a folder: which files are read for it, in which order, and what they give.
use Rattle.std.specs.Prelude.{ℕ, zero, suc, if◌then◌else◌, nat_eq, codes, List, [], ◌∷◌, ◌++◌, ◌-◌, length, map, take}
use Rattle.std.specs.Prelude.{Option, None, Some, Result, Ok}
use Rattle.std.specs.List.{ends_with}
use Rattle.std.specs.Option.{unwrap_or}
use Rattle.pp_values.specs.declared.place.TheConstants.{MAIN_MANIFEST}
use Rattle.site_io.specs.Folders.{ends_in_slash, folder_front}
use Rattle.site_bundle.specs.declared.bundle.Bundle.{Bundle}
use Rattle.site_bundle.specs.declared.gathered.Gathered.{Gathered}
use Rattle.site_bundle.specs.declared.limits.TheConstants.{MOST_LEVELS}
use Rattle.site_bundle.specs.Bundles.{site_with}
use Rattle.site_bundle.specs.Refusals.{Refusal, too_large, result_and_then}
use Rattle.site_bundle.specs.Gathering.{nothing_gathered, Keep, site_file, facts_file, machine_file, gather, with_main}
use Rattle.site_bundle.specs.Walks.{Answer, bytes, missing, longer, Walk, done, refused, listing, reading, walk_then}
use Rattle.site_bundle.specs.Walks.{in_turn, walk_of}

-- ---- one call

-- The names in a folder; an absent folder is an empty one. A call names all of a path, front and all; what is told of a
-- file names the path behind the front.
abbrev pub names_walk : List ℕ → List ℕ → Walk (List (List ℕ))
names_walk front path = listing (front ++ path) (λ names. done (unwrap_or names []))

abbrev pub content_in : List ℕ → Answer → Walk (Option (List ℕ))
content_in path (bytes content) = done (Some content)
content_in path missing = done None
content_in path longer = refused (too_large path)

-- the content of a file, if there is one
abbrev pub content_walk : List ℕ → List ℕ → Walk (Option (List ℕ))
content_walk front path = reading (front ++ path) (content_in path)

abbrev pub file_walk : Keep → List ℕ → List ℕ → Gathered → Walk Gathered
file_walk keep front path g = walk_then (λ content. walk_of (gather keep path content g)) (content_walk front path)

-- ---- folders

-- what is named in a folder: a folder, or a file of the site
abbrev pub entry_walk : (List ℕ → Gathered → Walk Gathered) → List ℕ → List ℕ → Gathered → Walk Gathered
entry_walk folder front path g = if ends_in_slash path then folder path g else file_walk site_file front path g

-- all files of a folder and of the folders in it, which are so many levels deep at most
unfoldable pub folder_walk : ℕ → List ℕ → List ℕ → Gathered → Walk Gathered
folder_walk zero front path g = refused (too_large path)
folder_walk (suc levels) front path g =
    walk_then (λ names. in_turn (map (λ name. entry_walk (folder_walk levels front) front (path ++ name)) names) g)
    (names_walk front path)

-- the file of a node's facts has the node's name, with this at its end
abbrev pub node_of : List ℕ → Option (List ℕ)
node_of name = if ends_with nat_eq name (codes ".json") then Some (take (length name - 5) name) else None

-- folders and files of other names are passed over
abbrev pub node_walk : List ℕ → List ℕ → Option (List ℕ) → Gathered → Walk Gathered
node_walk front name None g = done g
node_walk front name (Some node) g = file_walk (facts_file node) front (codes "nodes/" ++ name) g

abbrev pub facts_walk : List ℕ → List ℕ → Gathered → Walk Gathered
facts_walk front name g = node_walk front name (node_of name) g

abbrev pub nodes_walk : List ℕ → Gathered → Walk Gathered
nodes_walk front g =
    walk_then (λ names. in_turn (map (facts_walk front) names) g) (names_walk front (codes "nodes/"))

-- ---- the folder of a site

abbrev pub main_walk : List ℕ → Gathered → Walk Gathered
main_walk front g = walk_then (λ g. walk_of (with_main g)) (file_walk site_file front MAIN_MANIFEST.now g)

-- all that is read, by path in byte order
abbrev pub steps : List ℕ → List (Gathered → Walk Gathered)
steps front =
    folder_walk MOST_LEVELS front (codes "data/") ∷
    folder_walk MOST_LEVELS front (codes "global/") ∷
    file_walk site_file front (codes "hiera.yaml") ∷
    file_walk machine_file front (codes "machine.json") ∷
    main_walk front ∷
    folder_walk MOST_LEVELS front (codes "modules/") ∷
    nodes_walk front ∷ []

unfoldable pub files_walk : List ℕ → Walk Gathered
files_walk front = in_turn (steps front) nothing_gathered

-- Nothing is asked of a site in a folder. Its main manifest is there by then.
abbrev pub bundle_from : Gathered → Bundle
bundle_from g = record { site = site_with g.files g.nodes; requests = []; machine = g.machine }

abbrev pub bundle_with : Gathered → Result Bundle Refusal
bundle_with g = result_and_then (λ g. Ok (bundle_from g)) (with_main g)

unfoldable pub site_walk : List ℕ → Walk Bundle
site_walk folder = walk_then (λ g. walk_of (bundle_with g)) (files_walk (folder_front folder))
