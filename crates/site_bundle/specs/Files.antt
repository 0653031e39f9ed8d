-- The files of a bundle.
use Rattle.std.specs.Prelude.{ℕ, ◌+◌, Bool, false, if◌then◌else◌, nat_le, nat_lt, is_none, codes, List, [], length}
use Rattle.std.specs.Prelude.{option_and_then, Result, Ok, Err}
use Rattle.std.specs.FinMap.{find}
use Rattle.std.specs.Option.{ok_or}
use Rattle.std.specs.Ordering.{match_ordering}
use Rattle.pp_values.specs.Rising.{text_cmp}
use Rattle.pp_values.specs.declared.place.TheConstants.{MAIN_MANIFEST}
use Rattle.serde_json.specs.Data.{Data, Members, no_members, member}
use Rattle.serde_json.specs.Find.{get, as_object, as_str}
use Rattle.site_bundle.specs.declared.limits.TheConstants.{MOST_FILES, MOST_FILE_BYTES}
use Rattle.site_bundle.specs.declared.kept_files.KeptFiles.{KeptFiles}
use Rattle.site_bundle.specs.Keeping.{no_files, with_text}
use Rattle.site_bundle.specs.Refusals.{Refusal, bad_shape, too_large, under, result_and_then}

abbrev pub bad_file : {A : Type 0} → List ℕ → Result A Refusal
bad_file path = Err (bad_shape (under (codes "files") path))

-- a text that is not too long
abbrev pub short_text : List ℕ → List ℕ → Result (List ℕ) Refusal
short_text path text = if nat_le (length text) MOST_FILE_BYTES then Ok text else Err (too_large path)

-- any text may be the content of a file
abbrev pub content_of : List ℕ → Data → Result (List ℕ) Refusal
content_of path d = result_and_then (short_text path) (ok_or (as_str d) (bad_shape (under (codes "files") path)))

-- one more file may come: manifests and other files count together
abbrev pub has_room : KeptFiles → Bool
has_room files = nat_lt (length files.manifests + length files.data) MOST_FILES

-- the files with the one at a path, as long as there are not too many
abbrev pub with_file : KeptFiles → List ℕ → Data → Result KeptFiles Refusal
with_file files path d =
    if has_room files
    then result_and_then (λ text. Ok (with_text path text files)) (content_of path d)
    else Err (too_large path)

abbrev pub lacks_main : KeptFiles → Bool
lacks_main files = is_none (find text_cmp MAIN_MANIFEST.now files.manifests)

-- the path stands behind that of the main manifest, which did not come
abbrev pub is_passed : KeptFiles → List ℕ → Bool
is_passed files path = match_ordering (text_cmp path MAIN_MANIFEST.now) false false (lacks_main files)

-- The files by path in byte order, the first that is bad decides. Where the main manifest is missing, its place in this
-- order is bad.
unfoldable pub with_files : Members → KeptFiles → Result KeptFiles Refusal
with_files no_members files = if lacks_main files then bad_file MAIN_MANIFEST.now else Ok files
with_files (member path d ms) files =
    if is_passed files path
    then bad_file MAIN_MANIFEST.now
    else result_and_then (with_files ms) (with_file files path d)

abbrev pub files_of : Data → Result KeptFiles Refusal
files_of bundle = result_and_then (λ ms. with_files ms no_files)
    (ok_or (option_and_then as_object (get (codes "files") bundle)) (bad_shape (codes "files")))
