-- The files and nodes of a site as entries of maps.
use Rattle.std.specs.Prelude.{◌≡◌, ℕ, ◌+◌, ◌^◌, ◌<◌, List, map, length}
use Rattle.std.specs.List.{All}
use Rattle.pp_parser.specs.Manifest.{file_of}
use Rattle.pp_values.specs.declared.value.Value.{Value}
use Rattle.pp_values.specs.Views.{view}
use Rattle.pp_tree.specs.declared.manifest_file.ManifestFile.{ManifestFile}
use Rattle.site_bundle.specs.SiteView.{Filed, Listed}

-- each entry with what its value shows
abbrev pub shown : {X Y : Type 0} → (X → Y) → List (List ℕ × X) → List (List ℕ × Y)
shown f = map (λ e. (e.0, f e.1))

abbrev pub text_of : ManifestFile → List ℕ
text_of file = file.text

abbrev pub filed : List (List ℕ × ManifestFile) → List Filed
filed = shown text_of

abbrev pub listed : List (List ℕ × Value) → List Listed
listed = shown view

-- what is kept of the file at a path is what its text means
abbrev pub IsRead : List ℕ × ManifestFile → Type 0
IsRead e = e.1.read ≡ file_of e.0 e.1.text

abbrev pub AreRead : List (List ℕ × ManifestFile) → Type 0
AreRead es = All IsRead es

-- places count the lines of each text in 32 bits
abbrev pub IsShort : Filed → Type 0
IsShort f = length f.1 + 1 < 2 ^ 32

abbrev pub AreShort : List Filed → Type 0
AreShort fs = All IsShort fs
