-- One file after another.
use Rattle.std.proofs.Common.{◌≡◌, ℕ, true, false, List, [], ◌∷◌, Ok, String, string_bytes, refl, ap, sym, ◌∙◌}
use Rattle.std.specs.Prelude.{if◌then◌else◌}
use Rattle.std.specs.declared.alloc.Global.{Global}
use Rattle.pp_values.specs.declared.place.TheConstants.{MAIN_MANIFEST}
use Rattle.serde_json.specs.declared.value.Value.{Value}
use Rattle.serde_json.specs.View.{view, members_view}
use Rattle.site_bundle.specs.declared.bundle_stop.BundleStop.{BundleStop}
use Rattle.site_bundle.specs.Refusals.{Refuses, result_and_then}
use Rattle.site_bundle.specs.declared.kept_files.KeptFiles.{KeptFiles}
use Rattle.site_bundle.specs.Files.{bad_file, is_passed, lacks_main, with_file, with_files}
use Rattle.site_bundle.proofs.Chains.{refuses_then, refuses_same}

abbrev Entry : Type 0
Entry = String Global × Value

-- what all of them come to, by whether the main manifest's place was passed
first_of_files : (es rest : List Entry) (key : String Global) (value : Value) (name : List ℕ) (files : KeptFiles) →
    es ≡ (key, value) ∷ rest → name ≡ string_bytes key →
    with_files (members_view es) files
    ≡ (if is_passed files name then bad_file MAIN_MANIFEST.now
    else result_and_then (with_files (members_view rest)) (with_file files name (view value)))
unfolding with_files
first_of_files es rest key value name files is named =
    ap (λ l. with_files (members_view l) files) is
    ∙ ap (λ k. if is_passed files k then bad_file MAIN_MANIFEST.now
    else result_and_then (with_files (members_view rest)) (with_file files k (view value))) (sym named)

pub main_passed : (es rest : List Entry) (key : String Global) (value : Value) (name : List ℕ) (files : KeptFiles) →
    es ≡ (key, value) ∷ rest → name ≡ string_bytes key → is_passed files name ≡ true →
    with_files (members_view es) files ≡ bad_file MAIN_MANIFEST.now
main_passed es rest key value name files is named passed =
    first_of_files es rest key value name files is named
    ∙ ap (λ b. if b then bad_file MAIN_MANIFEST.now
    else result_and_then (with_files (members_view rest)) (with_file files name (view value))) passed

goes_on : (es rest : List Entry) (key : String Global) (value : Value) (name : List ℕ) (files : KeptFiles) →
    es ≡ (key, value) ∷ rest → name ≡ string_bytes key → is_passed files name ≡ false →
    with_files (members_view es) files
    ≡ result_and_then (with_files (members_view rest)) (with_file files name (view value))
goes_on es rest key value name files is named ahead =
    first_of_files es rest key value name files is named
    ∙ ap (λ b. if b then bad_file MAIN_MANIFEST.now
    else result_and_then (with_files (members_view rest)) (with_file files name (view value))) ahead

pub file_put : (es rest : List Entry) (key : String Global) (value : Value) (name : List ℕ) (old new : KeptFiles) →
    es ≡ (key, value) ∷ rest → name ≡ string_bytes key → is_passed old name ≡ false →
    with_file old name (view value) ≡ Ok new → with_files (members_view rest) new ≡ with_files (members_view es) old
file_put es rest key value name old new is named ahead made =
    sym (goes_on es rest key value name old is named ahead
    ∙ ap (result_and_then (with_files (members_view rest))) made)

pub file_refused : (s : BundleStop) (es rest : List Entry) (key : String Global) (value : Value) (name : List ℕ)
    (files : KeptFiles) → es ≡ (key, value) ∷ rest → name ≡ string_bytes key → is_passed files name ≡ false →
    Refuses s (with_file files name (view value)) → Refuses s (with_files (members_view es) files)
file_refused s es rest key value name files is named ahead h =
    refuses_same s _ _ (goes_on es rest key value name files is named ahead)
    (refuses_then s (with_file files name (view value)) (with_files (members_view rest)) h)

pub no_files_left : (es : List Entry) (files : KeptFiles) → es ≡ [] →
    with_files (members_view es) files ≡ (if lacks_main files then bad_file MAIN_MANIFEST.now else Ok files)
unfolding with_files
no_files_left es files is = ap (λ l. with_files (members_view l) files) is
