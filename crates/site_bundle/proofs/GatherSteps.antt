-- A text that is kept of a file, or that is none.
use Rattle.std.proofs.Common.{◌≡◌, ℕ, true, false, List, Ok, Err, refl, ap, sym, subst, ◌∙◌}
use Rattle.std.specs.Prelude.{if◌then◌else◌}
use Rattle.std.specs.Str.{IsUtf8, is_utf8}
use Rattle.std.proofs.lemmas.Str.{is_utf8-from_IsUtf8, IsUtf8-from_is_utf8}
use Rattle.site_bundle.specs.declared.bundle_stop.BundleStop.{BundleStop}
use Rattle.site_bundle.specs.declared.gathered.Gathered.{Gathered}
use Rattle.site_bundle.specs.declared.kept_files.KeptFiles.{KeptFiles}
use Rattle.site_bundle.specs.Gathering.{site_file}
use Rattle.site_bundle.specs.Keeping.{with_text}
use Rattle.site_bundle.specs.Refusals.{Tells, Refuses, bad_shape}
use Rattle.site_bundle.proofs.Chains.{told}

pub text_kept : (path named content text : List ℕ) (files : KeptFiles) (g : Gathered) → text ≡ content → IsUtf8 text →
    named ≡ path → files ≡ with_text named text g.files → site_file path content g ≡ Ok (record g { files = files })
text_kept path named content text files g is utf8 at kept =
    subst (λ c. site_file path c g ≡ Ok (record g { files = files })) is
    (ap (λ b. if b then Ok (record g { files = with_text path text g.files }) else Err (bad_shape path))
    (is_utf8-from_IsUtf8 text utf8)
    ∙ ap (λ fs. Ok (record g { files = fs })) (sym (kept ∙ ap (λ p. with_text p text g.files) at)))

pub no_text : (s : BundleStop) (path content : List ℕ) (g : Gathered) → (IsUtf8 content → ⊥) →
    Tells s (bad_shape path) → Refuses s (site_file path content g)
no_text s path content g wrong tells =
    elim (is_utf8 content) as (λ b. is_utf8 content ≡ b →
    Refuses s (if b then Ok (record g { files = with_text path content g.files }) else Err (bad_shape path))) [
      | true ↦ λ e. absurd (wrong (IsUtf8-from_is_utf8 content e))
      | false ↦ λ e. told Gathered s _ tells
    ] refl
