-- Bytes that were parsed, or were not.
use Rattle.std.proofs.Common.{◌≡◌, ℕ, true, false, List, Some, None, Ok, Err, ap, ◌∙◌, refl}
use Rattle.std.specs.Prelude.{if◌then◌else◌}
use Rattle.std.specs.Option.{ok_or}
use Rattle.std.specs.Str.{IsUtf8, is_utf8}
use Rattle.std.proofs.lemmas.Str.{is_utf8-from_IsUtf8, IsUtf8-from_is_utf8}
use Rattle.serde_json.specs.Data.{Data}
use Rattle.serde_json.specs.Read.{read}
use Rattle.site_bundle.specs.Refusals.{not_json}
use Rattle.site_bundle.specs.Documents.{json_of}

pub parsed : (bytes : List ℕ) (d : Data) → IsUtf8 bytes → read bytes ≡ Some d → json_of bytes ≡ Ok d
unfolding json_of
parsed bytes d text is = ap (λ b. if b then ok_or (read bytes) not_json else Err not_json)
    (is_utf8-from_IsUtf8 bytes text) ∙ ap (λ o. ok_or o not_json) is

pub not_parsed : (bytes : List ℕ) → (IsUtf8 bytes → read bytes ≡ None) → json_of bytes ≡ Err not_json
unfolding json_of
not_parsed bytes is =
    elim (is_utf8 bytes) as (λ b. is_utf8 bytes ≡ b →
    (if b then ok_or (read bytes) not_json else Err not_json) ≡ Err not_json) [
      | true ↦ λ e. ap (λ o. ok_or o not_json) (is (IsUtf8-from_is_utf8 bytes e))
      | false ↦ λ e. refl
    ] refl
