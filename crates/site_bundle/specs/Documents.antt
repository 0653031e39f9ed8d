-- The JSON value that bytes are.
use Rattle.std.specs.Prelude.{ℕ, if◌then◌else◌, nat_le, codes, List, length, Result, Err}
use Rattle.std.specs.Option.{ok_or}
use Rattle.std.specs.Str.{is_utf8}
use Rattle.serde_json.specs.Data.{Data}
use Rattle.serde_json.specs.Read.{read}
use Rattle.site_bundle.specs.declared.limits.TheConstants.{MOST_BUNDLE_BYTES}
use Rattle.site_bundle.specs.Refusals.{Refusal, not_json, too_large}

-- JSON in UTF-8 whose lists and objects nest at most 127 levels deep; of a name that stands twice in an object the last
-- value counts
unfoldable pub json_of : List ℕ → Result Data Refusal
json_of bytes = if is_utf8 bytes then ok_or (read bytes) not_json else Err not_json

abbrev pub document_of : List ℕ → Result Data Refusal
document_of bytes = if nat_le (length bytes) MOST_BUNDLE_BYTES then json_of bytes else Err (too_large (codes "bundle"))
