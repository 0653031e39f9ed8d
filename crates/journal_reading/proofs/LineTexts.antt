-- The lines of entries as what stands in them, and that no float does.
use Rattle.std.proofs.Common.{◌≡◌, ℕ, true, ◌++◌, codes, decimal, refl, append_assoc}
use Rattle.std.specs.Fmt.{digits}
use Rattle.serde_json.proofs.OnLiterals.{serde_json_on_literals}
use Rattle.serde_json.specs.Data.{Data}
use Rattle.serde_json.specs.Written.{compact_text}
use Rattle.site_bundle.specs.SiteView.{SiteView}
use Rattle.site_docs.specs.SiteText.{site_text}
use Rattle.site_docs.specs.JournalText.{opening_object}
use Rattle.journal_reading.specs.Journals.{first_object}
use Rattle.journal_reading.specs.JournalLines.{opening_data}

-- ---- lines that end in a site

pub first_text : (s : SiteView) →
    codes "{\"entry\":0,\"journal\":1,\"kind\":\"open\",\"site\":" ++ (site_text s ++ codes "}")
    ≡ compact_text (opening_data true s)
unfolding first_object digits serde_json_on_literals
first_text s = refl

pub opening_text : (n : ℕ) (d : Data) →
    (codes "{\"entry\":" ++ (decimal n ++ codes ",\"journal\":2,\"kind\":\"open\",\"site\":")) ++ (compact_text d ++ codes "}")
    ≡ compact_text (opening_object n d)
unfolding opening_object digits serde_json_on_literals
opening_text n d = simp append_assoc
