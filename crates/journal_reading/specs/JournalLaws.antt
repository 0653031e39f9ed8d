-- What journals tell.
use Rattle.std.specs.Prelude.{◌≡◌, ◌^◌, ◌<◌, true, List, length}
use Rattle.site_core.specs.Events.{Event}
use Rattle.site_bundle.specs.SiteView.{SiteView}
use Rattle.site_docs.specs.JournalText.{journal_text}
use Rattle.journal_reading.specs.Journals.{IsHistory, is_first, first_text}

-- No two histories have one text in one version. A text has less than 2^64 bytes.
abbrev pub JournalsAreToldApart : Type 0
JournalsAreToldApart =
    (h g : List (Event SiteView)) → IsHistory h → IsHistory g → length (journal_text h) < 2 ^ 64 →
    journal_text h ≡ journal_text g → h ≡ g

abbrev pub FirstJournalsAreToldApart : Type 0
FirstJournalsAreToldApart =
    (h g : List (Event SiteView)) → IsHistory h → IsHistory g → is_first h ≡ true → is_first g ≡ true →
    length (first_text h) < 2 ^ 64 → first_text h ≡ first_text g → h ≡ g
