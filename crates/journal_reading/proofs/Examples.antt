-- Texts, and what is read of them as journals.
use Rattle.std.proofs.Common.{◌≡◌, ℕ, List, [], ◌∷◌, ◌++◌, Some, None, Ok, Err, pos, refl, codes}
use Rattle.std.specs.Fmt.{digits}
use Rattle.std.specs.Prelude.{⊤}
use Rattle.serde_json.proofs.OnLiterals.{serde_json_on_literals}
use Rattle.pp_values.specs.Datum as d
use Rattle.pp_values.specs.declared.place.TheConstants.{MAIN_MANIFEST}
use Rattle.res_core.specs.declared.exported.Exported.{Exported}
use Rattle.site_core.specs.Events.{Event, opens, publishes, adds}
use Rattle.site_core.specs.declared.plain.Plain.TheVariants as ask
use Rattle.json_documents.specs.LineDocuments.{split_lines, lines_read}
use Rattle.agent_docs.specs.ReportText.{line_object, line_data, report_object, report_data, first_object as first_report, first_data as first_report_data}
use Rattle.agent_docs.specs.ReportReading.{line_said, report_said, says_first as says_first_report}
use Rattle.site_bundle.specs.SiteView.{SiteView, Filed, put_in}
use Rattle.site_docs.specs.SiteText.{site_object, site_data}
use Rattle.site_docs.specs.JournalText.{export_object, export_data, opening_object, publication_object, deactivation_object, deployment_object, filing_object, count_object, plain_data, entry_data}
use Rattle.journal_reading.specs.Journals.{first_object}
use Rattle.journal_reading.specs.EntryReading.{place_said, export_said, publication_said, removal_said, deployment_said, filing_said}
use Rattle.journal_reading.specs.JournalLines.{says_first, entries_from, journal_read}
use Rattle.journal_reading.specs.SiteReading.{site_said}

-- what is unfolded to read a text
unfoldable when_read : ⊤
unfolding line_object line_data report_object report_data first_report first_report_data line_said report_said says_first_report
    put_in site_object site_data export_object export_data opening_object publication_object deactivation_object
    deployment_object filing_object count_object plain_data entry_data first_object says_first export_said publication_said
    removal_said deployment_said filing_said site_said split_lines lines_read entries_from digits
when_read = tt

abbrev line : List ℕ → List ℕ
line bytes = bytes ++ 10 ∷ []

-- ---- the lines, and what they say

abbrev site : List Filed → SiteView
site manifests = record { manifests = manifests; «data» = []; nodes = (codes "a", d.hash d.no_entries) ∷ [] }

abbrev empty_site : SiteView
empty_site = site ((MAIN_MANIFEST.now, []) ∷ [])

-- the site is opened in either version
abbrev opened : List ℕ → List ℕ
opened version =
    codes "{\"entry\":0,\"journal\":" ++ (version ++
    line (codes ",\"kind\":\"open\",\"site\":{\"files\":{\"manifests/site.pp\":\"\"},\"nodes\":{\"a\":{}}}}"))

abbrev first : List ℕ
first = opened (codes "1")

abbrev second : List ℕ
second = opened (codes "2")

abbrev published : List ℕ
published = line (codes "{\"author\":0,\"call\":0,\"entry\":1,\"facts\":{\"n\":3},\"k\":1,\"kind\":\"publish\",\"node\":\"a\",\"set\":[]}")

abbrev publication : List Exported → Event SiteView
publication set = publishes (record {
  author = 0;
  call = 0;
  node = codes "a";
  facts = d.hash (d.entry (d.text (codes "n")) (d.int (pos 3)) d.no_entries);
  k = 1;
  set = record { items = set };
})

abbrev counted : List ℕ → List ℕ
counted count = codes "{\"entries\":" ++ (count ++ line (codes "}"))

-- ---- what is read back

-- a site and nothing more, in both versions; the same entries are read of both
alone : (journal_read (second ++ counted (codes "1")) ≡ Ok (opens empty_site ∷ []))
    × (journal_read (first ++ counted (codes "1")) ≡ Ok (opens empty_site ∷ []))
unfolding when_read serde_json_on_literals
alone = (refl, refl)

once : (journal_read (second ++ (published ++ counted (codes "2"))) ≡ Ok (opens empty_site ∷ publication [] ∷ []))
    × (journal_read (first ++ (published ++ counted (codes "2"))) ≡ Ok (opens empty_site ∷ publication [] ∷ []))
unfolding when_read serde_json_on_literals
once = (refl, refl)

-- what was exported
abbrev me : Exported
me = record {
  node_place = record { file = codes "manifests/site.pp"; line = 12 };
  item = record {
    kind = codes "web::vhost";
    title = codes "x";
    attributes = (codes "ip", d.text (codes "::1")) ∷ [];
    tags = codes "a" ∷ codes "b" ∷ [];
  };
}

abbrev exported : List ℕ
exported = line (codes "{\"author\":0,\"call\":0,\"entry\":1,\"facts\":{\"n\":3},\"k\":1,\"kind\":\"publish\",\"node\":\"a\",\"set\":[{\"at\":\"manifests/site.pp:12\",\"attrs\":{\"ip\":\"::1\"},\"tags\":[\"a\",\"b\"],\"title\":\"x\",\"type\":\"Web::Vhost\"}]}")

with_exports : journal_read (second ++ (exported ++ counted (codes "2"))) ≡ Ok (opens empty_site ∷ publication (me ∷ []) ∷ [])
unfolding when_read serde_json_on_literals
with_exports = refl

-- a node that is gone, and another site; numbers are what the text says
abbrev removed : List ℕ
removed = line (codes "{\"author\":3,\"call\":7,\"entry\":1,\"kind\":\"deactivate\",\"node\":\"b\"}")

abbrev deployed : List ℕ
deployed = line (codes "{\"author\":0,\"call\":0,\"entry\":2,\"kind\":\"deploy\",\"site\":{\"files\":{\"manifests/site.pp\":\"x\",\"modules/a/init.pp\":\"y\"},\"nodes\":{\"a\":{}}}}")

plain : journal_read (second ++ (removed ++ (deployed ++ counted (codes "3"))))
    ≡ Ok (opens empty_site ∷ adds 3 7 (ask.Deactivate (codes "b")) ∷
    adds 0 0 (ask.Deploy (site ((MAIN_MANIFEST.now, codes "x") ∷ (codes "modules/a/init.pp", codes "y") ∷ []))) ∷ [])
unfolding when_read serde_json_on_literals
plain = refl

-- a report, which the first version knows nothing of
abbrev filed : List ℕ
filed = line (codes "{\"author\":0,\"call\":0,\"entry\":1,\"kind\":\"report\",\"node\":\"n\",\"report\":{\"changed\":0,\"failed\":0,\"node\":\"n\",\"noop\":0,\"report\":2,\"resources\":[]}}")

reports : (journal_read (second ++ (filed ++ counted (codes "2")))
    ≡ Ok (opens empty_site ∷ adds 0 0 (ask.Report (codes "n") (record { node = codes "n"; lines = [] })) ∷ []))
    × (journal_read (first ++ (filed ++ counted (codes "2"))) ≡ Err 2)
unfolding when_read serde_json_on_literals
reports = (refl, refl)

-- the same for another node than the report's
abbrev filed_for_another : List ℕ
filed_for_another = line (codes "{\"author\":0,\"call\":0,\"entry\":1,\"kind\":\"report\",\"node\":\"m\",\"report\":{\"changed\":0,\"failed\":0,\"node\":\"n\",\"noop\":0,\"report\":2,\"resources\":[]}}")

reports_of_another : journal_read (second ++ (filed_for_another ++ counted (codes "2"))) ≡ Err 2
unfolding when_read serde_json_on_literals
reports_of_another = refl

-- ---- which line is bad

-- nothing; a text that is cut within its first line, behind it, within its second one, behind that, and before its last
-- byte
cut : (journal_read [] ≡ Err 1)
    × (journal_read (codes "{\"entry\":0,\"journal\":2") ≡ Err 1)
    × (journal_read second ≡ Err 2)
    × (journal_read (first ++ codes "{\"author\":0") ≡ Err 2)
    × (journal_read (second ++ published) ≡ Err 3)
    × (journal_read (second ++ (published ++ codes "{\"entries\":2}")) ≡ Err 3)
unfolding when_read serde_json_on_literals
cut = (refl, refl, refl, refl, refl, refl)

-- another number of entries, and what stands behind the last line: a line, and a line feed
ends : (journal_read (second ++ (published ++ counted (codes "1"))) ≡ Err 3)
    × (journal_read (second ++ (counted (codes "1") ++ published)) ≡ Err 3)
    × (journal_read (second ++ (published ++ (counted (codes "2") ++ 10 ∷ []))) ≡ Err 4)
unfolding when_read serde_json_on_literals
ends = (refl, refl, refl)

-- a third version; a site that is opened twice; an entry whose number is not its place, or that comes first
placed : (journal_read (opened (codes "3") ++ counted (codes "1")) ≡ Err 1)
    × (journal_read (second ++ (second ++ counted (codes "2"))) ≡ Err 2)
    × (journal_read (second ++ (deployed ++ counted (codes "2"))) ≡ Err 2)
    × (journal_read (published ++ counted (codes "1")) ≡ Err 1)
unfolding when_read serde_json_on_literals
placed = (refl, refl, refl, refl)

-- second spellings: a blank, members in another order, a member more, a number with a zero in front, and files in another
-- order
spelt : (journal_read (second ++ line (codes "{\"entries\": 1}")) ≡ Err 2)
    × (journal_read (second ++ line (codes "{\"author\":3,\"entry\":1,\"call\":7,\"kind\":\"deactivate\",\"node\":\"b\"}")) ≡ Err 2)
    × (journal_read (second ++ line (codes "{\"author\":3,\"call\":7,\"entry\":1,\"kind\":\"deactivate\",\"node\":\"b\",\"z\":1}")) ≡ Err 2)
    × (journal_read (second ++ line (codes "{\"author\":3,\"call\":07,\"entry\":1,\"kind\":\"deactivate\",\"node\":\"b\"}")) ≡ Err 2)
    × (journal_read (second ++ line (codes "{\"author\":0,\"call\":0,\"entry\":1,\"kind\":\"deploy\",\"site\":{\"files\":{\"x\":\"\",\"manifests/site.pp\":\"\"},\"nodes\":{}}}")) ≡ Err 2)
unfolding when_read serde_json_on_literals
spelt = (refl, refl, refl, refl, refl)

-- what a site has to have: a main manifest, and facts that are an object
sites : (journal_read (line (codes "{\"entry\":0,\"journal\":2,\"kind\":\"open\",\"site\":{\"files\":{},\"nodes\":{}}}") ++ counted (codes "1")) ≡ Err 1)
    × (journal_read (line (codes "{\"entry\":0,\"journal\":2,\"kind\":\"open\",\"site\":{\"files\":{\"manifests/site.pp\":\"\"},\"nodes\":{\"a\":[]}}}") ++ counted (codes "1")) ≡ Err 1)
unfolding when_read serde_json_on_literals
sites = (refl, refl)

-- places as they are written: what stands before the last colon, and the line behind it
places : (place_said (codes "a:b:7") ≡ Some (record { file = codes "a:b"; line = 7 }))
    × (place_said (codes "7") ≡ None)
    × (place_said (codes "a:-7") ≡ None)
    × (place_said (codes "a:4294967295") ≡ Some (record { file = codes "a"; line = 4294967295 }))
    × (place_said (codes "a:4294967296") ≡ None)
places = (refl, refl, refl, refl, refl)
