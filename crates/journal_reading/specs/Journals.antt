-- Which texts are journals. There are two versions of their form: the second is written, and both are read.
use Rattle.std.specs.Prelude.{◌≡◌, ◌⊎◌, IsTrue, ℕ, ◌^◌, ◌<◌, ◌≤◌, nat_lt, Bool, true, false, not, ◌&&◌, List, []}
use Rattle.std.specs.Prelude.{◌∷◌, ◌++◌, length, map, codes}
use Rattle.std.specs.List.{list_all}
use Rattle.serde_json.specs.Data.{Data, string, object, no_members, member, depth}
use Rattle.serde_json.specs.Read.{max_depth}
use Rattle.pp_values.specs.Facts.{are_facts}
use Rattle.pp_values.specs.Kinds.{is_kind}
use Rattle.pp_values.specs.Rising.{is_rising}
use Rattle.pp_values.specs.Settings.{setting_names}
use Rattle.res_core.specs.declared.exported.Exported.{Exported}
use Rattle.site_core.specs.Events.{Publication, Event, opens, publishes, adds, are_entries}
use Rattle.site_core.specs.declared.plain.Plain.{Plain}
use Rattle.site_core.specs.declared.plain.Plain.TheVariants as ask
use Rattle.json_documents.specs.ProperValues.{is_proper, have_proper}
use Rattle.json_documents.specs.Tokens.{index_data, line}
use Rattle.agent_docs.specs.ReportText.{IsReport}
use Rattle.site_bundle.specs.Given.{has_main, are_short}
use Rattle.site_bundle.specs.SiteView.{SiteView, Filed, Listed, have_facts, site_of}
use Rattle.site_docs.specs.SiteText.{site_data}
use Rattle.site_docs.specs.JournalText.{count_object, entry_data, entry_lines, journal_text}

-- ---- what a history holds

abbrev pub paths_of : List Filed → List (List ℕ)
paths_of = map (λ f. f.0)

-- a site as `make_site` makes one: of files by path and of nodes with facts by name, which both rise in byte order; the
-- main manifest is among the files
pub record IsSite (s : SiteView) : Type 0 where
  pub files : List Filed
  pub nodes : List Listed
  pub made : s ≡ site_of files nodes
  pub paths : IsTrue (is_rising (paths_of files))
  pub main : IsTrue (has_main files)
  pub short : IsTrue (are_short files)
  pub names : IsTrue (is_rising (setting_names nodes))
  pub facts : IsTrue (have_facts nodes)
  pub proper : IsTrue (have_proper nodes)

-- a number of 32 bits
abbrev pub is_count : ℕ → Bool
is_count n = nat_lt n (2 ^ 32)

-- an exported resource: its attributes and its tags rise in byte order
abbrev pub is_export : Exported → Bool
is_export e =
    is_count e.node_place.line && (is_kind e.item.kind && (is_rising (setting_names e.item.attributes) &&
    (have_proper e.item.attributes && is_rising e.item.tags)))

abbrev pub is_publication : Publication → Bool
is_publication p =
    is_count p.author && (is_count p.call && (is_count p.k && (are_facts p.facts && (is_proper p.facts &&
    list_all is_export p.set.items))))

abbrev pub IsPlain : Plain SiteView → Type 0
IsPlain (ask.Deactivate node) = Unit {0}
IsPlain (ask.Deploy site) = IsSite site
IsPlain (ask.Report node report) = IsReport report × (report.node ≡ node)

abbrev pub IsEntry : Event SiteView → Type 0
IsEntry (opens site) = IsSite site
IsEntry (publishes p) = IsTrue (is_publication p)
IsEntry (adds author call what) = IsTrue (is_count author && is_count call) × IsPlain what

abbrev pub AreAll : (Event SiteView → Type 0) → List (Event SiteView) → Type 0
AreAll Holds [] = Unit {0}
AreAll Holds (e ∷ es) = Holds e × AreAll Holds es

-- The entries of a history: the first one opens a site, and no other one does. Their numbers have 64 bits.
pub record IsHistory (h : List (Event SiteView)) : Type 0 where
  pub shape : IsTrue (are_entries h)
  pub entries : AreAll IsEntry h
  pub few : length h < 2 ^ 64

-- ---- texts

-- in its line nothing nests deeper than a reader goes; a number in it makes no difference
abbrev pub IsShallow : Event SiteView → Type 0
IsShallow e = depth (entry_data 0 e) ≤ max_depth

-- the line that opens a site in the first version
unfoldable pub first_object : Data → Data
first_object site =
    object (member (codes "entry") (index_data 0)
    (member (codes "journal") (index_data 1)
    (member (codes "kind") (string (codes "open"))
    (member (codes "site") site no_members))))

abbrev pub first_data : Event SiteView → Data
first_data (opens site) = first_object (site_data site)
first_data (publishes p) = entry_data 0 (publishes p)
first_data (adds author call what) = entry_data 0 (adds author call what)

-- the text in the first version, which differs in its first line alone
abbrev pub first_text : List (Event SiteView) → List ℕ
first_text [] = line (count_object 0)
first_text (e ∷ es) = line (first_data e) ++ (entry_lines 1 es ++ line (count_object (length (e ∷ es))))

abbrev pub is_filing : Event SiteView → Bool
is_filing (opens site) = false
is_filing (publishes p) = false
is_filing (adds author call (ask.Deactivate node)) = false
is_filing (adds author call (ask.Deploy site)) = false
is_filing (adds author call (ask.Report node report)) = true

-- the first version knows nothing of reports
abbrev pub is_first : List (Event SiteView) → Bool
is_first h = list_all (λ e. not (is_filing e)) h

-- the text of these entries, in either version
abbrev pub IsTextOf : List (Event SiteView) → List ℕ → Type 0
IsTextOf h text = (text ≡ journal_text h) ⊎ ((is_first h ≡ true) × (text ≡ first_text h))

abbrev pub IsJournalText : List (Event SiteView) → List ℕ → Type 0
IsJournalText h text = IsHistory h × AreAll IsShallow h × IsTextOf h text
