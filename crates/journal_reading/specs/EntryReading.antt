-- The entry that the JSON of a line says. What stands in the line beside it is not looked at here.
use Rattle.std.specs.Prelude.{ℕ, ◌+◌, ◌-◌, ◌*◌, ◌==◌, ◌&&◌, if◌then◌else◌, codes, List, []}
use Rattle.std.specs.Prelude.{◌∷◌, Option, Some, None, option_map, option_and_then}
use Rattle.std.specs.Char.{is_ascii_digit}
use Rattle.std.specs.Str.{bytes_eq, str_to_ascii_lowercase}
use Rattle.serde_json.specs.Data.{Data, null, Items, no_items, item, Members, no_members, member}
use Rattle.serde_json.specs.Find.{get, as_number, as_u64}
use Rattle.serde_json.specs.Written.{compact_text}
use Rattle.pp_values.specs.Datum.{Datum}
use Rattle.pp_values.specs.Kinds.{kind_of}
use Rattle.pp_values.specs.Rising.{is_rising}
use Rattle.pp_values.specs.Settings.{Setting, setting_names}
use Rattle.pp_values.specs.declared.place.Place.{Place}
use Rattle.res_core.specs.PlainAttributes.{are_plain}
use Rattle.res_core.specs.declared.exported.Exported.{Exported}
use Rattle.res_core.specs.declared.resource.Resource.{Resource}
use Rattle.agent_machine.specs.declared.report.Report.{Report}
use Rattle.site_core.specs.Events.{Event, publishes, adds}
use Rattle.site_core.specs.declared.plain.Plain.TheVariants as ask
use Rattle.json_values.specs.Forms.{value_of}
use Rattle.json_values.specs.FromData.{both}
use Rattle.json_documents.specs.LinesOfText.{has_byte}
use Rattle.agent_docs.specs.ReportReading.{text_at, items_at, texts_said, report_in}
use Rattle.hiera_config.specs.Cuts.{after_prefix, before_suffix}
use Rattle.site_bundle.specs.SiteView.{SiteView}
use Rattle.site_docs.specs.JournalText.{filing_object}
use Rattle.journal_reading.specs.Journals.{is_count}
use Rattle.journal_reading.specs.SiteReading.{members_at, facts_said, site_said}

-- ---- numbers

abbrev pub if_count : ℕ → Option ℕ
if_count n = if is_count n then Some n else None

abbrev pub number_at : List ℕ → Data → Option ℕ
number_at key d = option_and_then if_count (option_and_then as_u64 (option_and_then as_number (get key d)))

-- an author, and how many entries this author made before
abbrev pub maker_said : Data → Option (ℕ × ℕ)
maker_said d = both (λ author call. (author, call)) (number_at (codes "author") d) (number_at (codes "call") d)

-- ---- places: `FILE:LINE`

-- the bytes before the last c, and those behind it
abbrev pub cut_last : ℕ → List ℕ → Option (List ℕ × List ℕ)
cut_last c [] = None
cut_last c (b ∷ bs) =
    if has_byte c bs then option_map (λ p. (b ∷ p.0, p.1)) (cut_last c bs) else if b == c then Some ([], bs) else None

-- a number with one more digit
abbrev pub with_digit : ℕ → ℕ → Option ℕ
with_digit n b = if is_ascii_digit b && is_count (n * 10 + (b - 48)) then Some (n * 10 + (b - 48)) else None

abbrev pub digits_from : ℕ → List ℕ → Option ℕ
digits_from n [] = Some n
digits_from n (b ∷ bs) = option_and_then (λ m. digits_from m bs) (with_digit n b)

abbrev pub place_of : List ℕ × List ℕ → Option Place
place_of p = option_map (λ line. record { file = p.0; line = line }) (digits_from 0 p.1)

abbrev pub place_said : List ℕ → Option Place
place_said text = option_and_then place_of (cut_last 58 text)

-- ---- exported resources

abbrev pub settings_said : Members → Option (List Setting)
settings_said no_members = Some []
settings_said (member name d ms) = both (λ v ss. (name, v) ∷ ss) (value_of d) (settings_said ms)

abbrev pub if_rising : List Setting → Option (List Setting)
if_rising ss = if is_rising (setting_names ss) then Some ss else None

abbrev pub attributes_said : Data → Option (List Setting)
attributes_said d = option_and_then if_rising (option_and_then settings_said (members_at (codes "attrs") d))

abbrev pub if_tags : List (List ℕ) → Option (List (List ℕ))
if_tags tags = if is_rising tags then Some tags else None

abbrev pub tags_said : Data → Option (List (List ℕ))
tags_said d = option_and_then if_tags (option_and_then texts_said (items_at (codes "tags") d))

-- a kind as it is printed
abbrev pub kind_said : Data → Option (List ℕ)
kind_said d = option_and_then (λ t. kind_of (str_to_ascii_lowercase t)) (text_at (codes "type") d)

abbrev pub name_said : Data → Option (List ℕ × List ℕ)
name_said d = both (λ kind title. (kind, title)) (kind_said d) (text_at (codes "title") d)

abbrev pub resource_of : List ℕ × List ℕ → List Setting × List (List ℕ) → Resource
resource_of name lists = record { kind = name.0; title = name.1; attributes = lists.0; tags = lists.1 }

abbrev pub lists_said : Data → Option (List Setting × List (List ℕ))
lists_said d = both (λ attributes tags. (attributes, tags)) (attributes_said d) (tags_said d)

-- no value has a data type within
abbrev pub if_plain : Resource → Option Resource
if_plain r = if are_plain r.attributes then Some r else None

abbrev pub resource_said : Data → Option Resource
resource_said d = option_and_then if_plain (both resource_of (name_said d) (lists_said d))

unfoldable pub export_said : Data → Option Exported
export_said d =
    both (λ place item. record { node_place = place; item = item })
    (option_and_then place_said (text_at (codes "at") d)) (resource_said d)

abbrev pub exports_said : Items → Option (List Exported)
exports_said no_items = Some []
exports_said (item d ds) = both (λ e es. e ∷ es) (export_said d) (exports_said ds)

-- ---- entries

-- the facts, the first entries that were seen, and the exports
abbrev pub work_said : Data → Option (Datum × (ℕ × List Exported))
work_said d =
    both (λ facts rest. (facts, rest)) (option_and_then facts_said (get (codes "facts") d))
    (both (λ k items. (k, items)) (number_at (codes "k") d)
    (option_and_then exports_said (items_at (codes "set") d)))

abbrev pub publication_of : (ℕ × ℕ) × List ℕ → Datum × (ℕ × List Exported) → Event SiteView
publication_of named work = publishes (record {
  author = named.0.0;
  call = named.0.1;
  node = named.1;
  facts = work.0;
  k = work.1.0;
  set = record { items = work.1.1 };
})

-- who made the entry, and of which node
abbrev pub named_said : Data → Option ((ℕ × ℕ) × List ℕ)
named_said d = both (λ maker node. (maker, node)) (maker_said d) (text_at (codes "node") d)

unfoldable pub publication_said : Data → Option (Event SiteView)
publication_said d = both publication_of (named_said d) (work_said d)

abbrev pub removal_of : (ℕ × ℕ) × List ℕ → Event SiteView
removal_of named = adds named.0.0 named.0.1 (ask.Deactivate named.1)

unfoldable pub removal_said : Data → Option (Event SiteView)
removal_said d = option_map removal_of (named_said d)

abbrev pub deployment_of : ℕ × ℕ → SiteView → Event SiteView
deployment_of maker site = adds maker.0 maker.1 (ask.Deploy site)

unfoldable pub deployment_said : Data → Option (Event SiteView)
deployment_said d = both deployment_of (maker_said d) (option_and_then site_said (get (codes "site") d))

-- The text of a report within its entry's line, which stands behind what such a line has before its report and before
-- the bracket that ends it: the line of an entry with `null` for its report tells what.
abbrev pub within : List ℕ → List ℕ → Option (List ℕ)
within without line =
    option_and_then (before_suffix (codes "}"))
    (option_and_then (λ front. after_prefix front line) (before_suffix (codes "null}") without))

-- a report is filed for its own node
abbrev pub filing_of : (ℕ × ℕ) × List ℕ → Report → Option (Event SiteView)
filing_of named report =
    if bytes_eq report.node named.1 then Some (adds named.0.0 named.0.1 (ask.Report named.1 report)) else None

abbrev pub filing_in : ℕ → List ℕ → (ℕ × ℕ) × List ℕ → Option (Event SiteView)
filing_in n line named =
    option_and_then (filing_of named) (option_and_then report_in
    (within (compact_text (filing_object named.0.0 named.0.1 n named.1 null)) line))

unfoldable pub filing_said : ℕ → List ℕ → Data → Option (Event SiteView)
filing_said n line d = option_and_then (filing_in n line) (named_said d)

abbrev pub said_as : ℕ → List ℕ → Data → List ℕ → Option (Event SiteView)
said_as n line d kind =
    if bytes_eq kind (codes "publish") then publication_said d
    else if bytes_eq kind (codes "deactivate") then removal_said d
    else if bytes_eq kind (codes "deploy") then deployment_said d
    else if bytes_eq kind (codes "report") then filing_said n line d
    else None

-- entry n, of a line that is this JSON
abbrev pub entry_said : ℕ → List ℕ → Data → Option (Event SiteView)
entry_said n line d = option_and_then (said_as n line d) (text_at (codes "kind") d)
