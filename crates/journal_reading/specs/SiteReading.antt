-- The site that JSON says: its files and its nodes, as they stand in a site's text.
use Rattle.std.specs.Prelude.{ℕ, Bool, ◌&&◌, if◌then◌else◌, codes, List, [], ◌∷◌, Option, Some, None, option_and_then}
use Rattle.serde_json.specs.Data.{Data, Members, no_members, member}
use Rattle.serde_json.specs.Find.{get, as_object, as_str}
use Rattle.pp_values.specs.Datum.{Datum}
use Rattle.pp_values.specs.Facts.{are_facts}
use Rattle.pp_values.specs.Rising.{is_rising}
use Rattle.pp_values.specs.Settings.{setting_names}
use Rattle.json_values.specs.Forms.{value_of}
use Rattle.json_values.specs.FromData.{both}
use Rattle.site_bundle.specs.Given.{has_main, are_short}
use Rattle.site_bundle.specs.SiteView.{SiteView, Filed, Listed, site_of}
use Rattle.journal_reading.specs.Journals.{paths_of}

abbrev pub members_at : List ℕ → Data → Option Members
members_at key d = option_and_then as_object (get key d)

-- each path with its text
abbrev pub texts_said : Members → Option (List Filed)
texts_said no_members = Some []
texts_said (member path d ms) = both (λ text files. (path, text) ∷ files) (as_str d) (texts_said ms)

-- the files of a site
abbrev pub are_files : List Filed → Bool
are_files files = is_rising (paths_of files) && (has_main files && are_short files)

abbrev pub if_files : List Filed → Option (List Filed)
if_files files = if are_files files then Some files else None

abbrev pub files_said : Data → Option (List Filed)
files_said d = option_and_then if_files (option_and_then texts_said (members_at (codes "files") d))

abbrev pub if_facts : Datum → Option Datum
if_facts d = if are_facts d then Some d else None

-- facts, in the form of a value
abbrev pub facts_said : Data → Option Datum
facts_said d = option_and_then if_facts (value_of d)

-- each name with its facts
abbrev pub listed_said : Members → Option (List Listed)
listed_said no_members = Some []
listed_said (member name d ms) = both (λ facts nodes. (name, facts) ∷ nodes) (facts_said d) (listed_said ms)

abbrev pub if_rising : List Listed → Option (List Listed)
if_rising nodes = if is_rising (setting_names nodes) then Some nodes else None

abbrev pub nodes_said : Data → Option (List Listed)
nodes_said d = option_and_then if_rising (option_and_then listed_said (members_at (codes "nodes") d))

unfoldable pub site_said : Data → Option SiteView
site_said d = both site_of (files_said d) (nodes_said d)
