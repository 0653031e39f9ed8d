-- The text of a history: a line of compact JSON for each entry, with the members of each object in byte order, and a
-- last line
-- with the number of entries.
use Rattle.std.specs.Prelude.{ℕ, ◌+◌, List, [], ◌∷◌, ◌++◌, length, map, codes}
use Rattle.serde_json.specs.Data.{Data, string, array, object, no_members, member}
use Rattle.serde_json.specs.View.{items_of}
use Rattle.pp_values.specs.Words.{kind_text}
use Rattle.serde_json.specs.Written.{compact_text}
use Rattle.res_core.specs.declared.export_set.ExportSet.{ExportSet}
use Rattle.res_core.specs.declared.exported.Exported.{Exported}
use Rattle.site_core.specs.Events.{Event, opens, publishes, adds}
use Rattle.site_core.specs.declared.plain.Plain.{Plain}
use Rattle.site_core.specs.declared.plain.Plain.TheVariants as ask
use Rattle.json_values.specs.ValueForm.{form, setting_members}
use Rattle.site_bundle.specs.SiteView.{SiteView}
use Rattle.json_documents.specs.Tokens.{index_data, line}
use Rattle.site_docs.specs.FaultText.{place_text}
use Rattle.agent_docs.specs.ReportText.{report_data}
use Rattle.site_docs.specs.SiteText.{site_data}

-- an exported resource, from the forms of its parts
unfoldable pub export_object : List ℕ → Data → Data → List ℕ → List ℕ → Data
export_object at attributes tags title kind =
    object (member (codes "at") (string at)
    (member (codes "attrs") attributes
    (member (codes "tags") tags
    (member (codes "title") (string title)
    (member (codes "type") (string kind) no_members)))))

unfoldable pub export_data : Exported → Data
export_data e =
    export_object (place_text e.node_place) (object (setting_members e.item.attributes))
    (array (items_of (map string e.item.tags)))
    e.item.title (kind_text e.item.kind)

-- what a node exports
abbrev pub set_data : ExportSet → Data
set_data set = array (items_of (map export_data set.items))

-- an entry that opens a site; 2 is the version of this form
unfoldable pub opening_object : ℕ → Data → Data
opening_object entry site =
    object (member (codes "entry") (index_data entry)
    (member (codes "journal") (index_data 2)
    (member (codes "kind") (string (codes "open"))
    (member (codes "site") site no_members))))

-- an entry by which a node's exports were published, made from the first k entries
unfoldable pub publication_object : (author call entry : ℕ) → Data → ℕ → List ℕ → Data → Data
publication_object author call entry facts k node set =
    object (member (codes "author") (index_data author)
    (member (codes "call") (index_data call)
    (member (codes "entry") (index_data entry)
    (member (codes "facts") facts
    (member (codes "k") (index_data k)
    (member (codes "kind") (string (codes "publish"))
    (member (codes "node") (string node)
    (member (codes "set") set no_members))))))))

unfoldable pub deactivation_object : (author call entry : ℕ) → List ℕ → Data
deactivation_object author call entry node =
    object (member (codes "author") (index_data author)
    (member (codes "call") (index_data call)
    (member (codes "entry") (index_data entry)
    (member (codes "kind") (string (codes "deactivate"))
    (member (codes "node") (string node) no_members)))))

-- an entry by which another site took the place of the one in force
unfoldable pub deployment_object : (author call entry : ℕ) → Data → Data
deployment_object author call entry site =
    object (member (codes "author") (index_data author)
    (member (codes "call") (index_data call)
    (member (codes "entry") (index_data entry)
    (member (codes "kind") (string (codes "deploy"))
    (member (codes "site") site no_members)))))

-- an entry by which a report was filed
unfoldable pub filing_object : (author call entry : ℕ) → List ℕ → Data → Data
filing_object author call entry node report =
    object (member (codes "author") (index_data author)
    (member (codes "call") (index_data call)
    (member (codes "entry") (index_data entry)
    (member (codes "kind") (string (codes "report"))
    (member (codes "node") (string node)
    (member (codes "report") report no_members))))))

unfoldable pub count_object : ℕ → Data
count_object count = object (member (codes "entries") (index_data count) no_members)

-- a plain entry
unfoldable pub plain_data : (author call entry : ℕ) → Plain SiteView → Data
plain_data author call n (ask.Deactivate node) = deactivation_object author call n node
plain_data author call n (ask.Deploy site) = deployment_object author call n (site_data site)
plain_data author call n (ask.Report node report) = filing_object author call n node (report_data report)

-- entry n
unfoldable pub entry_data : ℕ → Event SiteView → Data
entry_data n (opens site) = opening_object n (site_data site)
entry_data n (publishes p) = publication_object p.author p.call n (form p.facts) p.k p.node
    (array (items_of (map export_data p.set.items)))
entry_data n (adds author call what) = plain_data author call n what

-- the lines of these entries, the first of which is entry n
unfoldable pub entry_lines : ℕ → List (Event SiteView) → List ℕ
entry_lines n [] = []
entry_lines n (e ∷ es) = line (entry_data n e) ++ entry_lines (n + 1) es

abbrev pub journal_text : List (Event SiteView) → List ℕ
journal_text h = entry_lines 0 h ++ line (count_object (length h))

-- the text of a set, as its publication has it
abbrev pub set_text : ExportSet → List ℕ
set_text set = compact_text (set_data set)
