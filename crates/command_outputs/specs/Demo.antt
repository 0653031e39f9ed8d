-- The demo: a site of so many nodes, what is asked of it, and what is told of the run.
use Rattle.std.specs.Prelude.{ℕ, zero, suc, ◌+◌, ◌/◌, ◌%◌, List, [], ◌∷◌, ◌++◌, length, None, pos, codes, decimal}
use Rattle.std.specs.FinMap.{put}
use Rattle.pp_values.specs.Datum.{Datum, int, text, hash, no_entries, entry}
use Rattle.pp_values.specs.Rising.{text_cmp}
use Rattle.pp_values.specs.declared.place.TheConstants.{MAIN_MANIFEST}
use Rattle.res_core.specs.Asked.{Asked, compile}
use Rattle.res_core.specs.declared.catalog.Catalog.{Catalog}
use Rattle.site_core.specs.Events.{Event}
use Rattle.site_core.specs.declared.reply.ReplyOf.{ReplyOf}
use Rattle.site_core.specs.declared.reply.ReplyOf.TheVariants as r
use Rattle.site_bundle.specs.SiteView.{SiteView, Listed}
use Rattle.command_outputs.specs.declared.demo_site.TheConstants.{DEMO_MANIFEST}

-- ---- the site

-- a node is `n` with its number
abbrev pub demo_name : ℕ → List ℕ
demo_name n = codes "n" ++ decimal n

-- a number's address: `10.0.` with its higher and its lower byte
abbrev pub demo_ip : ℕ → List ℕ
demo_ip n = codes "10.0." ++ (decimal (n / 256) ++ (codes "." ++ decimal (n % 256)))

-- a node's facts: one of sixteen groups, and an address of its own
abbrev pub demo_facts : ℕ → Datum
demo_facts n =
    hash (entry (text (codes "group")) (int (pos (n % 16)))
    (entry (text (codes "ip")) (text (demo_ip n)) no_entries))

-- the nodes below this number
unfoldable pub demo_nodes : ℕ → List Listed
demo_nodes zero = []
demo_nodes (suc n) = put text_cmp (demo_name n) (demo_facts n) (demo_nodes n)

-- each node exports itself as a host with the tag of its group, and collects the hosts of its group
abbrev pub demo_site : ℕ → SiteView
demo_site n = record {
  manifests = (MAIN_MANIFEST.now, DEMO_MANIFEST.now) ∷ [];
  «data» = [];
  nodes = demo_nodes n;
}

-- ---- what is asked

abbrev pub demo_request : ℕ → Asked
demo_request n = compile (record { node = demo_name n; facts = None; seen = 0 })

-- each node below this number, in the order of their numbers
unfoldable pub once_each : ℕ → List Asked
once_each zero = []
once_each (suc n) = once_each n ++ demo_request n ∷ []

-- and all of them once more
abbrev pub demo_requests : ℕ → List Asked
demo_requests n = once_each n ++ once_each n

-- ---- what is told

module _ {F : Type 0} where
  -- one where the reply has a catalog
  abbrev pub served_in : ReplyOf Catalog F → ℕ
  served_in (r.Served entry_ k catalog) = 1
  served_in reply = 0

  unfoldable pub served_in_all : List (ReplyOf Catalog F) → ℕ
  served_in_all [] = 0
  served_in_all (reply ∷ replies) = served_in reply + served_in_all replies

  -- how many resources the catalog of a reply has, where it has one
  abbrev pub held_in : ReplyOf Catalog F → ℕ
  held_in (r.Served entry_ k catalog) = length catalog.resources
  held_in reply = 0

  unfoldable pub held_in_all : List (ReplyOf Catalog F) → ℕ
  held_in_all [] = 0
  held_in_all (reply ∷ replies) = held_in reply + held_in_all replies

-- the lines of nodes, of catalogs that were served, of all their resources, and of the entries of the history
unfoldable pub summary_lines : (nodes served resources entries : ℕ) → List ℕ
summary_lines nodes served resources entries =
    codes "nodes " ++ (decimal nodes ++ (codes "\nserved " ++ (decimal served ++ (codes "\nresources " ++
    (decimal resources ++ (codes "\nentries " ++ (decimal entries ++ codes "\n")))))))

abbrev pub summary_text : {F : Type 0} → ℕ → List (ReplyOf Catalog F) → List (Event SiteView) → List ℕ
summary_text nodes replies history =
    summary_lines nodes (served_in_all replies) (held_in_all replies) (length history)
