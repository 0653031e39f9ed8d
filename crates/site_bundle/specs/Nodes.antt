-- The nodes of a bundle, with the facts that the site lists for them.
use Rattle.std.specs.Prelude.{ℕ, if◌then◌else◌, codes, List, [], Option, Some, None, Result, Ok}
use Rattle.std.specs.FinMap.{put}
use Rattle.std.specs.Option.{ok_or}
use Rattle.pp_values.specs.Datum.{Datum}
use Rattle.pp_values.specs.Rising.{text_cmp}
use Rattle.serde_json.specs.Data.{Data, Members, no_members, member}
use Rattle.serde_json.specs.Find.{get, as_object}
use Rattle.word_rules.specs.NodeNames.{is_node_name}
use Rattle.site_bundle.specs.Refusals.{Refusal, bad_shape, under, result_and_then}
use Rattle.site_bundle.specs.GivenFacts.{given_facts}
use Rattle.site_bundle.specs.SiteView.{Listed}

-- the facts that stand under a key, if it is the name of a node and these are facts
abbrev pub listed_facts : List ℕ → Data → Option Datum
listed_facts key d = if is_node_name key then given_facts d else None

-- the nodes with the one that stands under a key
abbrev pub with_node : List Listed → List ℕ → Data → Result (List Listed) Refusal
with_node nodes key d =
    result_and_then (λ facts. Ok (put text_cmp key facts nodes))
    (ok_or (listed_facts key d) (bad_shape (under (codes "nodes") key)))

-- the nodes with these, one after another
unfoldable pub with_nodes : Members → List Listed → Result (List Listed) Refusal
with_nodes no_members nodes = Ok nodes
with_nodes (member key d ms) nodes = result_and_then (with_nodes ms) (with_node nodes key d)

abbrev pub all_nodes_in : Data → Result (List Listed) Refusal
all_nodes_in d = result_and_then (λ ms. with_nodes ms []) (ok_or (as_object d) (bad_shape (codes "nodes")))

abbrev pub given_nodes : Option Data → Result (List Listed) Refusal
given_nodes None = Ok []
given_nodes (Some d) = all_nodes_in d

-- the bundle's nodes; there may be none
abbrev pub nodes_of : Data → Result (List Listed) Refusal
nodes_of bundle = given_nodes (get (codes "nodes") bundle)
