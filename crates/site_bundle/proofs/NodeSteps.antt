-- One node after another.
use Rattle.std.proofs.Common.{◌≡◌, ℕ, List, [], ◌∷◌, Ok, String, string_bytes, ap, sym, ◌∙◌}
use Rattle.std.specs.declared.alloc.Global.{Global}
use Rattle.serde_json.specs.declared.value.Value.{Value}
use Rattle.serde_json.specs.View.{view, members_view}
use Rattle.site_bundle.specs.declared.bundle_stop.BundleStop.{BundleStop}
use Rattle.site_bundle.specs.Refusals.{Refuses, result_and_then}
use Rattle.site_bundle.specs.SiteView.{Listed}
use Rattle.site_bundle.specs.Nodes.{with_node, with_nodes}
use Rattle.site_bundle.proofs.Chains.{refuses_then, refuses_same}

abbrev Entry : Type 0
Entry = String Global × Value

-- what all of them come to is what the first one and then the others come to
first_of_nodes : (es rest : List Entry) (key : String Global) (value : Value) (name : List ℕ) (nodes : List Listed) →
    es ≡ (key, value) ∷ rest → name ≡ string_bytes key →
    with_nodes (members_view es) nodes ≡ result_and_then (with_nodes (members_view rest))
    (with_node nodes name (view value))
unfolding with_nodes
first_of_nodes es rest key value name nodes is named =
    ap (λ l. with_nodes (members_view l) nodes) is ∙ ap
    (λ k. result_and_then (with_nodes (members_view rest)) (with_node nodes k (view value))) (sym named)

pub node_listed : (es rest : List Entry) (key : String Global) (value : Value) (name : List ℕ) (old new : List Listed) →
    es ≡ (key, value) ∷ rest → name ≡ string_bytes key →
    with_node old name (view value) ≡ Ok new → with_nodes (members_view rest) new ≡ with_nodes (members_view es) old
node_listed es rest key value name old new is named made =
    sym (first_of_nodes es rest key value name old is named
    ∙ ap (result_and_then (with_nodes (members_view rest))) made)

pub node_refused : (s : BundleStop) (es rest : List Entry) (key : String Global) (value : Value) (name : List ℕ)
    (nodes : List Listed) → es ≡ (key, value) ∷ rest → name ≡ string_bytes key →
    Refuses s (with_node nodes name (view value)) → Refuses s (with_nodes (members_view es) nodes)
node_refused s es rest key value name nodes is named h =
    refuses_same s _ _ (first_of_nodes es rest key value name nodes is named)
    (refuses_then s (with_node nodes name (view value)) (with_nodes (members_view rest)) h)

pub no_nodes_left : (es : List Entry) (nodes : List Listed) → es ≡ [] → with_nodes (members_view es) nodes ≡ Ok nodes
unfolding with_nodes
no_nodes_left es nodes is = ap (λ l. with_nodes (members_view l) nodes) is
