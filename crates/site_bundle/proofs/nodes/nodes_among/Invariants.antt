-- The nodes that are left lead to what all of them lead to.
use Rattle.std.proofs.Common.{◌≡◌, []}
use Rattle.serde_json.specs.View.{members_view}
use Rattle.site_bundle.specs.Nodes.{with_nodes}
use Rattle.site_bundle.proofs.nodes.nodes_among.Given as goal

abbrev pub invariant-loop-key : goal.invariant-loop-key
invariant-loop-key l = with_nodes (members_view l.key-iterator) l.nodes ≡ with_nodes (members_view l.members.entries) []
