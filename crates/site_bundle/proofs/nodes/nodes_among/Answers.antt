use Rattle.std.proofs.Common.{sym, ◌∙◌}
use Rattle.site_bundle.proofs.Chains.{refuses_same, at_exit}
use Rattle.site_bundle.proofs.NodeSteps.{node_listed, node_refused, no_nodes_left}
use Rattle.site_bundle.proofs.nodes.nodes_among.Goals as goal

pub loop-key-preserved : goal.loop-key-preserved
loop-key-preserved c =
    node_listed _ _ _ _ _ _ _ c.in-Some.ensures.steps c.as_str.ensures.value c.in_ok-with_node.ensures
    ∙ c.loop-key.invariant

pub returns-in_err-with_node : goal.returns-in_err-with_node
returns-in_err-with_node c =
    at_exit _ _ _ _ c.from_residual.ensures.1
    (refuses_same _ _ _ (sym c.loop-key.invariant)
    (node_refused _ _ _ _ _ _ _ c.in-Some.ensures.steps c.as_str.ensures.value c.in_err-with_node.ensures))

pub returns : goal.returns
returns c = sym c.loop-key.invariant ∙ no_nodes_left _ _ c.in-None.ensures.steps.0
