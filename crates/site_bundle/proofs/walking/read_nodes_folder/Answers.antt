use Rattle.site_bundle.proofs.WalkSteps.{nodes_stopped, nodes_read}
use Rattle.site_bundle.proofs.walking.read_nodes_folder.Goals as goal

pub returns-in_err-names : goal.returns-in_err-names
returns-in_err-names g c = nodes_stopped _ c.args.front.now _ _ _ c.from_residual.ensures.1 c.in_err-names.ensures

pub returns : goal.returns
returns g c =
    nodes_read _ c.args.front.now _ _ _ _ c.in_ok-names.ensures c.as_slice.ensures c.read_all_facts.ensures
