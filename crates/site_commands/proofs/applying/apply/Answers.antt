use Rattle.command_outputs.specs.Nodes.{node_meaning}
use Rattle.site_commands.proofs.Applied.{compiled_free}
use Rattle.site_commands.proofs.applying.apply.Goals as goal

pub apply_compiled-requires-clause-free : goal.apply_compiled-requires-clause-free
apply_compiled-requires-clause-free g c κs within =
    compiled_free c.compile_node-compiled.result c.args.bundle.site c.args.node.now c.compile_node-compiled.ensures

pub returns : goal.returns
returns g c = c.apply_compiled.ensures (node_meaning c.args.bundle.site c.args.node.now) c.compile_node-compiled.ensures
