use Rattle.command_outputs.proofs.NodeTold.{IfOk-made, IfOk-refused}
use Rattle.command_outputs.proofs.compile.compile_output.Goals as goal

pub returns-in-Ok : goal.returns-in-Ok
returns-in-Ok c = IfOk-made _ _ _ c.in-Ok.catalog c.in-Ok.ensures c.catalog_output-output.ensures

pub returns-in-Err : goal.returns-in-Err
returns-in-Err c = IfOk-refused _ _ _ c.in-Err.stop c.in-Err.ensures c.refuse_node.ensures
