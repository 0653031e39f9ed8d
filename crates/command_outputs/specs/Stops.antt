-- How a stop of the compile of a node is told.
use Rattle.std.specs.Prelude.{◌≡◌, ℕ, List}
use Rattle.command_outputs.specs.Nodes.{faulty, unknown}
use Rattle.command_outputs.specs.Outputs.{node_refusal_line}
use Rattle.command_outputs.specs.declared.node_stop.NodeStop.{NodeStop}
use Rattle.command_outputs.specs.declared.node_stop.NodeStop.TheVariants as stop
use Rattle.command_outputs.specs.declared.output.Output.{Output}
use Rattle.command_outputs.specs.declared.output.Output.TheVariants as a

-- the output is the line of why the node has no catalog, unless memory ran out
abbrev pub TellsNodeStop : Output → List ℕ → NodeStop → Type 0
TellsNodeStop output node stop.Unknown = output ≡ a.Fault (node_refusal_line node unknown)
TellsNodeStop output node (stop.Fault fault) = output ≡ a.Fault (node_refusal_line node (faulty fault))
TellsNodeStop output node stop.Memory = ⊥
