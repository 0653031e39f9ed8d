-- The output for a node, by what its compile answered.
use Rattle.std.proofs.Common.{◌≡◌, ℕ, List, sym, ap, ◌∙◌}
use Rattle.std.specs.Prelude.{Result, Ok, Err, IfOk}
use Rattle.pp_values.specs.Answers.{IsRefused}
use Rattle.pp_values.specs.declared.memory.Memory.{Memory}
use Rattle.res_core.specs.declared.catalog.Catalog.{Catalog}
use Rattle.command_outputs.specs.Nodes.{NodeRefusal, refusal_told}
use Rattle.command_outputs.specs.Outputs.{catalog_output, node_output}
use Rattle.command_outputs.specs.Stops.{TellsNodeStop}
use Rattle.command_outputs.specs.declared.node_stop.NodeStop.{NodeStop}
use Rattle.command_outputs.specs.declared.node_stop.NodeStop.TheVariants as stop
use Rattle.command_outputs.specs.declared.output.Output.{Output}

module _ (node : List ℕ) (meant : Result Catalog NodeRefusal) where
  pub IfOk-made : (r : Result Output Memory) (catalog : Catalog) → meant ≡ Ok catalog →
      IfOk r (λ output. output ≡ catalog_output catalog) → IfOk r (λ output. output ≡ node_output node meant)
  IfOk-made (Ok output) catalog is told = told ∙ sym (ap (node_output node) is)
  IfOk-made (Err memory) catalog is told = told

  refused : (output : Output) (why : NodeStop) → IsRefused (refusal_told why) meant → TellsNodeStop output node why →
      output ≡ node_output node meant
  refused output stop.Unknown is told = told ∙ sym (ap (node_output node) is)
  refused output (stop.Fault fault) is told = told ∙ sym (ap (node_output node) is)
  refused output stop.Memory is told = absurd told

  pub IfOk-refused : (r : Result Output Memory) (why : NodeStop) → IsRefused (refusal_told why) meant →
      IfOk r (λ output. TellsNodeStop output node why) → IfOk r (λ output. output ≡ node_output node meant)
  IfOk-refused (Ok output) why is told = refused output why is told
  IfOk-refused (Err memory) why is told = told
