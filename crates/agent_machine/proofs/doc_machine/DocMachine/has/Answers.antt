use Rattle.std.proofs.Common.{subst}
use Rattle.pp_values.specs.Views.{view}
use Rattle.agent_machine.specs.Machines.{Has}
use Rattle.agent_machine.proofs.doc_machine.DocMachine.has.Goals as goal

pub returns : goal.returns
returns c =
    subst (λ m. Has c.args.what.now c.args.name.now (view c.args.value.now) c.has.result m) c.self.view_is c.has.ensures
