use Rattle.std.proofs.Common.{subst}
use Rattle.pp_values.specs.Views.{view}
use Rattle.agent_machine.specs.Machines.{FailsNext}
use Rattle.agent_machine.proofs.MachineLemmas.{asks_it}
use Rattle.agent_machine.proofs.doc_machine.DocMachineMachine.holds.Goals as goal

pub returns : goal.returns
returns c =
    asks_it c.args.what.now c.args.name.now (view c.args.value.now) c.args.self.now c.is_failing-fails.result
    c.has-has.result c.holds_by.result c.count.new.self
    (subst (λ t. FailsNext t c.is_failing-fails.result c.args.self.now) c.holds_call.ensures c.is_failing-fails.ensures)
    c.has-has.ensures c.holds_by.ensures c.count.ensures
