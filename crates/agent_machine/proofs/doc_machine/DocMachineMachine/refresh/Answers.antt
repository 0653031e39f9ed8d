use Rattle.std.proofs.Common.{subst}
use Rattle.agent_machine.specs.Machines.{FailsNext}
use Rattle.agent_machine.proofs.MachineLemmas.{refreshes_it}
use Rattle.agent_machine.proofs.doc_machine.DocMachineMachine.refresh.Goals as goal

pub returns : goal.returns
returns c =
    refreshes_it c.args.what.now c.args.self.now c.is_failing-fails.result c.holds_by.result c.count.new.self
    (subst (λ t. FailsNext t c.is_failing-fails.result c.args.self.now) c.refresh_call.ensures c.is_failing-fails.ensures)
    c.holds_by.ensures c.count.ensures
