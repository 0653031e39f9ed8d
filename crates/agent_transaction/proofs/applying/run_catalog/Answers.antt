use Rattle.std.proofs.Common.{map, inr, subst, ◌∙◌}
use Rattle.rel_graph.specs.Before.{Before, Direct}
use Rattle.agent_transaction.proofs.ApplyLemmas.{run_whole, run_cut}
use Rattle.agent_transaction.specs.Marking.{planned_pair}
use Rattle.agent_transaction.specs.Preparing.{IsPrepared}
use Rattle.agent_transaction.specs.Runs.{RunGives}
use Rattle.agent_transaction.proofs.applying.run_catalog.Goals as goal

pub returns-in-Ok-run : goal.returns-in-Ok-run
returns-in-Ok-run g c =
    let state = g.M.Machine.state in
    let p : IsPrepared c.as_slice-resources.result.now c.edges.result.now c.in_ok-plan.field-0.plan c.in_ok-plan.field-0.blocked c.in_ok-plan.field-0.signalled =
    c.in_ok-plan.ensures in
    run_whole c.args.catalog.now c.as_slice-resources.result.now c.edges.result.now
    (c.as_slice-resources.ensures ∙ c.resources.ensures.resources) c.edges.ensures.edges c.in_ok-plan.field-0.plan
    c.in_ok-plan.field-0.blocked c.in_ok-plan.field-0.signalled p (state c.args.machine.now) (state c.run.new.machine)
    (record { node = c.in_ok-node.node; lines = c.in-Ok-run.lines }) (c.in_ok-node.ensures ∙ c.node.ensures)
    (λ containers edges signals count a b.
    subst (λ r. RunGives (Before containers edges) (Direct containers signals) (map planned_pair c.in_ok-plan.field-0.plan) r
    (state c.args.machine.now) (state c.run.new.machine)) c.in-Ok-run.is (c.run.ensures containers edges signals count a b))

pub returns-in-Err : goal.returns-in-Err
returns-in-Err g c =
    let state = g.M.Machine.state in
    let p : IsPrepared c.as_slice-resources.result.now c.edges.result.now c.in_ok-plan.field-0.plan c.in_ok-plan.field-0.blocked c.in_ok-plan.field-0.signalled =
    c.in_ok-plan.ensures in
    inr (run_cut c.args.catalog.now c.as_slice-resources.result.now c.edges.result.now
    (c.as_slice-resources.ensures ∙ c.resources.ensures.resources) c.edges.ensures.edges c.in_ok-plan.field-0.plan
    c.in_ok-plan.field-0.blocked c.in_ok-plan.field-0.signalled p (state c.args.machine.now) (state c.run.new.machine)
    (λ containers edges signals count a b.
    subst (λ r. RunGives (Before containers edges) (Direct containers signals) (map planned_pair c.in_ok-plan.field-0.plan) r
    (state c.args.machine.now) (state c.run.new.machine)) c.in-Err.is (c.run.ensures containers edges signals count a b)))
