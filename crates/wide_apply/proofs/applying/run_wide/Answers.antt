use Rattle.std.proofs.Common.{subst, ◌∙◌}
use Rattle.wide_apply.specs.WideCatalogs.{LinesGive}
use Rattle.wide_apply.proofs.ApplyLemmas.{run_of, stop_of}
use Rattle.wide_apply.proofs.applying.run_wide.Goals as goal

pub returns-in-Ok-lines_by_waves : goal.returns-in-Ok-lines_by_waves
returns-in-Ok-lines_by_waves g c =
    let whole = g.W.Machine.state in
    run_of c.args.catalog.now c.as_slice-resources.result.now c.edges.result.now
    (c.as_slice-resources.ensures ∙ c.resources.ensures.resources) c.edges.ensures.edges (whole c.args.machine.now)
    (whole c.lines_by_waves.new.machine)
    (record { node = c.in_ok-node.node; lines = c.in-Ok-lines_by_waves.lines }) (c.in_ok-node.ensures ∙ c.node.ensures)
    (subst (λ x. LinesGive c.as_slice-resources.result.now c.edges.result.now x (whole c.args.machine.now)
    (whole c.lines_by_waves.new.machine))
    c.in-Ok-lines_by_waves.is c.lines_by_waves.ensures)

pub returns-in-Err : goal.returns-in-Err
returns-in-Err g c =
    let whole = g.W.Machine.state in
    stop_of c.args.catalog.now c.as_slice-resources.result.now c.edges.result.now
    (c.as_slice-resources.ensures ∙ c.resources.ensures.resources) c.edges.ensures.edges (whole c.args.machine.now)
    (whole c.lines_by_waves.new.machine)
    c.in-Err.stop
    (subst (λ x. LinesGive c.as_slice-resources.result.now c.edges.result.now x (whole c.args.machine.now)
    (whole c.lines_by_waves.new.machine))
    c.in-Err.is c.lines_by_waves.ensures)
