use Rattle.std.proofs.Common.{inr, subst}
use Rattle.wide_apply.specs.Going.{WavesGive, tasks_in}
use Rattle.wide_apply.proofs.ApplyLemmas.{wide_whole, wide_cut}
use Rattle.wide_apply.proofs.applying.lines_by_waves.Goals as goal

pub returns-in-Ok : goal.returns-in-Ok
returns-in-Ok g c =
    let whole = g.W.Machine.state in
    let ready = c.in_ok-plan.field-0 in
    wide_whole c.args.resources.now c.args.edges.now ready.plan ready.blocked ready.signalled c.in_ok-plan.ensures
    (whole c.args.machine.now) (whole c.take_waves.new.machine) c.in_ok-waves.waves.items c.in_ok-waves.ensures
    c.args.count c.requires.count c.in-Ok.lines
    (λ r a b. subst (λ x. WavesGive r (tasks_in c.in_ok-waves.waves.items) c.args.count x (whole c.args.machine.now)
    (whole c.take_waves.new.machine))
    c.in-Ok.is (c.take_waves.ensures r a b))

pub returns-in-Err : goal.returns-in-Err
returns-in-Err g c =
    let whole = g.W.Machine.state in
    let ready = c.in_ok-plan.field-0 in
    inr (wide_cut c.args.resources.now c.args.edges.now ready.plan ready.blocked ready.signalled c.in_ok-plan.ensures
    (whole c.args.machine.now) (whole c.take_waves.new.machine) c.in_ok-waves.waves.items c.in_ok-waves.ensures
    c.args.count c.requires.count
    (λ r a b. subst (λ x. WavesGive r (tasks_in c.in_ok-waves.waves.items) c.args.count x (whole c.args.machine.now)
    (whole c.take_waves.new.machine))
    c.in-Err.is (c.take_waves.ensures r a b)))
