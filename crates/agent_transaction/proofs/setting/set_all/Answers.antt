use Rattle.agent_transaction.proofs.TurnLemmas.{ends_failed, ends_memory, ends_whole}
use Rattle.agent_transaction.proofs.setting.set_all.Goals as goal

pub returns-in-Failed : goal.returns-in-Failed
returns-in-Failed g c =
    let state = g.M.Machine.state in
    ends_failed c.args.noop c.args.what.now c.args.wants c.loop-want.left c.take.new.self c.in-Some.want
    c.loop-want.changes.items (state c.args.machine.now) (state c.loop-want.machine) (state c.set_right.new.machine)
    c.in-Failed.fault c.in-Some.ensures c.loop-want.invariant.on c.in-Failed.ensures

pub returns-in-Memory : goal.returns-in-Memory
returns-in-Memory g c =
    let state = g.M.Machine.state in
    ends_memory c.args.noop c.args.what.now c.args.wants c.loop-want.left c.take.new.self c.in-Some.want
    c.loop-want.changes.items (state c.args.machine.now) (state c.loop-want.machine) (state c.set_right.new.machine)
    c.in-Some.ensures c.loop-want.invariant.on c.in-Memory.ensures

pub returns : goal.returns
returns g c =
    let state = g.M.Machine.state in
    ends_whole c.args.noop c.args.what.now c.args.wants c.loop-want.left c.loop-want.changes.items
    (state c.args.machine.now) (state c.loop-want.machine) c.in_default.ensures.0 c.loop-want.invariant.on
