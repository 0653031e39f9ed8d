use Rattle.eval_classes.proofs.Declared.{instance_declared}
use Rattle.eval_classes.proofs.bodies.declared_instance.Goals as goal

pub returns : goal.returns
returns g c =
    let item = c.item-item.result.now in
    let body = c.args.body in
    rw (instance_declared (g.M.Meaning.within c.args.forms.now.left) body.number body.line body.here c.args.world.now
    item c.in_ok-binding.binding c.in_ok-given.given c.item-item.ensures.item c.in_ok-given.ensures.list
    c.in_ok-binding.ensures) c.bound_instance.ensures
