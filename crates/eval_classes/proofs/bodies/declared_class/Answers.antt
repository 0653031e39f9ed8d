use Rattle.std.proofs.Common.{ap, ◌∙◌}
use Rattle.eval_classes.proofs.Declared.{bound_by, class_declared}
use Rattle.eval_classes.proofs.bodies.declared_class.Goals as goal

pub returns : goal.returns
returns g c =
    let item = c.item-item.result.now in
    let body = c.args.body in
    rw (class_declared (g.M.Meaning.within c.args.forms.now.left) body.number body.line body.here c.args.world.now item
    c.in_ok-binding.binding c.item-item.ensures.item
    (c.in_ok-binding.ensures ∙ ap (λ given. bound_by given item) c.in_ok-given.ensures)) c.bound_class.ensures
