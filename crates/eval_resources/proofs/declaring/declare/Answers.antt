use Rattle.std.proofs.Common.{ap, subst, ◌∙◌}
use Rattle.eval_resources.specs.Declaring.{declare_rule, item_of, mode_of}
use Rattle.eval_world.specs.Outcomes.{Gives, same}
use Rattle.eval_world.specs.Worlds.{put}
use Rattle.eval_resources.proofs.declaring.declare.Goals as goal

pub returns-clause-number : goal.returns-clause-number
unfolding declare_rule
returns-clause-number c =
    let w = c.args.world.now in
    let body = c.args.body.now in
    subst (λ d. Gives same (put d (mode_of c.args.form) w) c.put_item.result c.put_item.new.world)
    (c.in_ok-item.ensures ∙ ap (λ o. item_of o w.book c.args.named body) c.get-owner.ensures)
    (subst (λ m. Gives same (put c.in_ok-item.item m w) c.put_item.result c.put_item.new.world) c.mode_of.ensures
    c.put_item.ensures.number)
