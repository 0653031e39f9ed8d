use Rattle.std.proofs.Common.{◌≡◌, subst}
use Rattle.pp_values.specs.Views.{view}
use Rattle.class_eval.specs.Starting as spec
use Rattle.class_eval.proofs.starting.start_world.Goals as goal

pub returns : goal.returns
returns c = subst (λ w. c.begin.new.world ≡ spec.begun c.args.node.now (view c.args.facts.now) w)
    c.in_ok-world.ensures c.in_ok-begin.ensures
