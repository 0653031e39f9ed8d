use Rattle.std.proofs.Common.{length, ap, subst, sym, ◌∙◌}
use Rattle.hiera_config.specs.Keeping.{filed}
use Rattle.hiera_config.specs.Planning.{Planned}
use Rattle.hiera_config.proofs.PlanLemmas.{planned_more, no_plan, one_longer}
use Rattle.hiera_config.proofs.plan.plan_of_levels.Goals as goal

pub loop-level-init : goal.loop-level-init
loop-level-init c = (
  subst (Planned (filed c.args.files.now.entries) c.args.folder.now c.args.levels.now) (sym c.new-plan.ensures.items)
      (no_plan _ _ c.args.levels.now),
  ap length c.new-plan.ensures.items,
)

pub loop-level-preserved : goal.loop-level-preserved
loop-level-preserved c = (
  subst (Planned (filed c.args.files.now.entries) c.args.folder.now c.args.levels.now) (sym c.in_ok-push.ensures.items)
      (planned_more _ _ c.args.levels.now c.loop-level.plan.items c.loop-level.level-index _ _ c.loop-level-test.true
      c.level-item.is c.loop-level.invariant.1 c.in_ok-slot_for.ensures c.loop-level.invariant.0),
  ap length c.in_ok-push.ensures.items ∙ one_longer c.loop-level.plan.items _ c.loop-level.level-index c.loop-level.invariant.1,
)
