use Rattle.hiera_merge.proofs.StackLemmas.{one_behind}
use Rattle.hiera_merge.proofs.deepening.members_of_all.Goals as goal

pub loop-value-preserved : goal.loop-value-preserved
loop-value-preserved c =
    one_behind _ c.in-Some.value _ _ _ _ _ c.in-Some.ensures.steps.0 c.members_of.ensures c.in_ok-add_members.ensures
    c.loop-value.invariant
