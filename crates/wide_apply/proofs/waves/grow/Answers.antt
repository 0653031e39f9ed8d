use Rattle.std.proofs.Common.{sym, subst}
use Rattle.wide_apply.specs.Waves.{IsDivided}
use Rattle.wide_apply.proofs.SortLemmas.{divided_grown}
use Rattle.wide_apply.proofs.waves.grow.Goals as goal

pub loop-alloc-preserved : goal.loop-alloc-preserved
loop-alloc-preserved c = λ wave tasks start.
    subst (IsDivided wave tasks) (sym c.in_ok-push.ensures.items)
    (divided_grown wave tasks c.loop-alloc.waves.items (c.loop-alloc.invariant wave tasks start) c.new.result
    c.new.ensures.items)
