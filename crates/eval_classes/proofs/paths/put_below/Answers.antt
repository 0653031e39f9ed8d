use Rattle.std.proofs.Common.{rules, sym, ◌∙◌}
use Rattle.eval_classes.proofs.Segments.{below_cut, below_whole}
use Rattle.eval_classes.proofs.paths.put_below.Goals as goal

pub loop-segment-preserved : goal.loop-segment-preserved
loop-segment-preserved c =
    (search rules, below_cut _ _ _ _ _ c.in-Some.ensures.cases c.in_ok-put_segment.ensures ∙ c.loop-segment.invariant.1)

pub returns : goal.returns
returns c =
    rw (sym c.loop-segment.invariant.1, below_whole c.loop-segment.rest.now c.in_default.ensures.cases)
    c.put_segment-2.ensures
