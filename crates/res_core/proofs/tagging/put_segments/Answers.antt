use Rattle.std.proofs.Common.{sym, ap, ◌∙◌, ◌++◌, map, filter, rules}
use Rattle.res_core.specs.TagNames.{lowered, is_filled}
use Rattle.res_core.proofs.SegmentLemmas.{segments_split, segments_whole}
use Rattle.res_core.proofs.NameLemmas.{segment_more}
use Rattle.res_core.proofs.tagging.put_segments.Goals as goal

pub loop-segment-preserved : goal.loop-segment-preserved
loop-segment-preserved c =
    (search rules, segment_more _ _ _ _ _ (segments_split _ _ _ c.in-Some.ensures.cases) c.in_ok-put_if_filled.ensures ∙ c.loop-segment.invariant.1)

pub returns : goal.returns
returns c =
    c.in_ok-put_if_filled-2.ensures
    ∙ ap (λ ts. c.loop-segment.all.items ++ map lowered (filter is_filled ts)) (sym (segments_whole c.loop-segment.rest.now c.in_default.ensures.cases))
    ∙ c.loop-segment.invariant.1
