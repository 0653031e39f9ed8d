use Rattle.res_core.proofs.SegmentLemmas.{segments_split, segments_whole}
use Rattle.res_core.proofs.NameLemmas.{put_parts, put_whole}
use Rattle.res_core.proofs.tagging.put_with_segments.Goals as goal

pub returns-in_ok-put_segments : goal.returns-in_ok-put_segments
returns-in_ok-put_segments c =
    put_parts _ _ _ _ _ _ _ c.in_ok-put_tag.ensures c.in_ok-put_if_filled.ensures c.in_ok-put_segments.ensures
    (segments_split _ _ _ c.in-Some.ensures.cases)

pub returns-in_default : goal.returns-in_default
returns-in_default c = put_whole _ _ _ c.in_ok-put_tag.ensures (segments_whole _ c.in_default.ensures.cases)
