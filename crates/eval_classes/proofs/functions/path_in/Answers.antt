use Rattle.std.proofs.Common.{refl}
use Rattle.res_core.proofs.SegmentLemmas.{segments_whole, segments_split}
use Rattle.eval_classes.proofs.functions.path_in.Goals as goal

pub returns-in-None : goal.returns-in-None
returns-in-None c = rw (segments_whole c.args.name.now c.in-None.ensures.cases) refl

pub returns-in-Some : goal.returns-in-Some
returns-in-Some c = rw (segments_split _ _ _ c.in-Some.ensures.cases) c.path_behind.ensures
