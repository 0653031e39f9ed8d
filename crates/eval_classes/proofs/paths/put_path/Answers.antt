use Rattle.res_core.proofs.SegmentLemmas.{segments_whole}
use Rattle.eval_classes.proofs.Segments.{within_further}
use Rattle.eval_classes.proofs.paths.put_path.Goals as goal

pub returns-in-None : goal.returns-in-None
returns-in-None c = rw (segments_whole c.args.name.now c.in-None.ensures.cases) c.put_first.ensures

pub returns-in-Some : goal.returns-in-Some
returns-in-Some c = rw (within_further _ _ _ c.in-Some.ensures.cases) c.put_further.ensures
