use Rattle.std.proofs.Common.{sym}
use Rattle.res_core.proofs.SegmentLemmas.{segments_whole}
use Rattle.eval_classes.proofs.Segments.{no_path}
use Rattle.eval_classes.proofs.functions.path_behind.Goals as goal

pub returns-in-None : goal.returns-in-None
returns-in-None c = rw (segments_whole c.args.rest.now c.in-None.ensures.cases) c.one_path.ensures

pub returns-in-Some : goal.returns-in-Some
returns-in-Some c = sym (no_path c.args.front.now _ _ _ c.in-Some.ensures.cases)
