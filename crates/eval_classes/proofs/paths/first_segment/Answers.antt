use Rattle.std.proofs.Common.{ap, sym}
use Rattle.res_core.proofs.SegmentLemmas.{segments_whole}
use Rattle.eval_classes.specs.Definitions.{first_segment}
use Rattle.eval_classes.proofs.Segments.{first_cut}
use Rattle.eval_classes.proofs.paths.first_segment.Goals as goal

pub returns-in-None : goal.returns-in-None
returns-in-None c = sym (ap first_segment (segments_whole c.args.name.now c.in-None.ensures.cases))

pub returns-in-Some : goal.returns-in-Some
returns-in-Some c = sym (first_cut _ _ _ c.in-Some.ensures.cases)
