use Rattle.std.proofs.Common.{length}
use Rattle.site_bundle.proofs.parsing.have_few_bytes.Given as goal

abbrev pub decreases-loop-left : goal.decreases-loop-left
decreases-loop-left l = length l.left
