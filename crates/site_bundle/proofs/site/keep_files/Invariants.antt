-- To put in the pairs that are left gives the whole.
use Rattle.std.proofs.Common.{length}
use Rattle.std.specs.Prelude.{IsTrue}
use Rattle.site_bundle.specs.Given.{are_short}
use Rattle.site_bundle.proofs.KeptLemmas.{Leads}
use Rattle.site_bundle.proofs.site.keep_files.Given as goal

abbrev pub invariant-loop-path : goal.invariant-loop-path
invariant-loop-path l = Leads l.kept l.left l.fn.files × IsTrue (are_short l.left)

abbrev pub decreases-loop-path : goal.decreases-loop-path
decreases-loop-path l = length l.left
