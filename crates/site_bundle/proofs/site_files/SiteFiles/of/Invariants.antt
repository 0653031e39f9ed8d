-- To put in the manifests that are left gives the whole.
use Rattle.std.proofs.Common.{◌≡◌, [], length}
use Rattle.site_bundle.specs.SiteView.{put_in}
use Rattle.site_bundle.proofs.site_files.SiteFiles.of.Given as goal

abbrev pub invariant-loop-manifest : goal.invariant-loop-manifest
invariant-loop-manifest l = put_in l.files l.left.items ≡ put_in [] l.fn.manifests.items

abbrev pub decreases-loop-manifest : goal.decreases-loop-manifest
decreases-loop-manifest l = length l.left.items
