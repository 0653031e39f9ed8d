-- To put in the pairs that are left gives the whole.
use Rattle.std.proofs.Common.{◌≡◌, [], length}
use Rattle.hiera_config.specs.Documents.{put_in}
use Rattle.hiera_config.proofs.site_data.data_from.Given as goal

abbrev pub invariant-loop-path : goal.invariant-loop-path
invariant-loop-path l = put_in l.data l.left ≡ put_in [] l.files

abbrev pub decreases-loop-path : goal.decreases-loop-path
decreases-loop-path l = length l.left
