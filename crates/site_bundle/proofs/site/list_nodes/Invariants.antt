-- To put in the pairs that are left gives the whole.
use Rattle.std.proofs.Common.{◌≡◌, [], length}
use Rattle.std.specs.Prelude.{IsTrue}
use Rattle.pp_values.specs.PairLists.{fact_views}
use Rattle.site_bundle.specs.SiteView.{put_in, have_facts}
use Rattle.site_bundle.proofs.site.list_nodes.Given as goal

abbrev pub invariant-loop-name : goal.invariant-loop-name
invariant-loop-name l = (put_in l.listed (fact_views l.left.items) ≡ put_in [] l.fn.nodes)
    × IsTrue (have_facts (fact_views l.left.items))

abbrev pub decreases-loop-name : goal.decreases-loop-name
decreases-loop-name l = length l.left.items
