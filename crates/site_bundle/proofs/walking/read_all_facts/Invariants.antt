-- What the names that are left come to all names come to.
use Rattle.std.proofs.Common.{length, map}
use Rattle.site_bundle.specs.FolderSites.{facts_walk}
use Rattle.site_bundle.specs.Walks.{in_turn}
use Rattle.site_bundle.proofs.WalkSteps.{Leads}
use Rattle.site_bundle.proofs.walking.read_all_facts.Given as goal

abbrev pub invariant-loop-left : goal.invariant-loop-left
invariant-loop-left g l =
    Leads (g.T.Tree.folder l.fn.tree) (g.T.Tree.folder l.tree) (in_turn (map (facts_walk l.front) l.left) l.gathered)
    (in_turn (map (facts_walk l.front) l.names) l.fn.gathered)

abbrev pub decreases-loop-left : goal.decreases-loop-left
decreases-loop-left g l = length l.left
