-- The measures: the levels that are left, and how far each function is from the next one. What the names that are left
-- come to all names come to.
use Rattle.std.proofs.Common.{◌+◌, ◌*◌, length}
use Rattle.site_bundle.proofs.WalkSteps.{Leads, entries_walk}
use Rattle.site_bundle.proofs.walking.+walking.Given as goal

abbrev pub decreases-read_folder : goal.decreases-read_folder
decreases-read_folder g l = l.levels * 3

abbrev pub decreases-read_entry : goal.decreases-read_entry
decreases-read_entry g l = l.levels * 3 + 1

abbrev pub decreases-read_entries : goal.decreases-read_entries
decreases-read_entries g l = l.levels * 3 + 2

abbrev pub invariant-read_entries-loop-left : goal.invariant-read_entries-loop-left
invariant-read_entries-loop-left g l =
    Leads (g.T.Tree.folder l.fn.tree) (g.T.Tree.folder l.tree) (entries_walk l.levels l.front l.path l.left l.gathered)
    (entries_walk l.levels l.front l.path l.names l.fn.gathered)

abbrev pub decreases-read_entries-loop-left : goal.decreases-read_entries-loop-left
decreases-read_entries-loop-left g l = length l.left
