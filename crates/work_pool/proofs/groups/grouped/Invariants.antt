use Rattle.std.proofs.Common.{◌≡◌, ◌+◌, ◌*◌, ◌<◌, ◌≤◌, ◌++◌, length}
use Rattle.work_pool.specs.Groups.{together, run_count, share, AreWithin}
use Rattle.work_pool.proofs.groups.grouped.Given as goal

-- What is left is within the shares of the runs to come, and no run so far exceeds its share.
abbrev pub invariant-loop-left : goal.invariant-loop-left
invariant-loop-left g l = record {
  some : 0 < l.left;
  count : length l.groups.items + l.left ≡ run_count (length l.initial.items.items) l.threads;
  all : l.items.items ++ together l.groups.items ≡ l.initial.items.items;
  covered : length l.items.items ≤ share (length l.initial.items.items) (run_count (length l.initial.items.items) l.threads) * l.left;
  even : AreWithin (share (length l.initial.items.items) (run_count (length l.initial.items.items) l.threads)) l.groups.items;
}

abbrev pub decreases-loop-left : goal.decreases-loop-left
decreases-loop-left g l = l.left
