-- What is listed, and what is free and ready to go on.
use Rattle.std.proofs.Common.{◌≡◌, length, count_by}
use Rattle.rel_graph.specs.Before.{Direct}
use Rattle.rel_graph.specs.Listing.{Listing}
use Rattle.rel_graph.specs.Steps.{Pending, AreCounted, AreReady, AreLeft}
use Rattle.rel_graph.proofs.listing.list_steps.Given as goal

abbrev pub invariant-loop-order : goal.invariant-loop-order
invariant-loop-order l = record {
  long : length l.left.items ≡ l.count;
  listing : Listing (Direct l.containers l.edges) l.count l.left.items l.order.items;
  counted : AreCounted l.arrows (length l.out) l.done.items l.waits.items (Pending l.free.items l.ready.keys);
  ready : AreReady l.done.items l.ready.keys;
  left : AreLeft l.count l.done.items l.left.items;
}

abbrev pub decreases-loop-order : goal.decreases-loop-order
decreases-loop-order l = count_by (λ b. b) l.left.items
