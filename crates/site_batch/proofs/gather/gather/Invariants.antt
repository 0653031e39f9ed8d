-- What was taken so far is joined, and the rest is left.
use Rattle.std.proofs.Common.{length}
use Rattle.site_batch.proofs.Gathering.{AreJoining}
use Rattle.site_batch.proofs.gather.gather.Given as goal

abbrev pub invariant-loop-next : goal.invariant-loop-next
invariant-loop-next g l =
    AreJoining l.site l.claims l.fn.works.items l.works.items l.pass l.seat l.answers.items

abbrev pub decreases-loop-next : goal.decreases-loop-next
decreases-loop-next g l = length l.works.items
