-- What was split off so far, and what the first pass and seat keep.
use Rattle.site_batch.specs.Shares.{seen_by}
use Rattle.site_batch.proofs.Splitting.{AreSplit}
use Rattle.site_batch.proofs.batch.shares.Given as goal

abbrev pub invariant-loop-worker : goal.invariant-loop-worker
invariant-loop-worker g l = AreSplit l.site (seen_by l.fn.pass) l.claims l._worker l.shares.items l.pass l.seat
