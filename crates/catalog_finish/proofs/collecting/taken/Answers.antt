use Rattle.std.proofs.Common.{arith}
use Rattle.catalog_finish.proofs.RelatingLemmas.{taken_turn}
use Rattle.catalog_finish.specs.Relating.{taken_index}
use Rattle.catalog_finish.specs.Sources.{sources_of}
use Rattle.catalog_finish.proofs.collecting.taken.Goals as goal

pub loop-number-preserved : goal.loop-number-preserved
loop-number-preserved c =
    taken_turn (taken_index (sources_of c.args.tables.now) c.args.collector.now) c.args.tables.now.book.now
    c.loop-number.number c.loop-number.found _ _ _ (omega (arith, c.loop-number-test.true, c.count-number-end.ensures))
    c.in_ok-taken_here.ensures c.in_ok-append.ensures c.loop-number.invariant
