use Rattle.catalog_finish.specs.Naming.{called, all_called}
use Rattle.catalog_finish.proofs.NameLemmas.{here_some, here_none, at_end}
use Rattle.catalog_finish.proofs.names.first_same.Goals as goal

pub returns-in-Some : goal.returns-in-Some
returns-in-Some c =
    here_some (called c.args.named.now) (all_called c.args.items.now) c.args.places.now c.loop-place.place-index
    (called c.in-Some.item.now) c.loop-place-test.true c.loop-place.invariant c.in-Some.ensures

pub loop-place-preserved : goal.loop-place-preserved
loop-place-preserved c =
    here_none (called c.args.named.now) (all_called c.args.items.now) c.args.places.now c.loop-place.place-index
    c.loop-place-test.true c.loop-place.invariant c.in_default.ensures

pub returns : goal.returns
returns c =
    at_end (called c.args.named.now) (all_called c.args.items.now) c.args.places.now c.loop-place.place-index
    c.loop-place-test.false c.loop-place.invariant
