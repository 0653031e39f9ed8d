use Rattle.std.proofs.Common.{ap}
use Rattle.std.proofs.Math.ListN.{drop_of_length-le}
use Rattle.hiera_config.specs.OptionTables.{told_all}
use Rattle.hiera_config.specs.ReachedFiles.{reached_view, reached_views}
use Rattle.hiera_config.proofs.ToldLemmas.{told_at, one_told, none_told, end_told}
use Rattle.hiera_config.proofs.told_options.told_all.Goals as goal

pub loop-one-preserved : goal.loop-one-preserved
loop-one-preserved c =
    one_told _ _ _ _ _ _ _
    (told_at c.args.key.now reached_view c.args.there.now c.loop-one.one-index _ c.loop-one-test.true c.one-item.is)
    c.in-Some.ensures c.over-told.ensures c.loop-one.invariant

pub returns-in-None : goal.returns-in-None
returns-in-None c =
    none_told _ _ _ _ _
    (told_at c.args.key.now reached_view c.args.there.now c.loop-one.one-index _ c.loop-one-test.true c.one-item.is)
    c.in-None.ensures c.loop-one.invariant

pub returns : goal.returns
returns c =
    end_told _ _ _
    (ap (λ xs. told_all c.args.key.now (reached_views xs))
    (drop_of_length-le c.args.there.now c.loop-one-test.false))
    c.loop-one.invariant
