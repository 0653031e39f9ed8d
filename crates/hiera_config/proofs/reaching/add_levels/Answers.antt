use Rattle.std.proofs.Common.{sym, subst}
use Rattle.std.proofs.Math.ListN.{drop_of_length-le}
use Rattle.hiera_config.specs.Planning.{Fits}
use Rattle.hiera_config.specs.Reached.{in_level}
use Rattle.hiera_config.specs.Seen.{seen}
use Rattle.hiera_config.proofs.AddLemmas.{one_left, all_left}
use Rattle.hiera_config.proofs.PlanLemmas.{fits_at}
use Rattle.hiera_config.proofs.reaching.add_levels.Goals as goal

pub add_planned-requires : goal.add_planned-requires
add_planned-requires c =
    subst (Fits c.args.files.now c.args.folder.now c.index-levels-i.result) (sym c.fixed_at-fixed.ensures)
    (fits_at _ _ c.args.levels.now c.args.plan.now c.loop-i.i _ c.loop-i-test.true c.index-levels-i.is c.requires)

pub loop-i-preserved : goal.loop-i-preserved
loop-i-preserved c =
    one_left (in_level c.args.files.now (seen c.args.variables.now) c.args.folder.now) _ _ _ _ _ _ c.loop-i-test.true
    c.index-levels-i.is c.in_ok-add_planned.ensures c.loop-i.invariant

pub returns : goal.returns
returns c =
    all_left (in_level c.args.files.now (seen c.args.variables.now) c.args.folder.now) _ _ _ _
    (drop_of_length-le c.args.levels.now c.loop-i-test.false) c.loop-i.invariant
