use Rattle.std.proofs.Common.{◌∙◌}
use Rattle.hiera_config.proofs.FileLemmas.{one_put, all_put}
use Rattle.hiera_config.proofs.site_data.data_from.Goals as goal

pub loop-path-preserved : goal.loop-path-preserved
loop-path-preserved c =
    one_put c.loop-path.data c.read.new.self c.loop-path.left c.pop.new.self c.args.files.now
    (c.in-Some.path, c.in-Some.text) c.in-Some.ensures c.in_ok-read.ensures c.loop-path.invariant

pub returns : goal.returns
returns c =
    c.in_ok-plan.ensures
    ∙ all_put c.loop-path.data c.loop-path.left c.args.files.now c.in_default.ensures.0 c.loop-path.invariant
