use Rattle.std.proofs.Common.{sym, subst}
use Rattle.std.proofs.Math.ListN.{drop_of_length-le}
use Rattle.pp_values.specs.Views.{view}
use Rattle.hiera_config.specs.Reached.{in_template}
use Rattle.hiera_config.specs.ReachedFiles.{Adds}
use Rattle.hiera_config.specs.Seen.{seen}
use Rattle.hiera_config.specs.Variables.{hiding}
use Rattle.hiera_config.proofs.AddLemmas.{one_left, all_left, each_of}
use Rattle.hiera_config.proofs.reaching.add_for_values.Goals as goal

pub loop-value-preserved : goal.loop-value-preserved
loop-value-preserved c =
    one_left (λ v. in_template c.args.files.now c.args.folder.now c.args.mapped.now.level.now
    (hiding c.args.mapped.now.name.now (view v) (seen c.args.variables.now)) c.args.mapped.now.template.now) _ _ _ _ _ _
    c.loop-value-test.true c.value-item.is c.in_ok-add_for_value.ensures c.loop-value.invariant

pub returns : goal.returns
returns c =
    subst (λ rs. Adds rs c.args.found.now.items c.loop-value.found.items)
    (sym (each_of (λ d. in_template c.args.files.now c.args.folder.now c.args.mapped.now.level.now
    (hiding c.args.mapped.now.name.now d (seen c.args.variables.now)) c.args.mapped.now.template.now) view
    c.args.values.now))
    (all_left (λ v. in_template c.args.files.now c.args.folder.now c.args.mapped.now.level.now
    (hiding c.args.mapped.now.name.now (view v) (seen c.args.variables.now)) c.args.mapped.now.template.now) _ _ _ _
    (drop_of_length-le c.args.values.now c.loop-value-test.false) c.loop-value.invariant)
