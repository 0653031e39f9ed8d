use Rattle.std.proofs.Common.{subst}
use Rattle.std.proofs.Math.ListN.{drop_of_length-le}
use Rattle.hiera_config.specs.Reached.{each, in_template}
use Rattle.hiera_config.specs.ReachedFiles.{Adds}
use Rattle.hiera_config.specs.Seen.{names_seen}
use Rattle.hiera_config.proofs.AddLemmas.{one_left, all_left}
use Rattle.hiera_config.proofs.reaching.add_templates.Goals as goal

pub loop-template-preserved : goal.loop-template-preserved
loop-template-preserved c =
    one_left (in_template c.args.files.now c.args.folder.now c.args.level.now (names_seen c.plain-names.result)) _ _ _ _
    _ _ c.loop-template-test.true c.template-item.is c.in_ok-add_template.ensures c.loop-template.invariant

pub returns : goal.returns
returns c =
    subst (λ vs. Adds (each (in_template c.args.files.now c.args.folder.now c.args.level.now vs) c.args.templates.now)
    c.args.found.now.items c.loop-template.found.items) c.plain-names.ensures
    (all_left (in_template c.args.files.now c.args.folder.now c.args.level.now (names_seen c.plain-names.result)) _ _ _
    _ (drop_of_length-le c.args.templates.now c.loop-template-test.false) c.loop-template.invariant)
