use Rattle.std.proofs.Common.{sym, ap}
use Rattle.hiera_config.specs.Reached.{in_template}
use Rattle.hiera_config.proofs.AddLemmas.{same_adds}
use Rattle.hiera_config.proofs.reaching.add_for_value.Goals as goal

pub returns : goal.returns
returns c =
    same_adds _ _ _ _ _
    (ap (λ vs. in_template c.args.files.now c.args.folder.now c.args.mapped.now.level.now vs
    c.args.mapped.now.template.now) (sym c.hiding-names.ensures))
    c.add_template.ensures
