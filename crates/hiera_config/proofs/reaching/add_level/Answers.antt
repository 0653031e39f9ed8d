use Rattle.std.proofs.Common.{sym, ap, ◌∙◌}
use Rattle.hiera_config.specs.Reached.{in_mapped, in_paths}
use Rattle.hiera_config.specs.Seen.{seen}
use Rattle.hiera_config.specs.Variables.{variable, mapped_values}
use Rattle.hiera_config.proofs.AddLemmas.{same_adds}
use Rattle.hiera_config.proofs.reaching.add_level.Goals as goal

pub returns-in-Mapped : goal.returns-in-Mapped
returns-in-Mapped c =
    same_adds _ _ _ _ _
    (ap (in_paths c.args.files.now (seen c.args.variables.now) c.args.folder.now c.args.level.now) c.in-Mapped.is
    ∙ ap (λ t. in_mapped c.args.files.now c.args.folder.now c.args.level.now (seen c.args.variables.now)
    c.in-Mapped.name c.in-Mapped.template (mapped_values (variable (seen c.args.variables.now) t)))
    (sym c.as_str-variable.ensures.text))
    c.add_mapped.ensures
