-- What was come to so far, with the values that are left.
use Rattle.pp_values.specs.Views.{view}
use Rattle.hiera_config.specs.Reached.{in_template}
use Rattle.hiera_config.specs.Seen.{seen}
use Rattle.hiera_config.specs.Variables.{hiding}
use Rattle.hiera_config.proofs.AddLemmas.{Left}
use Rattle.hiera_config.proofs.reaching.add_for_values.Given as goal

abbrev pub invariant-loop-value : goal.invariant-loop-value
invariant-loop-value l =
    Left (λ v. in_template l.files l.folder l.mapped.level.now (hiding l.mapped.name.now (view v) (seen l.variables))
    l.mapped.template.now) l.values l.value-index l.initial.found.items l.found.items
