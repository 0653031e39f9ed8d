-- What was come to so far, with the templates that are left.
use Rattle.hiera_config.specs.Reached.{in_template}
use Rattle.hiera_config.specs.Seen.{names_seen}
use Rattle.hiera_config.proofs.AddLemmas.{Left}
use Rattle.hiera_config.proofs.reaching.add_templates.Given as goal

abbrev pub invariant-loop-template : goal.invariant-loop-template
invariant-loop-template l =
    Left (in_template l.files l.folder l.level (names_seen l.names)) l.templates l.template-index
    l.initial.found.items l.found.items
