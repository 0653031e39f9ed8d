-- The templates of the files that are left, with those that are kept, are all of them.
use Rattle.std.proofs.Common.{◌≡◌, []}
use Rattle.hiera_config.specs.Keeping.{filed}
use Rattle.site_bundle.specs.Templates.{with_templates}
use Rattle.site_bundle.proofs.site_templates.read_templates.Given as goal

abbrev pub invariant-loop-path : goal.invariant-loop-path
invariant-loop-path l = with_templates l.templates (filed l.path-iterator) ≡ with_templates [] l.files
