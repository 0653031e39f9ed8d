use Rattle.std.proofs.Common.{sym, ap, ◌∙◌}
use Rattle.std.specs.Prelude.{option_map}
use Rattle.pp_values.specs.Views.{view}
use Rattle.site_bundle.specs.Gathering.{json_in}
use Rattle.site_bundle.proofs.FactSteps.{read_are_facts}
use Rattle.site_bundle.proofs.gathered.Gathered.put_facts.Goals as goal

pub list-requires : goal.list-requires
list-requires c =
    read_are_facts c.args.node.now (json_in c.args.content.now) _
    (sym c.in_ok-facts.ensures ∙ ap (λ o. option_map view o) c.in-Some.is)
