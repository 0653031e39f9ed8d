use Rattle.std.proofs.Common.{ap, ◌∙◌}
use Rattle.std.specs.FinMap.{find}
use Rattle.pp_values.specs.Rising.{text_cmp}
use Rattle.pp_values.specs.Views.{view}
use Rattle.site_bundle.proofs.SiteLemmas.{viewed, lookup-shown, viewed_facts}
use Rattle.site_bundle.proofs.listed_nodes.ListedNodes.get.Goals as goal

pub returns-clause-listed : goal.returns-clause-listed
returns-clause-listed c =
    viewed view c.get.result _ c.get.ensures.value ∙ lookup-shown view c.self.inside.by_name.entries c.args.name.now
    ∙ ap (find text_cmp c.args.name.now) c.self.view_is

pub returns-clause-facts : goal.returns-clause-facts
returns-clause-facts c =
    viewed_facts c.get.result _ c.args.name.now
    (viewed view c.get.result _ c.get.ensures.value ∙ lookup-shown view c.self.inside.by_name.entries c.args.name.now)
    c.self.invariant.1
