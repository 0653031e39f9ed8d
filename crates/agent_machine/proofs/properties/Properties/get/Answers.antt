use Rattle.std.proofs.Common.{ap, ◌∙◌}
use Rattle.std.specs.FinMap.{find}
use Rattle.pp_values.specs.Rising.{text_cmp}
use Rattle.agent_machine.proofs.MapLemmas.{found_value, lent_value}
use Rattle.agent_machine.proofs.properties.Properties.get.Goals as goal

pub returns : goal.returns
returns c =
    lent_value c.get.result _ c.get.ensures.value ∙ found_value c.self.inside.by_name.entries c.args.name.now
    ∙ ap (find text_cmp c.args.name.now) c.self.view_is
