use Rattle.std.proofs.Common.{ap, ◌∙◌}
use Rattle.std.specs.FinMap.{put}
use Rattle.pp_values.specs.Rising.{text_cmp}
use Rattle.agent_machine.proofs.MapLemmas.{insert_put}
use Rattle.agent_machine.proofs.states.States.put.Goals as goal

pub returns : goal.returns
returns c =
    c.in_ok-insert.ensures.entries ∙ insert_put c.self.inside.by_text.entries c.args.text c.args.properties
    ∙ ap (put text_cmp c.args.text c.args.properties) c.self.view_is
