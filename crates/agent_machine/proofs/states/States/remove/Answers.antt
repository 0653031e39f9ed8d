use Rattle.std.proofs.Common.{ap, ◌∙◌}
use Rattle.std.specs.BTreeMap.{is_at}
use Rattle.std.specs.Map.{remove_entry}
use Rattle.pp_values.specs.Rising.{text_cmp}
use Rattle.pp_values.specs.Words.{reference_text}
use Rattle.agent_machine.proofs.states.States.remove.Goals as goal

pub returns : goal.returns
returns c =
    c.remove.ensures.entries
    ∙ ap (λ t. remove_entry (is_at (text_cmp t)) c.self.inside.by_text.entries) c.key.ensures
    ∙ ap (remove_entry (is_at (text_cmp (reference_text c.args.what.now)))) c.self.view_is
