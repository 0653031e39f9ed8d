use Rattle.std.proofs.Common.{ap, ◌∙◌}
use Rattle.std.specs.BTreeMap.{is_at}
use Rattle.std.specs.FinMap.{find}
use Rattle.std.specs.Map.{lookup}
use Rattle.pp_values.specs.Rising.{text_cmp}
use Rattle.pp_values.specs.Words.{reference_text}
use Rattle.agent_machine.proofs.MapLemmas.{lookup_find}
use Rattle.agent_machine.proofs.states.States.get.Goals as goal

pub returns : goal.returns
returns c =
    c.get.ensures.value ∙ ap (λ t. lookup (is_at (text_cmp t)) c.self.inside.by_text.entries) c.key.ensures
    ∙ lookup_find c.self.inside.by_text.entries (reference_text c.args.what.now)
    ∙ ap (find text_cmp (reference_text c.args.what.now)) c.self.view_is
