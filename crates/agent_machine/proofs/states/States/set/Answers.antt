use Rattle.std.proofs.Common.{sym, ap, ◌∙◌}
use Rattle.std.specs.Prelude.{is_some}
use Rattle.pp_values.specs.Words.{reference_text}
use Rattle.agent_machine.specs.CallTexts.{pieces_text}
use Rattle.agent_machine.proofs.MapLemmas.{record_found}
use Rattle.agent_machine.proofs.states.States.set.Goals as goal

pub change-requires-clause-there : goal.change-requires-clause-there
change-requires-clause-there c =
    ap is_some (sym (record_found c.self.inside.by_text.entries c.args.self.now (pieces_text c.key.result)
    (reference_text c.args.what.now) c.self.view_is c.key.ensures)) ∙ sym c.contains_key.ensures ∙ c.if-contains_key.true

pub create-requires-clause-none : goal.create-requires-clause-none
create-requires-clause-none c =
    ap is_some (sym (record_found c.self.inside.by_text.entries c.args.self.now (pieces_text c.key.result)
    (reference_text c.args.what.now) c.self.view_is c.key.ensures)) ∙ sym c.contains_key.ensures ∙ c.if-contains_key.false
