use Rattle.std.proofs.Common.{if◌then◌else◌, sym, ap, ◌∙◌, true≢false}
use Rattle.std.specs.FinMap.{find}
use Rattle.std.specs.Prelude.{is_ok, is_some}
use Rattle.pp_values.specs.Rising.{text_cmp}
use Rattle.pp_values.specs.Views.{view}
use Rattle.pp_values.specs.Words.{reference_text}
use Rattle.agent_machine.specs.CallTexts.{pieces_text}
use Rattle.agent_machine.specs.States.{with_record, with_property}
use Rattle.agent_machine.proofs.MapLemmas.{set_there, record_found}
use Rattle.agent_machine.proofs.states.States.change.Goals as goal

pub returns : goal.returns
returns c =
    let m = c.self.inside.by_text.entries in
    let ok = is_ok c.put.result in
    let d = view c.args.value in
    set_there ok m (c.get_mut.follows.lender c.put.new.self).entries (pieces_text c.key.result) c.args.name d
    c.in-Some.properties.now c.put.new.self c.in-Some.ensures.value (c.get_mut.follows.holds c.put.new.self).0 c.put.ensures
    ∙ ap (λ t. if ok then with_record t c.args.name d (find text_cmp t m) m else m) c.key.ensures
    ∙ ap (λ s. if ok then with_property c.args.what.now c.args.name d s else s) c.self.view_is

pub unreachable-requires : goal.unreachable-requires
unreachable-requires c =
    let m = c.self.inside.by_text.entries in
    true≢false (sym c.requires.there
    ∙ ap is_some (sym (record_found m c.args.self.now (pieces_text c.key.result) (reference_text c.args.what.now) c.self.view_is c.key.ensures)
    ∙ sym c.in-None.ensures.value))
