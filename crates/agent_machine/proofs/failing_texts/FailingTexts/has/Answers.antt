use Rattle.std.proofs.Common.{◌≡◌, sym, subst, ap, ◌∙◌}
use Rattle.pp_values.specs.Rising.{has_text, sorted}
use Rattle.agent_machine.specs.CallTexts.{pieces_text}
use Rattle.agent_machine.specs.Failing.{texts_in, IsListed}
use Rattle.agent_machine.specs.declared.failing_texts.Listed.{Listed}
use Rattle.agent_machine.proofs.MapLemmas.{among_sorted}
use Rattle.agent_machine.proofs.failing_texts.FailingTexts.has.Goals as goal

pub returns-in-Some : goal.returns-in-Some
returns-in-Some c =
    let none = c.self.inside.none in
    let kept = subst (IsListed none) c.in-Some.is c.self.invariant in
    c.contains.ensures
    ∙ among_sorted c.deref.result.now.texts c.deref.result.now.in_order.keys (pieces_text c.args.call)
    (subst (λ (l : Listed). l.in_order.keys ≡ sorted l.texts) (sym c.deref.ensures) kept)
    ∙ ap (λ l. has_text l (pieces_text c.args.call))
    (ap (λ (l : Listed). l.texts) c.deref.ensures ∙ sym (ap (texts_in none) c.in-Some.is) ∙ c.self.view_is)
