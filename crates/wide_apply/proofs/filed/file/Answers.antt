use Rattle.std.proofs.Common.{sym, subst, ap, ◌∙◌}
use Rattle.agent_transaction.specs.Marking.{SpreadsIf}
use Rattle.agent_transaction.specs.Runs.{has_failed, signals}
use Rattle.wide_apply.proofs.FiledLemmas.{known_more}
use Rattle.wide_apply.proofs.filed.file.Goals as goal

pub returns-clause-known : goal.returns-clause-known
returns-clause-known g c = λ r turned t same told known.
    known_more r turned t c.args.slots.now.items c.put_line.new.slots.items c.args.blocked.now c.mark_if.new.marks
    c.args.signalled.now c.mark_if-2.new.marks known (c.in_ok-put_line.ensures.filed turned t same told known.filed)
    (subst (λ x. SpreadsIf (has_failed t.line) x c.args.blocked.now c.mark_if.new.marks) (sym same)
    (subst (λ b. SpreadsIf b c.args.taken.at c.args.blocked.now c.mark_if.new.marks)
    (c.has_failed.ensures ∙ sym (ap has_failed told)) c.mark_if.ensures))
    (subst (λ x. SpreadsIf (signals t.line) x c.args.signalled.now c.mark_if-2.new.marks) (sym same)
    (subst (λ b. SpreadsIf b c.args.taken.at c.args.signalled.now c.mark_if-2.new.marks)
    (c.signals.ensures ∙ sym (ap signals told)) c.mark_if-2.ensures))
