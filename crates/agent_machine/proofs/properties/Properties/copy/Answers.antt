use Rattle.std.proofs.Common.{IsTrue, [], sym, subst, ap, ◌∙◌}
use Rattle.res_core.specs.PlainAttributes.{are_plain}
use Rattle.agent_machine.specs.Recorded.{recorded}
use Rattle.agent_machine.proofs.CopyLemmas.{puts, puts_all}
use Rattle.agent_machine.proofs.properties.Properties.copy.Goals as goal

pub loop-name-init : goal.loop-name-init
loop-name-init c =
    let is = c.into_iter-name-iterator.ensures.into_iter_gives ∙ c.iter-name-items.ensures.rest in
    record {
      puts = ap (λ l. puts l (recorded c.into_iter-name-iterator.result)) c.new-copied.ensures
          ∙ ap (λ l. puts [] (recorded l)) is ∙ puts_all c.self.inside.by_name.entries c.iter-name-items.ensures.ordered ∙ c.self.view_is;
      plain = subst (λ l. IsTrue (are_plain (recorded l))) (sym is) c.self.invariant;
    }
