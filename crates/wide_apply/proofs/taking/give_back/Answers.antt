use Rattle.std.proofs.Common.{◌++◌, ◌∷◌, [], sym, ap, ◌∙◌, append_assoc}
use Rattle.wide_apply.proofs.TakingLemmas.{back_push}
use Rattle.wide_apply.proofs.taking.give_back.Goals as goal

pub loop-back-preserved : goal.loop-back-preserved
loop-back-preserved g c =
    let state = g.W.Machine.state in
    record {
      all = append_assoc c.loop-back.yielded (c.in-Some.back ∷ []) c.next.new.self.rest.items
          ∙ ap (λ l. c.loop-back.yielded ++ l) (sym c.in-Some.ensures.steps.0) ∙ c.loop-back.invariant.all;
      back = back_push g.W.Part.Machine.state c.loop-back.yielded c.in-Some.back (state c.args.machine.now)
          (state c.loop-back.machine)
          (state c.give_back_one.new.machine) c.loop-back.invariant.back c.in_ok-give_back_one.ensures.back;
    }
