use Rattle.std.proofs.Common.{◌++◌, ◌∷◌, [], sym, subst, ◌∙◌}
use Rattle.std.specs.List.{AllZip}
use Rattle.wide_apply.specs.Apart.{Begins}
use Rattle.wide_apply.proofs.ShareLemmas.{zip_push}
use Rattle.wide_apply.proofs.begun.begin_all.Goals as goal

pub loop-planned-preserved : goal.loop-planned-preserved
loop-planned-preserved g c =
    let state = g.W.Part.Machine.state in
    let found = g.W.Machine.state c.args.machine.now in
    let blocked = c.args.blocked.now in
    let signalled = c.args.signalled.now in
    let seen = c.loop-planned.yielded in
    let same = c.loop-planned.invariant.same in
    record {
      begins = subst (λ l. AllZip (Begins state blocked signalled found) (seen ++ c.in-Some.planned ∷ []) l)
          (sym c.in_ok-push.ensures.items)
          (zip_push (Begins state blocked signalled found) seen c.loop-planned.turns.items c.in-Some.planned
          c.in_ok-begin.field-0
          c.loop-planned.invariant.begins
          (subst (λ m. Begins state blocked signalled m c.in-Some.planned c.in_ok-begin.field-0) same
          c.in_ok-begin.ensures.begins));
      same = c.begin.ensures.same ∙ same;
    }
