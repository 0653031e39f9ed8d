use Rattle.std.proofs.Common.{◌++◌, ◌∷◌, [], sym, subst, ap, ◌∙◌}
use Rattle.wide_apply.specs.Shares.{gathered, AreOk}
use Rattle.wide_apply.proofs.ShareLemmas.{gathered_push, ok_push}
use Rattle.wide_apply.proofs.sharing.gather.Goals as goal

pub loop-part-preserved : goal.loop-part-preserved
loop-part-preserved g c =
    let seen = c.loop-part.yielded in
    let part = c.in_ok-part.part in (
      c.in_ok-append.ensures.items ∙ ap (λ l. l ++ part.items) c.loop-part.invariant.0 ∙ sym (gathered_push seen part)
          ∙ ap (λ r. gathered (seen ++ r ∷ [])) (sym c.in_ok-part.was),
      subst (λ r. AreOk (seen ++ r ∷ [])) (sym c.in_ok-part.was) (ok_push seen part c.loop-part.invariant.1),
    )
