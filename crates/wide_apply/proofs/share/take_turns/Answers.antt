use Rattle.std.proofs.Common.{◌++◌, ◌∷◌, [], sym, subst}
use Rattle.wide_apply.specs.Apart.{Takes, TakesAll}
use Rattle.wide_apply.proofs.ShareLemmas.{zip_push}
use Rattle.wide_apply.proofs.share.take_turns.Goals as goal

pub loop-turn-preserved : goal.loop-turn-preserved
loop-turn-preserved g c =
    let seen = c.loop-turn.yielded in
    subst (λ l. TakesAll g.P.Machine.state (seen ++ c.in-Some.turn ∷ []) l) (sym c.in_ok-push.ensures.items)
    (zip_push (Takes g.P.Machine.state) seen c.loop-turn.taken.items c.in-Some.turn c.in_ok-take_turn.field-0
    c.loop-turn.invariant c.in_ok-take_turn.ensures)
