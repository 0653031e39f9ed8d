use Rattle.std.proofs.Common.{◌≡◌, ◌++◌, ◌∷◌, [], length, sym, ap, ◌∙◌, arith, append_assoc}
use Rattle.wide_apply.specs.Shares.{dealt}
use Rattle.wide_apply.proofs.ShareLemmas.{dealt_push, all_yielded}
use Rattle.wide_apply.proofs.sharing.shares_of.Goals as goal

pub loop-turn-preserved : goal.loop-turn-preserved
loop-turn-preserved g c = record {
  all = append_assoc c.loop-turn.yielded (c.in-Some.turn ∷ []) c.next.new.self.rest.items
      ∙ ap (λ l. c.loop-turn.yielded ++ l) (sym c.in-Some.ensures.steps.0) ∙ c.loop-turn.invariant.all;
  seen = ap (λ l. dealt c.deal.new.shares.items ++ l) c.in_ok-push.ensures.items
      ∙ sym (append_assoc (dealt c.deal.new.shares.items) c.deal.new.own.items (c.in-Some.turn ∷ []))
      ∙ ap (λ l. l ++ c.in-Some.turn ∷ []) (c.in_ok-deal.ensures ∙ c.loop-turn.invariant.seen);
}

pub returns : goal.returns
returns g c =
    let rest = c.loop-turn.turn-iterator.rest in
    let over : length rest.items ≡ 0 = (let none = c.in-None.ensures.steps.0 in omega (arith, none, rest.ok)) in
    ap dealt c.in_ok-push-2.ensures.items ∙ dealt_push c.loop-turn.shares.items _ ∙ c.loop-turn.invariant.seen
    ∙ all_yielded c.loop-turn.yielded rest.items c.args.turns.items c.loop-turn.invariant.all over
