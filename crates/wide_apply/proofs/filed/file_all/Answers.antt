use Rattle.std.proofs.Common.{◌≡◌, ◌<◌, ◌++◌, ◌∷◌, [], map, length, sym, subst, ap, ap₂, ◌∙◌, arith, append_assoc}
use Rattle.std.proofs.lemmas.List.{map-append}
use Rattle.wide_apply.specs.Apart.{back_of}
use Rattle.wide_apply.specs.Going.{AreKnown}
use Rattle.wide_apply.proofs.ShareLemmas.{all_yielded}
use Rattle.wide_apply.proofs.TakingLemmas.{last_of, known_start, sizes_same, sizes_then, within_one}
use Rattle.wide_apply.proofs.filed.file_all.Goals as goal

pub loop-turn-init : goal.loop-turn-init
loop-turn-init g c = record {
  all = c.into_iter-turn-iterator.ensures.into_iter_gives.0;
  back = c.in_ok-backs.ensures.items;
  sizes = sizes_same c.args.slots.now.items c.args.blocked.now c.args.signalled.now;
  known = λ r turned wave e f k. known_start r turned wave c.args.slots.now.items c.args.blocked.now
      c.args.signalled.now e k;
}

pub file-requires-clause-slots : goal.file-requires-clause-slots
file-requires-clause-slots g c =
    subst (λ n. c.in-Some.turn.at < n) (sym c.loop-turn.invariant.sizes.same_slots)
    (within_one c.args.taken.items c.loop-turn.yielded c.next.new.self.rest.items c.in-Some.turn
    (λ x. x < length c.args.slots.now.items)
    (ap (λ l. c.loop-turn.yielded ++ l) (sym c.in-Some.ensures.steps.0) ∙ c.loop-turn.invariant.all)
    c.requires.within.in_slots)

pub file-requires-clause-blocked : goal.file-requires-clause-blocked
file-requires-clause-blocked g c =
    subst (λ n. c.in-Some.turn.at < n) (sym c.loop-turn.invariant.sizes.same_blocked)
    (within_one c.args.taken.items c.loop-turn.yielded c.next.new.self.rest.items c.in-Some.turn
    (λ x. x < c.args.blocked.now.count)
    (ap (λ l. c.loop-turn.yielded ++ l) (sym c.in-Some.ensures.steps.0) ∙ c.loop-turn.invariant.all)
    c.requires.within.in_blocked)

pub file-requires-clause-signalled : goal.file-requires-clause-signalled
file-requires-clause-signalled g c =
    subst (λ n. c.in-Some.turn.at < n) (sym c.loop-turn.invariant.sizes.same_signalled)
    (within_one c.args.taken.items c.loop-turn.yielded c.next.new.self.rest.items c.in-Some.turn
    (λ x. x < c.args.signalled.now.count)
    (ap (λ l. c.loop-turn.yielded ++ l) (sym c.in-Some.ensures.steps.0) ∙ c.loop-turn.invariant.all)
    c.requires.within.in_signalled)

pub loop-turn-preserved : goal.loop-turn-preserved
loop-turn-preserved g c =
    let seen = c.loop-turn.yielded in
    let turn = c.in-Some.turn in
    let inv = c.loop-turn.invariant in
    record {
      all = append_assoc seen (turn ∷ []) c.next.new.self.rest.items
          ∙ ap (λ l. seen ++ l) (sym c.in-Some.ensures.steps.0) ∙ inv.all;
      back = c.in_ok-push.ensures.items ∙ ap₂ (λ a b. a ++ b ∷ []) inv.back c.in_ok-file.ensures.back
          ∙ sym (map-append back_of seen (turn ∷ []));
      sizes = sizes_then c.args.slots.now.items c.loop-turn.slots.items c.file.new.slots.items c.args.blocked.now
          c.loop-turn.blocked c.file.new.blocked
          c.args.signalled.now c.loop-turn.signalled c.file.new.signalled inv.sizes c.in_ok-file.ensures.sizes;
      known = λ r turned wave e f k.
          let l = last_of seen turn wave e f in
          subst (λ x. AreKnown r (turned ++ x) c.file.new.slots.items c.file.new.blocked c.file.new.signalled)
          (sym l.is)
          (subst (λ x. AreKnown r x c.file.new.slots.items c.file.new.blocked c.file.new.signalled)
          (append_assoc turned l.front (l.last ∷ []))
          (c.in_ok-file.ensures.known r (turned ++ l.front) l.last l.at l.line
          (inv.known r turned l.front l.ats l.lines k)));
    }

pub returns-clause-known : goal.returns-clause-known
returns-clause-known g c =
    let rest = c.loop-turn.turn-iterator.rest in
    let over : length rest.items ≡ 0 = (let none = c.in-None.ensures.steps.0 in omega (arith, none, rest.ok)) in
    let all = all_yielded c.loop-turn.yielded rest.items c.args.taken.items c.loop-turn.invariant.all over in
    λ r turned wave e f k. c.loop-turn.invariant.known r turned wave (e ∙ ap (map (λ t. t.at)) (sym all))
    (f ∙ ap (map (λ t. t.line)) (sym all)) k
