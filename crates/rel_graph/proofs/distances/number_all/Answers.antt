use Rattle.std.proofs.Common.{◌∙◌, ◌<◌, ◌≤◌, Some, Contains, length, get_or, length-set, sym, subst, arith, take_all}
use Rattle.rel_graph.proofs.Levels.{given_more, kept_more}
use Rattle.rel_graph.proofs.distances.number_all.Goals as goal

pub loop-at-preserved : goal.loop-at-preserved
loop-at-preserved c =
    let numbers = c.args.numbers.now in
    let after = c.loop-at.numbers in
    let found = c.args.found.now in
    let i = c.loop-at.at-index in
    let s = c.loop-at.invariant in
    let n = c.requires i 0 c.loop-at-test.true in
    let long = s.long in
    let here : get_or found i 0 < length after = omega (arith, n, long) in
    record {
      long = length-set after (get_or found i 0) (Some c.args.level) ∙ s.long;
      given = given_more numbers after found i c.args.level c.loop-at-test.true here s.given s.kept;
      kept = kept_more numbers after found i c.args.level c.loop-at-test.true here s.given s.kept;
    }

pub returns-clause-given : goal.returns-clause-given
returns-clause-given c = λ x h.
    let end : length c.args.found.now ≤ c.loop-at.at-index = omega arith in
    c.loop-at.invariant.given x (subst (λ l. Contains l x) (sym (take_all c.loop-at.at-index c.args.found.now end)) h)
