use Rattle.std.proofs.Common.{◌∙◌, ◌≤◌, length, take_all, Contains, inr, sym, subst, arith, true≢false}
use Rattle.std.proofs.lemmas.List.Elements.{Contains-get_or}
use Rattle.rel_graph.proofs.TraceLemmas.{least_is, least_less, least_kept}
use Rattle.rel_graph.proofs.cycles.least_of.Goals as goal
use Rattle.rel_graph.proofs.cycles.least_of.Goals.{then-at-least+then-is_far, else-at-least, else-at-least-via-then-at-least+else-is_far, else-at-least-via-else-at-least}

pub loop-at-preserved : goal.loop-at-preserved
loop-at-preserved c =
    let found = c.args.found.now in
    let numbers = c.args.numbers.now in
    let i = c.loop-at.at-index in
    let s = c.loop-at.invariant in
    elim c.if-at-least.branch [
      | then-at-least+then-is_far w ↦ rw w.least-is (record {
        is = inr (Contains-get_or found i 0 c.loop-at-test.true, w.is_far.ensures.0 w.if-is_far.true);
        least = least_less found numbers i c.loop-at.least c.args.left c.loop-at-test.true s.least
            w.if-at-least.true;
      })
      | else-at-least w ↦ rw w.least-is (record {
        is = s.is;
        least = least_kept found numbers i c.loop-at.least c.args.left c.loop-at-test.true s.least
            (elim w.else-at-least.branch [
              | else-at-least-via-then-at-least+else-is_far u ↦
                  λ e. absurd (true≢false (sym (u.is_far.ensures.1 e) ∙ u.if-is_far.false))
              | else-at-least-via-else-at-least u ↦ λ _. u.if-at-least.false
            ]);
      })
    ]

pub returns : goal.returns
returns c =
    let s = c.loop-at.invariant in
    let end : length c.args.found.now ≤ c.loop-at.at-index = omega arith in
    least_is c.args.found.now c.args.numbers.now c.loop-at.least c.args.left c.requires.found c.requires.some s.is
    (λ y h. s.least y (subst (λ l. Contains l y) (sym (take_all c.loop-at.at-index c.args.found.now end)) h))
