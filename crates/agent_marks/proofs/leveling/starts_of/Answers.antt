use Rattle.std.proofs.Common.{◌≡◌, ◌<◌, ◌↔◌, ℕ, true, Contains, take, get_or, set, ◌++◌, ◌∷◌, [], sym, subst, ◌∙◌, arith, length-set}
use Rattle.std.proofs.lemmas.List.{take_more, take_all}
use Rattle.rel_graph.specs.Marks.{Marked}
use Rattle.agent_marks.specs.Nodes.{begin_of}
use Rattle.agent_marks.proofs.LevelLemmas.{one_start}
use Rattle.agent_marks.proofs.leveling.starts_of.Goals as goal

pub loop-at-preserved : goal.loop-at-preserved
loop-at-preserved c =
    let starts = c.loop-at.starts.items in
    let counted = c.args.counted.now in
    let i = c.loop-at.at-index in
    let x = get_or counted i 0 in
    record {
      long = length-set starts c.begin.result true ∙ c.loop-at.invariant.long;
      marked = λ v.
          subst (λ l. Marked (set starts c.begin.result true) v ↔ ((y : ℕ) × Contains l y × (v ≡ begin_of y)))
          (sym (take_more counted i 0 c.loop-at-test.true))
          (subst (λ b. Marked (set starts b true) v ↔ ((y : ℕ) × Contains (take i counted ++ x ∷ []) y × (v ≡ begin_of y))) (sym c.begin.ensures)
          (one_start starts (take i counted) x (subst (λ n. begin_of x < n) (sym c.loop-at.invariant.long) (c.requires i 0 c.loop-at-test.true))
          c.loop-at.invariant.marked v));
    }

pub returns : goal.returns
returns c = λ v.
    subst (λ l. Marked c.loop-at.starts.items v ↔ ((y : ℕ) × Contains l y × (v ≡ begin_of y)))
    (take_all c.loop-at.at-index c.args.counted.now (omega arith)) (c.loop-at.invariant.marked v)
