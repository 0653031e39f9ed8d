use Rattle.std.proofs.Common.{sym, ap, subst, ◌∙◌, ◌++◌, ◌+◌, ◌-◌, ◌/◌, ◌<◌, ◌≤◌, IsTrue, length, drop, arith}
use Rattle.std.proofs.lemmas.List.Elements.{All-get_or}
use Rattle.std.specs.FinMap.{is_sorted}
use Rattle.pp_values.specs.Rising.{text_cmp}
use Rattle.export_store.specs.Levels.{is_above, leaves_entries, run_entries, runs_entries, IsRun}
use Rattle.export_store.specs.declared.run.Run.{Run}
use Rattle.export_store.proofs.BlockLemmas.{block_sorted, block_sorted_on, passed}
use Rattle.export_store.proofs.RowLemmas.{run_filled}
use Rattle.export_store.proofs.runs.run_at.Goals as goal

pub leaves_lie_below-requires-clause-sorted : goal.leaves_lie_below-requires-clause-sorted
leaves_lie_below-requires-clause-sorted g c =
    let middle = c.loop-low.low + (c.loop-low.high - c.loop-low.low) / 2 in
    let x = c.index-runs-middle.result in
    let inside : middle < length c.args.runs.now = omega (arith, c.loop-low-test.true, c.loop-low.invariant.bound) in
    subst (λ members. IsTrue (is_sorted text_cmp (leaves_entries members)))
    (sym (c.deref.ensures.value ∙ ap (λ (x : Run _). x.leaves.items) c.deref-run.ensures))
    (block_sorted run_entries c.args.runs.now middle x inside c.index-runs-middle.is c.requires.sorted)

pub loop-low-preserved-then-leaves_lie_below : goal.loop-low-preserved-then-leaves_lie_below
loop-low-preserved-then-leaves_lie_below g c =
    let middle = c.loop-low.low + (c.loop-low.high - c.loop-low.low) / 2 in
    let x = c.index-runs-middle.result in
    let inside : middle < length c.args.runs.now = omega (arith, c.loop-low-test.true, c.loop-low.invariant.bound) in
    let fits : IsRun x = subst IsRun (sym c.index-runs-middle.is) (All-get_or IsRun c.args.runs.now middle x inside c.requires.runs) in
    let some : 1 ≤ length (run_entries x) = run_filled x fits in
    record {
      order = omega (arith, c.loop-low-test.true);
      bound = c.loop-low.invariant.bound;
      around = record {
        lower = passed run_entries c.args.key.now c.args.runs.now middle x inside c.index-runs-middle.is some c.requires.sorted
            (subst (λ members. IsTrue (is_above c.args.key.now (leaves_entries members)))
            (c.deref.ensures.value ∙ ap (λ (x : Run _). x.leaves.items) c.deref-run.ensures)
            (c.leaves_lie_below.ensures.yes c.if-leaves_lie_below.true));
        higher = c.loop-low.invariant.around.higher;
      };
    }

pub loop-low-preserved : goal.loop-low-preserved
loop-low-preserved g c =
    let middle = c.loop-low.low + (c.loop-low.high - c.loop-low.low) / 2 in
    let x = c.index-runs-middle.result in
    let inside : middle < length c.args.runs.now = omega (arith, c.loop-low-test.true, c.loop-low.invariant.bound) in
    record {
      order = omega arith;
      bound = inside;
      around = record {
        lower = c.loop-low.invariant.around.lower;
        higher = c.leaves_lie_below.ensures.no c.if-leaves_lie_below.false _
            (subst (λ members. IsTrue (is_sorted text_cmp (leaves_entries members ++ runs_entries (drop (middle + 1) c.args.runs.now))))
            (sym (c.deref.ensures.value ∙ ap (λ (x : Run _). x.leaves.items) c.deref-run.ensures))
            (block_sorted_on run_entries c.args.runs.now middle x inside c.index-runs-middle.is c.requires.sorted));
      };
    }
