use Rattle.std.proofs.Common.{sym, ap, subst, ◌∙◌, ◌+◌, ◌++◌, arith, take, All}
use Rattle.std.proofs.lemmas.Grind.{common_steps}
use Rattle.std.proofs.lemmas.List.Elements.{All-drop, All-take, All-nil}
use Rattle.std.specs.Arc.{arc_value}
use Rattle.export_store.specs.Rows.{entries_of}
use Rattle.export_store.specs.Levels.{leaf_entries, leaves_entries, IsLeaf}
use Rattle.export_store.proofs.BlockLemmas.{put_within}
use Rattle.export_store.proofs.leaves.with_leaves.Goals as goal

pub returns-clause-entries : goal.returns-clause-entries
returns-clause-entries g c =
    put_within leaf_entries c.args.new.key (arc_value c.args.new.value) c.args.leaves.now c.leaf_at-index.result
    (leaves_entries c.push_leaves.new.items.items) (leaves_entries c.put_rows.new.items.items) (entries_of c.in_ok-rows.rows.items) _
    c.leaf_at-index.ensures.around
    (c.in_ok-push_leaves.ensures.entries ∙ ap (λ ls. leaves_entries ls ++ leaves_entries (take c.leaf_at-index.result c.args.leaves.now)) c.new-items.ensures.items)
    c.in_ok-rows.ensures.entries
    c.in_ok-put_rows.ensures.entries
    (c.in_ok-push_leaves-2.ensures.entries ∙ ap (λ ls. leaves_entries c.put_rows.new.items.items ++ leaves_entries ls) c.behind.ensures)

pub returns-clause-leaves : goal.returns-clause-leaves
returns-clause-leaves g c =
    c.in_ok-push_leaves-2.ensures.leaves
    (c.in_ok-put_rows.ensures.leaves
    (c.in_ok-push_leaves.ensures.leaves (subst (All IsLeaf) (sym c.new-items.ensures.items) (All-nil IsLeaf)) (All-take IsLeaf c.leaf_at-index.result c.args.leaves.now c.requires.leaves)))
    (subst (All IsLeaf) (sym c.behind.ensures) (All-drop IsLeaf (c.leaf_at-index.result + 1) c.args.leaves.now c.requires.leaves))

pub returns-clause-count : goal.returns-clause-count
returns-clause-count g c =
    grind (arith, common_steps, c.leaf_at-index.ensures.bound, c.in_ok-push_leaves.ensures.count, c.in_ok-put_rows.ensures.count, c.in_ok-push_leaves-2.ensures.count, c.behind.ensures, c.new-items.ensures.items)
