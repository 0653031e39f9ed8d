use Rattle.std.proofs.Common.{sym, subst, All}
use Rattle.std.proofs.lemmas.List.Elements.{All-take, All-drop}
use Rattle.export_store.specs.Levels.{leaf_entries, IsLeaf}
use Rattle.export_store.proofs.BlockLemmas.{joined_halves}
use Rattle.export_store.proofs.runs.put_leaves.Goals as goal

pub returns-clause-entries : goal.returns-clause-entries
returns-clause-entries g c =
    joined_halves leaf_entries _ _ _ c.args.leaves.items _ _ 32 c.in_ok-half.ensures.items c.in_ok-half.ensures.tail c.in_ok-put_run-2.ensures.entries c.in_ok-put_run-3.ensures.entries

pub put_run-requires-2-clause-leaves : goal.put_run-requires-2-clause-leaves
put_run-requires-2-clause-leaves g c = subst (All IsLeaf) (sym c.in_ok-half.ensures.items) (All-take IsLeaf 32 c.args.leaves.items c.requires.leaves)

pub put_run-requires-3-clause-leaves : goal.put_run-requires-3-clause-leaves
put_run-requires-3-clause-leaves g c = subst (All IsLeaf) (sym c.in_ok-half.ensures.tail) (All-drop IsLeaf 32 c.args.leaves.items c.requires.leaves)

pub returns-clause-runs : goal.returns-clause-runs
returns-clause-runs g c = λ old. c.in_ok-put_run-3.ensures.runs (c.in_ok-put_run-2.ensures.runs old)
