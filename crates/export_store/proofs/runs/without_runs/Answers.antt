use Rattle.std.proofs.Common.{sym, ap, subst, ◌∙◌, ◌+◌, ◌++◌, take, All}
use Rattle.std.proofs.lemmas.List.Elements.{All-drop, All-take, All-nil}
use Rattle.export_store.specs.Levels.{leaves_entries, run_entries, runs_entries, IsRun}
use Rattle.export_store.proofs.BlockLemmas.{others_within}
use Rattle.export_store.proofs.runs.without_runs.Goals as goal

pub returns-clause-entries : goal.returns-clause-entries
returns-clause-entries g c =
    others_within run_entries c.args.key.now c.args.runs.now c.run_at-index.result
    (runs_entries c.push_runs.new.items.items) (runs_entries c.put_rest.new.items.items) (leaves_entries c.in_ok-leaves.leaves.items) _
    c.run_at-index.ensures.around
    (c.in_ok-push_runs.ensures.entries ∙ ap (λ ls. runs_entries ls ++ runs_entries (take c.run_at-index.result c.args.runs.now)) c.new-items.ensures.items)
    c.in_ok-leaves.ensures.entries
    c.in_ok-put_rest.ensures.entries
    (c.in_ok-push_runs-2.ensures.entries ∙ ap (λ ls. runs_entries c.put_rest.new.items.items ++ runs_entries ls) c.behind.ensures)

pub returns-clause-runs : goal.returns-clause-runs
returns-clause-runs g c =
    c.in_ok-push_runs-2.ensures.runs
    (c.in_ok-put_rest.ensures.runs
    (c.in_ok-push_runs.ensures.runs (subst (All IsRun) (sym c.new-items.ensures.items) (All-nil IsRun)) (All-take IsRun c.run_at-index.result c.args.runs.now c.requires.runs)))
    (subst (All IsRun) (sym c.behind.ensures) (All-drop IsRun (c.run_at-index.result + 1) c.args.runs.now c.requires.runs))
