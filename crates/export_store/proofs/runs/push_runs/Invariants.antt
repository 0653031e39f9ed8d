-- The runs so far are those before the index.
use Rattle.std.proofs.Common.{◌≡◌, ◌++◌, take, All}
use Rattle.export_store.specs.Levels.{runs_entries, IsRun}
use Rattle.export_store.proofs.runs.push_runs.Given as goal

abbrev pub invariant-loop-run : goal.invariant-loop-run
invariant-loop-run g l = record {
  entries : runs_entries l.items.items ≡ runs_entries l.fn.items.items ++ runs_entries (take l.run-index l.more);
  runs : All IsRun l.fn.items.items → All IsRun l.more → All IsRun l.items.items;
}
