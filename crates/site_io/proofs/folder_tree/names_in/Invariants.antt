use Rattle.std.specs.Prelude.{IsTrue}
use Rattle.pp_values.specs.Rising.{is_rising}
use Rattle.site_io.proofs.folder_tree.names_in.Given as goal

abbrev pub invariant-loop-entry : goal.invariant-loop-entry
invariant-loop-entry g l = IsTrue (is_rising l.names.keys)
