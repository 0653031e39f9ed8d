use Rattle.std.proofs.Common.{◌≡◌, ◌++◌}
use Rattle.site_io.proofs.names.texts_of.Given as goal

abbrev pub invariant-loop-name : goal.invariant-loop-name
invariant-loop-name l = l.texts.items ++ l.name-iterator ≡ l.fn.names.keys
