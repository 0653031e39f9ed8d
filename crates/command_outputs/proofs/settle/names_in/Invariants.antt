-- The names so far, and those of the nodes that are left, are those of all.
use Rattle.std.proofs.Common.{◌≡◌, ◌++◌, map}
use Rattle.command_outputs.proofs.settle.names_in.Given as goal

abbrev pub invariant-loop-name : goal.invariant-loop-name
invariant-loop-name l = l.names.items ++ map (λ e. e.0) l.name-iterator ≡ map (λ e. e.0) l.nodes.entries
