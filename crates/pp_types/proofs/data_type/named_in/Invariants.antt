-- What is left of the table tells what the whole tells.
use Rattle.std.proofs.Common.{◌≡◌, length, map}
use Rattle.pp_types.specs.Names.{named_in}
use Rattle.pp_types.proofs.data_type.named_in.Given as goal

abbrev pub invariant-loop-table : goal.invariant-loop-table
invariant-loop-table l =
    named_in (map (λ w. (w.0.now, w.1)) l.table) l.name ≡ named_in (map (λ w. (w.0.now, w.1)) l.initial.table) l.name

abbrev pub decreases-loop-table : goal.decreases-loop-table
decreases-loop-table l = length l.table
