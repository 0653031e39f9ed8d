-- What is left decides.
use Rattle.std.proofs.Common.{◌≡◌, length}
use Rattle.pp_values.specs.Rising.{sorted, with_texts}
use Rattle.eval_resources.specs.Bodies.{line_names}
use Rattle.res_core.specs.Lines.{lines_of}
use Rattle.eval_resources.proofs.filling.names_of.Given as goal

abbrev pub invariant-loop-line : goal.invariant-loop-line
invariant-loop-line l =
    with_texts l.names.keys (line_names (lines_of l.rest)) ≡ sorted (line_names (lines_of l.lines))

abbrev pub decreases-loop-line : goal.decreases-loop-line
decreases-loop-line l = length l.rest
