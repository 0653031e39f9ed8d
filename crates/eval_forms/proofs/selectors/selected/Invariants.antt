-- What is left decides.
use Rattle.std.proofs.Common.{◌≡◌, length}
use Rattle.eval_forms.specs.Selectors.{selected_from, default_pair}
use Rattle.eval_forms.proofs.selectors.selected.Given as goal

abbrev pub invariant-loop-option : goal.invariant-loop-option
invariant-loop-option g l =
    selected_from (g.M.Meaning.within l.forms.left) l.control (default_pair l.options) l.options l.line l.here
    l.fn.world
    ≡ selected_from (g.M.Meaning.within l.forms.left) l.control (default_pair l.options) l.rest l.line l.here l.world

abbrev pub decreases-loop-option : goal.decreases-loop-option
decreases-loop-option g l = length l.rest
