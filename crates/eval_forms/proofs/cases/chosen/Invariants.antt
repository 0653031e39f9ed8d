-- What is left decides.
use Rattle.std.proofs.Common.{◌≡◌, length}
use Rattle.eval_forms.specs.Conditions.{options_from, default_option}
use Rattle.eval_forms.proofs.cases.chosen.Given as goal

abbrev pub invariant-loop-option : goal.invariant-loop-option
invariant-loop-option g l =
    options_from (g.M.Meaning.within l.forms.left) l.control (default_option l.options) l.options l.line l.here
    l.fn.world
    ≡ options_from (g.M.Meaning.within l.forms.left) l.control (default_option l.options) l.rest l.line l.here l.world

abbrev pub decreases-loop-option : goal.decreases-loop-option
decreases-loop-option g l = length l.rest
