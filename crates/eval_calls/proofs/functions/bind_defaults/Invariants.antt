-- What is left decides.
use Rattle.std.proofs.Common.{◌≡◌, length}
use Rattle.eval_calls.specs.Functions.{defaults_from}
use Rattle.eval_calls.proofs.functions.bind_defaults.Given as goal

abbrev pub invariant-loop-param : goal.invariant-loop-param
invariant-loop-param g l =
    defaults_from (g.M.Meaning.within l.forms.left) l.params l.at l.own l.fn.world
    ≡ defaults_from (g.M.Meaning.within l.forms.left) l.rest l.at l.own l.world

abbrev pub decreases-loop-param : goal.decreases-loop-param
decreases-loop-param g l = length l.rest
