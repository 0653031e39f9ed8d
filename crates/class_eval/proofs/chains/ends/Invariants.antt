-- What is left decides.
use Rattle.std.proofs.Common.{◌≡◌, [], length}
use Rattle.class_eval.specs.Chains.{ends_from}
use Rattle.class_eval.proofs.chains.ends.Given as goal

abbrev pub invariant-loop-link : goal.invariant-loop-link
invariant-loop-link g l =
    ends_from (g.M.Meaning.within l.forms.left) [] l.links l.line l.here l.fn.world
    ≡ ends_from (g.M.Meaning.within l.forms.left) l.done.items l.rest l.line l.here l.world

abbrev pub decreases-loop-link : goal.decreases-loop-link
decreases-loop-link g l = length l.rest
