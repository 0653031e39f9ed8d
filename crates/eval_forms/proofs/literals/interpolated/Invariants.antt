-- What is left decides.
use Rattle.std.proofs.Common.{◌≡◌, [], length, string_bytes}
use Rattle.eval_forms.specs.Literals.{pieces_from}
use Rattle.eval_forms.proofs.literals.interpolated.Given as goal

abbrev pub invariant-loop-piece : goal.invariant-loop-piece
invariant-loop-piece g l = pieces_from (g.M.Meaning.within l.forms.left) [] l.pieces l.here l.fn.world
    ≡ pieces_from (g.M.Meaning.within l.forms.left) (string_bytes l.done) l.rest l.here l.world

abbrev pub decreases-loop-piece : goal.decreases-loop-piece
decreases-loop-piece g l = length l.rest
