-- What is left decides.
use Rattle.std.proofs.Common.{◌≡◌, length}
use Rattle.attribute_lines.specs.Reading.{lines_from}
use Rattle.attribute_lines.proofs.reading.lines.Given as goal

abbrev pub invariant-loop-attribute : goal.invariant-loop-attribute
invariant-loop-attribute g l =
    lines_from (g.M.Meaning.within l.forms.left) l.fn.done l.attributes l.here l.fn.world
    ≡ lines_from (g.M.Meaning.within l.forms.left) l.all l.rest l.here l.world

abbrev pub decreases-loop-attribute : goal.decreases-loop-attribute
decreases-loop-attribute g l = length l.rest
