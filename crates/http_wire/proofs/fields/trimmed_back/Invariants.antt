use Rattle.std.proofs.Common.{◌≡◌, length, reverse}
use Rattle.httparse.specs.Grammar.{skip_ows}
use Rattle.http_wire.proofs.fields.trimmed_back.Given as goal

abbrev pub invariant-loop-left : goal.invariant-loop-left
invariant-loop-left l = reverse (skip_ows (reverse l.left)) ≡ reverse (skip_ows (reverse l.bytes))

abbrev pub decreases-loop-left : goal.decreases-loop-left
decreases-loop-left l = length l.left
