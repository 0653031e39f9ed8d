-- The name is among the names exactly where it is among those that are left.
use Rattle.std.proofs.Common.{◌≡◌, length, map}
use Rattle.pp_values.specs.Rising.{has_text}
use Rattle.res_core.proofs.metaparameters.is_among.Given as goal

abbrev pub invariant-loop-names : goal.invariant-loop-names
invariant-loop-names l = has_text (map (λ n. n.now) l.names) l.name ≡ has_text (map (λ n. n.now) l.initial.names) l.name

abbrev pub decreases-loop-names : goal.decreases-loop-names
decreases-loop-names l = length l.names
