-- Where the whole ends first, the text is not its front.
use Rattle.std.proofs.Common.{◌≡◌, ◌<◌, ℕ, false, List, [], ◌∷◌, length, map, drop, refl, arith}
use Rattle.std.specs.Char.{to_ascii_lowercase}
use Rattle.std.proofs.lemmas.Grind.{common_steps}
use Rattle.pp_ops.specs.Members.{begins}
use Rattle.pp_ops.proofs.membership.begins.Goals as goal

whole_ends : (xs : List ℕ) → 0 < length xs → begins (map to_ascii_lowercase xs) [] ≡ false
whole_ends [] h = absurd (omega (arith, h))
whole_ends (x ∷ xs) h = refl

pub returns-then-i-text : goal.returns-then-i-text
returns-then-i-text c = grind (arith, common_steps, c.loop-i.invariant, whole_ends (drop c.loop-i.i c.args.front.now))
