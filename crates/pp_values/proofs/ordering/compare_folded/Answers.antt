-- Where one text ends first, it is the lesser.
use Rattle.std.proofs.Common.{◌≡◌, ◌<◌, ℕ, List, [], ◌∷◌, length, map, drop, refl, arith}
use Rattle.std.specs.declared.cmp.Ordering.TheVariants.{Less, Greater}
use Rattle.std.specs.Char.{to_ascii_lowercase}
use Rattle.std.specs.Ordering.{nat_cmp}
use Rattle.std.specs.Cmp.Lexicographic.{slice_cmp}
use Rattle.std.proofs.lemmas.Grind.{common_steps}
use Rattle.pp_values.proofs.ordering.compare_folded.Goals as goal

second_ends : (xs : List ℕ) → 0 < length xs → slice_cmp nat_cmp (map to_ascii_lowercase xs) [] ≡ Greater
second_ends [] h = absurd (omega (arith, h))
second_ends (x ∷ xs) h = refl

first_ends : (ys : List ℕ) → 0 < length ys → slice_cmp nat_cmp [] (map to_ascii_lowercase ys) ≡ Less
first_ends [] h = absurd (omega (arith, h))
first_ends (y ∷ ys) h = refl

pub returns-then-i-b : goal.returns-then-i-b
returns-then-i-b c = grind (arith, common_steps, c.loop-i.invariant, second_ends (drop c.loop-i.i c.args.a.now))

pub returns-then-a-b : goal.returns-then-a-b
returns-then-a-b c = grind (arith, common_steps, c.loop-i.invariant, first_ends (drop c.loop-i.i c.args.b.now))
