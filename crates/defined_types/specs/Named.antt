-- The one declaration that a collector of the function `realize` may take: what the functions within speak of.
use Rattle.std.specs.Prelude.{ℕ, Bool, false, Option, None, Some}
use Rattle.eval_collecting.specs.Matching.{local_match}
use Rattle.eval_world.specs.Outcomes.{Step, pure}

-- where there is one
abbrev pub take_named : ℕ → Option ℕ → Step Bool
take_named c None = pure false
take_named c (Some n) = local_match c n
