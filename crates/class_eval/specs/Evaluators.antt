-- What an evaluator holds.
use Rattle.std.specs.Prelude.{ℕ, ◌+◌, ◌-◌, ◌^◌, List, min}
use Rattle.eval_world.specs.declared.world.World.{World}

-- the world of its compile, the name of the node, and how often a collector was to take a local declaration so far
pub record Evaluation : Type 0 where
  pub world : World
  pub node : List ℕ
  pub looks : ℕ

-- one more; from the greatest number of 64 bits on it stays
abbrev pub one_more : ℕ → ℕ
one_more looks = min (looks + 1) (2 ^ 64 - 1)
