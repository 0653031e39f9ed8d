-- How often collectors look at declarations at most.
use Rattle.std.specs.Prelude.{ℕ, suc, List, map, sum}
use Rattle.override_rules.specs.Meaning.{touched_by}
use Rattle.eval_world.specs.declared.world.World.{World}

-- one collector: for each declaration once more than lines and defaults concern it
abbrev pub most_looks_of_one : World → ℕ
most_looks_of_one w = sum (map (λ r. suc (touched_by w.overrides r)) w.book)

-- all collectors
abbrev pub most_looks : World → ℕ
most_looks w = sum (map (λ c. most_looks_of_one w) w.relations.collectors)
