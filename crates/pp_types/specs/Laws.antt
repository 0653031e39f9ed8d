-- That the number by which `includes` ends decides nothing.
use Rattle.std.specs.Prelude.{◌≡◌, ℕ, suc, ◌<◌, Bool}
use Rattle.pp_types.specs.Forms.{Form}
use Rattle.pp_types.specs.Includes.{includes, includes_within, weight}
use Rattle.pp_types.specs.Rules.{by_rules}

-- The rules hold of it, asked of itself.
abbrev pub KeepsRules : (Form → Form → Bool) → Type 0
KeepsRules inc = (w n : Form) → inc w n ≡ by_rules inc w n

-- From the weight of a pair on, one more asking within another changes nothing.
abbrev pub WeightSuffices : Type 0
WeightSuffices = (k : ℕ) (w n : Form) → weight w n < k → includes_within k w n ≡ includes_within (suc k) w n

-- Nothing else keeps the rules.
abbrev pub OnlyIncludes : Type 0
OnlyIncludes = (inc : Form → Form → Bool) → KeepsRules inc → (w n : Form) → inc w n ≡ includes w n
