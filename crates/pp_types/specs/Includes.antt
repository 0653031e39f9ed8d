-- Whether a data type includes another: by the rules, which are asked of smaller and smaller pairs.
use Rattle.std.specs.Prelude.{ℕ, zero, suc, ◌+◌, ◌*◌, Bool, false}
use Rattle.pp_values.specs.Sort.{Sort}
use Rattle.pp_types.specs.Forms.{Form, form, form_size}
use Rattle.pp_types.specs.Rules.{by_rules}

-- the rules, asked at most so many times within one another
unfoldable pub includes_within : ℕ → Form → Form → Bool
includes_within zero w n = false
includes_within (suc k) w n = by_rules (includes_within k) w n

-- Each pair that a rule asks of weighs less than the one before it.
abbrev pub weight : Form → Form → ℕ
weight w n = 4 * form_size w + form_size n

unfoldable pub includes : Form → Form → Bool
includes w n = includes_within (suc (weight w n)) w n

-- of two data types as they were written
abbrev pub type_includes : Sort → Sort → Bool
type_includes w n = includes (form w) (form n)
