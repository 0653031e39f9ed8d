-- The names of nodes.
use Rattle.std.specs.Prelude.{ℕ, Bool, ◌&&◌, ◌||◌, nat_le, nat_eq, List, length}
use Rattle.std.specs.List.{list_all}
use Rattle.word_rules.specs.declared.limits.TheConstants.{MOST_NAME_CHARACTERS}

-- `a` to `z`, a digit, `.`, `_` or `-`
abbrev pub is_node_name_byte : ℕ → Bool
is_node_name_byte b = (nat_le 97 b && nat_le b 122) || (nat_le 48 b && nat_le b 57) || nat_eq b 46 || nat_eq b 95 ||
    nat_eq b 45

-- 1 to 255 of these
abbrev pub is_node_name : List ℕ → Bool
is_node_name word = nat_le 1 (length word) && nat_le (length word) MOST_NAME_CHARACTERS && list_all is_node_name_byte
    word
