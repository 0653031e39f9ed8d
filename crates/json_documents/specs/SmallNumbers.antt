-- Documents whose numbers are integers of 64 bits: each number in a document that the program writes is one.
use Rattle.std.specs.Prelude.{◌^◌, nat_lt, Bool, true, false, ◌&&◌, pos, negsuc}
use Rattle.serde_json.specs.Data.{Num, unsigned, negative, float, Data, null, boolean, number, string, array, object}
use Rattle.serde_json.specs.Data.{Items, no_items, item, Members, no_members, member}

-- from -2^63 up to 2^64 - 1
abbrev pub is_small : Num → Bool
is_small (unsigned n) = nat_lt n (2 ^ 64)
is_small (negative (pos n)) = false
is_small (negative (negsuc n)) = nat_lt n (2 ^ 63)
is_small (float x) = false

abbrev mutual
  pub has_small : Data → Bool
  has_small null = true
  has_small (boolean b) = true
  has_small (number n) = is_small n
  has_small (string s) = true
  has_small (array ds) = items_have_small ds
  has_small (object ms) = members_have_small ms

  pub items_have_small : Items → Bool
  items_have_small no_items = true
  items_have_small (item d ds) = has_small d && items_have_small ds

  pub members_have_small : Members → Bool
  members_have_small no_members = true
  members_have_small (member k d ms) = has_small d && members_have_small ms
