-- Data whose text can be read back: numbers are integers of 64 bits, and the names of each object rise.
use Rattle.std.specs.Prelude.{ℕ, Bool, true, ◌&&◌, List, [], ◌∷◌}
use Rattle.serde_json.specs.Data.{Num, unsigned, negative, float, Data, null, boolean, number, string, array, object}
use Rattle.serde_json.specs.Data.{Items, no_items, item, Members, no_members, member}
use Rattle.pp_values.specs.Rising.{is_rising}
use Rattle.json_documents.specs.SmallNumbers.{is_small}

-- the names of an object's members, in their order
abbrev pub names : Members → List (List ℕ)
names no_members = []
names (member k d ms) = k ∷ names ms

-- in each object within the names rise in byte order, so that none stands twice
abbrev mutual
  pub has_rising : Data → Bool
  has_rising null = true
  has_rising (boolean b) = true
  has_rising (number n) = true
  has_rising (string s) = true
  has_rising (array ds) = items_have_rising ds
  has_rising (object ms) = is_rising (names ms) && members_have_rising ms

  pub items_have_rising : Items → Bool
  items_have_rising no_items = true
  items_have_rising (item d ds) = has_rising d && items_have_rising ds

  pub members_have_rising : Members → Bool
  members_have_rising no_members = true
  members_have_rising (member k d ms) = has_rising d && members_have_rising ms

-- a number is one of 64 bits, or a float
abbrev pub is_number_read : Num → Bool
is_number_read (unsigned n) = is_small (unsigned n)
is_number_read (negative z) = is_small (negative z)
is_number_read (float x) = true

-- what all that is read as JSON has: its numbers are integers of 64 bits or floats, and the names of each object rise
abbrev mutual
  pub is_read : Data → Bool
  is_read null = true
  is_read (boolean b) = true
  is_read (number n) = is_number_read n
  is_read (string s) = true
  is_read (array ds) = are_items_read ds
  is_read (object ms) = is_rising (names ms) && are_members_read ms

  pub are_items_read : Items → Bool
  are_items_read no_items = true
  are_items_read (item d ds) = is_read d && are_items_read ds

  pub are_members_read : Members → Bool
  are_members_read no_members = true
  are_members_read (member k d ms) = is_read d && are_members_read ms
