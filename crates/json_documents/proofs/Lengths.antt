-- A compact text is at least as long as the lists within it.
use Rattle.std.proofs.Common.{ℕ, suc, ◌+◌, ◌≤◌, Bool, true, false, List, [], ◌∷◌, ◌++◌, map, length, length-append, arith}
use Rattle.serde_json.specs.Data.{Data, null, boolean, number, string, array, object, Items, no_items, item, Members, no_members, member}
use Rattle.serde_json.specs.View.{items_of}
use Rattle.serde_json.specs.Written.{compact_text, items_text, members_text}
use Rattle.json.specs.Print.{quoted}

-- how many items the lists within have together
abbrev mutual
  pub items_within : Data → ℕ
  items_within null = 0
  items_within (boolean b) = 0
  items_within (number n) = 0
  items_within (string s) = 0
  items_within (array ds) = count_items ds
  items_within (object ms) = count_members ms

  pub count_items : Items → ℕ
  count_items no_items = 0
  count_items (item d ds) = suc (items_within d + count_items ds)

  pub count_members : Members → ℕ
  count_members no_members = 0
  count_members (member k d ms) = items_within d + count_members ms

mutual
  pub as_long : (d : Data) → items_within d ≤ length (compact_text d)
  as_long null = omega arith
  as_long (boolean b) = omega arith
  as_long (number n) = omega arith
  as_long (string s) = omega arith
  as_long (array ds) = omega (arith, first_items ds)
  as_long (object ms) = omega (arith, as_long_members false ms)

  -- behind a comma
  later_items : (ds : Items) → suc (count_items ds) ≤ length (items_text true ds)
  later_items no_items = omega arith
  later_items (item d ds) =
      omega (arith, length-append (compact_text d) (items_text true ds), as_long d, later_items ds)

  first_items : (ds : Items) → count_items ds ≤ length (items_text false ds)
  first_items no_items = omega arith
  first_items (item d ds) =
      omega (arith, length-append (compact_text d) (items_text true ds), as_long d, later_items ds)

  as_long_members : (later : Bool) (ms : Members) → count_members ms ≤ length (members_text later ms)
  as_long_members later no_members = omega arith
  as_long_members true (member k d ms) =
      omega (
        arith,
        length-append (quoted k) (58 ∷ (compact_text d ++ members_text true ms)),
        length-append (compact_text d) (members_text true ms),
        as_long d,
        as_long_members true ms,
      )
  as_long_members false (member k d ms) =
      omega (
        arith,
        length-append (quoted k) (58 ∷ (compact_text d ++ members_text true ms)),
        length-append (compact_text d) (members_text true ms),
        as_long d,
        as_long_members true ms,
      )

pub long_list : {X : Type 0} (f : X → Data) (xs : List X) → length xs ≤ count_items (items_of (map f xs))
long_list f [] = omega arith
long_list f (x ∷ xs) = omega (arith, long_list f xs)
