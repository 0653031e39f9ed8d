-- Keys that stand twice in a hash literal. A key counts where it is written as a text without interpolation, a name or
-- a number.
use Rattle.std.specs.Prelude.{ℕ, Bool, false, ◌||◌, if◌then◌else◌, List, [], ◌∷◌, ◌++◌, min, Option, Some, None, ℤ}
use Rattle.std.specs.Ordering.{int_eq}
use Rattle.std.specs.Str.{bytes_eq}
use Rattle.pp_tree.specs.declared.collector.Test.TheOpen.{Form-F}
use Rattle.pp_tree.specs.declared.expr.Expr.{Expr}
use Rattle.pp_tree.specs.declared.expr.Form.{out-Form}
use Rattle.pp_tree.specs.declared.expr.Pair.{Pair}
use Rattle.pp_tree.specs.Building.{form_of, line_of}
use Rattle.pp_tree.specs.Layers.{FormLayer}

-- what a key says as it is written, if it counts
pub data Key : Type 0 where
  word : List ℕ → Key
  number : ℤ → Key
  other : Key

abbrev pub key_by : FormLayer → Key
key_by (Form-F.Text said) = word said
key_by (Form-F.Name name) = word name
key_by (Form-F.Number n) = number n
key_by _ = other

unfoldable pub key_of : Expr → Key
key_of x = key_by (out-Form (form_of x))

-- a word and a number are different keys, and other expressions are never the same
unfoldable pub same_key : Key → Key → Bool
same_key (word a) (word b) = bytes_eq a b
same_key (number a) (number b) = int_eq a b
same_key _ _ = false

-- whether it is the key of one of these pairs
unfoldable pub has_key : Key → List (Pair Expr) → Bool
has_key key [] = false
has_key key (p ∷ ps) = same_key (key_of p.key) key || has_key key ps

-- the line of the first key that an earlier pair has too
unfoldable pub doubled_from : List (Pair Expr) → List (Pair Expr) → Option ℕ
doubled_from earlier [] = None
doubled_from earlier (p ∷ ps) = if has_key (key_of p.key) earlier then Some (line_of p.key)
    else doubled_from (earlier ++ p ∷ []) ps

unfoldable pub doubled_key : List (Pair Expr) → Option ℕ
doubled_key pairs = doubled_from [] pairs

-- the earlier of two lines, where there are two
unfoldable pub earlier_line : Option ℕ → Option ℕ → Option ℕ
earlier_line None b = b
earlier_line (Some a) None = Some a
earlier_line (Some a) (Some b) = Some (min a b)
