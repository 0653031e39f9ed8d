-- Keys that stand twice in a hash literal. A key counts where it is written as a text without interpolation, a name or
-- a number.
use Rattle.std.specs.Prelude.{ℕ, Bool, false, ◌||◌, if◌then◌else◌, List, [], ◌∷◌, ◌++◌, min, Option, Some, None, Ok, ℤ}
use Rattle.std.specs.Ordering.{int_eq}
use Rattle.std.specs.Str.{bytes_eq}
use Rattle.pp_tree.specs.declared.collector.Test.TheOpen.{Form-F}
use Rattle.pp_tree.specs.declared.expr.Expr.{Expr}
use Rattle.pp_tree.specs.declared.expr.Form.{out-Form}
use Rattle.pp_tree.specs.declared.expr.Pair.{Pair}
use Rattle.pp_tree.specs.Building.{form_of, line_of}
use Rattle.pp_parser.specs.Input.{Parser}
use Rattle.pp_tree.specs.Layers.{FormLayer}

-- what a written key says
pub data Written : Type 0 where
  text : List ℕ → Written
  number : ℤ → Written

abbrev pub written_by : FormLayer → Option Written
written_by (Form-F.Text said) = Some (text said)
written_by (Form-F.Name name) = Some (text name)
written_by (Form-F.Number n) = Some (number n)
written_by _ = None

unfoldable pub written : Expr → Option Written
written key = written_by (out-Form (form_of key))

-- two keys are the same where both are written and say exactly the same
unfoldable pub same_written : Option Written → Option Written → Bool
same_written (Some (text a)) (Some (text b)) = bytes_eq a b
same_written (Some (number a)) (Some (number b)) = int_eq a b
same_written _ _ = false

-- whether the key is that of a pair
unfoldable pub is_key : Expr → List (Pair Expr) → Bool
is_key key [] = false
is_key key (p ∷ ps) = same_written (written p.key) (written key) || is_key key ps

-- the line of the first key that is an earlier pair's key too
unfoldable pub doubled_from : List (Pair Expr) → List (Pair Expr) → Option ℕ
doubled_from earlier [] = None
doubled_from earlier (p ∷ ps) = if is_key p.key earlier then Some (line_of p.key)
    else doubled_from (earlier ++ p ∷ []) ps

unfoldable pub doubled_key : List (Pair Expr) → Option ℕ
doubled_key pairs = doubled_from [] pairs

-- the earlier of two places, where there are two
unfoldable pub earlier_line : Option ℕ → Option ℕ → Option ℕ
earlier_line None b = b
earlier_line (Some a) None = Some a
earlier_line (Some a) (Some b) = Some (min a b)

-- a literal of these pairs was read
unfoldable pub noting : List (Pair Expr) → Parser (Unit {0})
noting pairs = λ i. Ok (tt, record { left = i.left; doubled = earlier_line i.doubled (doubled_key pairs) })
