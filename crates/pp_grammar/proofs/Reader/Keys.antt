-- What is noted of a hash literal.
use Rattle.std.specs.Prelude.{ℕ, List, Option, Ok}
use Rattle.pp_tree.specs.declared.expr.Expr.{Expr}
use Rattle.pp_tree.specs.declared.expr.Pair.{Pair}
use Rattle.pp_grammar.specs.Keys.{earlier_line}
use Rattle.pp_grammar.proofs.Reader.Input.{Parser}

-- A literal of these pairs was read. What finds the key that stands twice is handed in.
unfoldable pub noting : (List (Pair Expr) → Option ℕ) → List (Pair Expr) → Parser (Unit {0})
noting doubled_key pairs = λ i. Ok (tt, record { left = i.left; doubled = earlier_line i.doubled (doubled_key pairs) })
