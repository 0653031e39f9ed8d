-- The operators and how they bind, and the arrows of a chain.
use Rattle.std.specs.Prelude.{ℕ, if◌then◌else◌, ◌==◌, Option, Some, None}
use Rattle.pp_lexer.specs.declared.kind.Kind.{Kind}
use Rattle.pp_lexer.specs.declared.kind.Kind.TheVariants as k
use Rattle.pp_tree.specs.declared.operators.BinaryOperator.{BinaryOperator}
use Rattle.pp_tree.specs.declared.operators.BinaryOperator.TheVariants as binary
use Rattle.pp_tree.specs.declared.operators.PrefixOperator.{PrefixOperator}
use Rattle.pp_tree.specs.declared.operators.PrefixOperator.TheVariants as prefix
use Rattle.pp_tree.specs.declared.statement.Arrow.{Arrow}
use Rattle.pp_tree.specs.declared.statement.Arrow.TheVariants as arrow

-- From the tightest, 1, to the loosest, 9: `in`; `=~ !~`; `* / %`; `+ -`; `<<`; `== !=`; `>= <= > <`; `and`; `or`.
-- Other tokens are none.
abbrev pub strength : Option Kind → ℕ
strength (Some k.In) = 1
strength (Some k.Match) = 2
strength (Some k.NoMatch) = 2
strength (Some k.Star) = 3
strength (Some k.Slash) = 3
strength (Some k.Percent) = 3
strength (Some k.Plus) = 4
strength (Some k.Minus) = 4
strength (Some k.Append) = 5
strength (Some k.Equal) = 6
strength (Some k.NotEqual) = 6
strength (Some k.AtLeast) = 7
strength (Some k.AtMost) = 7
strength (Some k.Greater) = 7
strength (Some k.Less) = 7
strength (Some k.And) = 8
strength (Some k.Or) = 9
strength _ = 0

abbrev pub loosest : ℕ
loosest = 9

abbrev pub binary_operator : Option Kind → Option BinaryOperator
binary_operator (Some k.In) = Some binary.In
binary_operator (Some k.Match) = Some binary.Match
binary_operator (Some k.NoMatch) = Some binary.NoMatch
binary_operator (Some k.Star) = Some binary.Multiply
binary_operator (Some k.Slash) = Some binary.Divide
binary_operator (Some k.Percent) = Some binary.Modulo
binary_operator (Some k.Plus) = Some binary.Add
binary_operator (Some k.Minus) = Some binary.Subtract
binary_operator (Some k.Append) = Some binary.Append
binary_operator (Some k.Equal) = Some binary.Equal
binary_operator (Some k.NotEqual) = Some binary.NotEqual
binary_operator (Some k.AtLeast) = Some binary.AtLeast
binary_operator (Some k.AtMost) = Some binary.AtMost
binary_operator (Some k.Greater) = Some binary.Greater
binary_operator (Some k.Less) = Some binary.Less
binary_operator (Some k.And) = Some binary.And
binary_operator (Some k.Or) = Some binary.Or
binary_operator _ = None

-- the operator, where it has this strength
unfoldable pub operator_at : ℕ → Option Kind → Option BinaryOperator
operator_at n next = if strength next == n then binary_operator next else None

abbrev pub prefix_at : Option Kind → Option PrefixOperator
prefix_at (Some k.Bang) = Some prefix.Not
prefix_at (Some k.Minus) = Some prefix.Negate
prefix_at (Some k.Star) = Some prefix.Splat
prefix_at _ = None

-- `->`, `~>`, `<-` and `<~`
abbrev pub arrow_at : Option Kind → Option Arrow
arrow_at (Some k.InEdge) = Some arrow.InEdge
arrow_at (Some k.InEdgeSub) = Some arrow.InEdgeSub
arrow_at (Some k.OutEdge) = Some arrow.OutEdge
arrow_at (Some k.OutEdgeSub) = Some arrow.OutEdgeSub
arrow_at _ = None
