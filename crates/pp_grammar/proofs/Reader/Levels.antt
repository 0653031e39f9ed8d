-- How rules stand within one another. A token that opens a level is refused where as many are open as may be. The limit of
-- levels holds up to a place, which is told by how many tokens are left there; from there on, more levels may be opened.
use Rattle.std.specs.Prelude.{ℕ, zero, suc, Bool, true, false, ltb, length}
use Rattle.pp_parser.specs.declared.inset.Inset.{Inset}
use Rattle.pp_parser.specs.declared.inset.Inset.TheVariants as goal
use Rattle.pp_parser.specs.declared.inset.InsetTree.{InsetTree}
use Rattle.pp_parser.specs.declared.inset.InsetTree.TheVariants as part
use Rattle.pp_grammar.proofs.Reader.Input.{Input, Parser, ◌<$>◌, refuse}
use Rattle.pp_grammar.specs.Keys.{doubled_key}
use Rattle.pp_grammar.proofs.Reader.Inner.{Inner}
use Rattle.pp_grammar.proofs.Reader.Expressions.{whole, operand, interpolated, param_rule, case_option}
use Rattle.pp_grammar.proofs.Reader.Statements.{statements, query}
use Rattle.pp_grammar.proofs.Reader.FunctionBodies.{function_statements}

-- what a goal reads, by the readers that stand further in
unfoldable pub part_by : Inner → Inset → Parser InsetTree
part_by inner (goal.Whole bars) = part.Expr <$> whole inner bars bars
part_by inner (goal.Operand bars) = part.Expr <$> operand inner bars
part_by inner goal.Interpolated = part.Expr <$> interpolated inner
part_by inner (goal.Param bars) = part.Param <$> param_rule inner bars
part_by inner goal.Statements = part.Block <$> statements inner
part_by inner goal.FunctionStatements = part.Block <$> function_statements inner
part_by inner goal.CaseOption = part.CaseOption <$> case_option inner
part_by inner goal.Query = part.Query <$> query inner

-- Where so many levels may be opened up to the place, and so many further ones from there on: whether a token may open none,
unfoldable pub deepest_to : (behind levels more : ℕ) → Input → Bool
deepest_to behind zero zero = λ _. true
deepest_to behind zero (suc more) = λ i. ltb behind (length i.left)
deepest_to behind (suc levels) more = λ _. false

-- and what is read one level further in
unfoldable pub read_to : (behind levels more : ℕ) → Inset → Parser InsetTree
read_to behind zero zero = λ _. refuse
read_to behind zero (suc more) = part_by (record { is_deepest = deepest_to behind zero more; read = read_to behind zero more; doubled_key = doubled_key })
read_to behind (suc levels) more = part_by (record { is_deepest = deepest_to behind levels more; read = read_to behind levels more; doubled_key = doubled_key })

abbrev pub within_to : (behind levels more : ℕ) → Inner
within_to behind levels more = record { is_deepest = deepest_to behind levels more; read = read_to behind levels more; doubled_key = doubled_key }

-- the same where so many may be opened everywhere
abbrev pub within : ℕ → Inner
within n = within_to 0 n 0
