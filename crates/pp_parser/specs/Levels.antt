-- How rules stand within one another. A token that opens a level is refused where 200 are open.
use Rattle.std.specs.Prelude.{ℕ, zero, suc, true, false}
use Rattle.pp_parser.specs.declared.inset.Inset.{Inset}
use Rattle.pp_parser.specs.declared.inset.Inset.TheVariants as goal
use Rattle.pp_parser.specs.declared.inset.InsetTree.{InsetTree}
use Rattle.pp_parser.specs.declared.inset.InsetTree.TheVariants as part
use Rattle.pp_parser.specs.Input.{Parser, ◌<$>◌, refuse}
use Rattle.pp_parser.specs.Inner.{Inner}
use Rattle.pp_parser.specs.Expressions.{whole, operand, interpolated, param_rule, case_option}
use Rattle.pp_parser.specs.FunctionBodies.{function_statements}
use Rattle.pp_parser.specs.Statements.{statements, query}

abbrev pub max_levels : ℕ
max_levels = 200

-- what a goal reads, by the readers that stand further in
unfoldable pub part_by : Inner → Inset → Parser InsetTree
part_by inner (goal.Whole bars) = part.Expr <$> whole inner bars bars
part_by inner (goal.Operand bars) = part.Expr <$> operand inner bars
part_by inner goal.Interpolated = part.Expr <$> interpolated inner
part_by inner (goal.Param bars) = part.Param <$> param_rule inner bars
part_by inner goal.Statements = part.Block <$> statements inner
part_by inner goal.FunctionStatements = part.Block <$> function_statements inner
part_by inner goal.CaseOption = part.CaseOption <$> case_option inner
part_by inner goal.Query = part.Query <$> query inner

-- the readers one level further in, where this many levels may be opened
unfoldable pub within : ℕ → Inner
within zero = record { is_deepest = true; read = λ _. refuse }
within (suc n) = record { is_deepest = false; read = part_by (within n) }
