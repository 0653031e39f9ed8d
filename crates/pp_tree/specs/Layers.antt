-- One level of a tree: what a definition by cases on a form, a statement, an operand or a test goes by. `out-Form` and
-- its like open it, and the cases are the constructors of `Form-F` and its like. What stands within it is of the types
-- of the tree again.
use Rattle.pp_tree.specs.declared.collector.Collector.{Collector}
use Rattle.pp_tree.specs.declared.collector.Conjunction.{Conjunction}
use Rattle.pp_tree.specs.declared.collector.Query.{Query}
use Rattle.pp_tree.specs.declared.collector.Test.{Test}
pub use Rattle.pp_tree.specs.declared.collector.Test.{out-Test}
pub use Rattle.pp_tree.specs.declared.collector.Test.TheOpen.{Form-F, Operand-F, Statement-F, Test-F}
use Rattle.pp_tree.specs.declared.conditions.Case.{Case}
use Rattle.pp_tree.specs.declared.conditions.CaseOption.{CaseOption}
use Rattle.pp_tree.specs.declared.conditions.Elsif.{Elsif}
use Rattle.pp_tree.specs.declared.conditions.If.{If}
use Rattle.pp_tree.specs.declared.conditions.Unless.{Unless}
use Rattle.pp_tree.specs.declared.expr.Call.{Call}
use Rattle.pp_tree.specs.declared.expr.Expr.{Expr}
use Rattle.pp_tree.specs.declared.expr.Form.{Form}
pub use Rattle.pp_tree.specs.declared.expr.Form.{out-Form}
use Rattle.pp_tree.specs.declared.expr.Lambda.{Lambda}
use Rattle.pp_tree.specs.declared.expr.Postfix.{Postfix}
use Rattle.pp_tree.specs.declared.statement.Operand.{Operand}
pub use Rattle.pp_tree.specs.declared.statement.Operand.{out-Operand}
use Rattle.pp_tree.specs.declared.statement.Statement.{Statement}
pub use Rattle.pp_tree.specs.declared.statement.Statement.{out-Statement}

abbrev pub FormLayer : Type 0
FormLayer =
    Form-F Test Form Postfix Operand Statement Collector Conjunction Query Case CaseOption Elsif If Unless Call Expr
    Lambda

abbrev pub StatementLayer : Type 0
StatementLayer =
    Statement-F Test Form Postfix Operand Statement Collector Conjunction Query Case CaseOption Elsif If Unless Call
    Expr Lambda

abbrev pub OperandLayer : Type 0
OperandLayer =
    Operand-F Test Form Postfix Operand Statement Collector Conjunction Query Case CaseOption Elsif If Unless Call Expr
    Lambda

abbrev pub TestLayer : Type 0
TestLayer =
    Test-F Test Form Postfix Operand Statement Collector Conjunction Query Case CaseOption Elsif If Unless Call Expr
    Lambda
