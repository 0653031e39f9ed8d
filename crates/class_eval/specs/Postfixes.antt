-- A value and what follows it: `$a[1].f(2)`, and selectors.
use Rattle.std.specs.Prelude.{ℕ, List, [], ◌∷◌}
use Rattle.pp_tree.specs.declared.collector.Collector.{Collector}
use Rattle.pp_tree.specs.declared.collector.Conjunction.{Conjunction}
use Rattle.pp_tree.specs.declared.collector.Query.{Query}
use Rattle.pp_tree.specs.declared.collector.Test.{Test}
use Rattle.pp_tree.specs.declared.collector.Test.TheOpen.{Postfix-F}
use Rattle.pp_tree.specs.declared.conditions.Case.{Case}
use Rattle.pp_tree.specs.declared.conditions.CaseOption.{CaseOption}
use Rattle.pp_tree.specs.declared.conditions.Elsif.{Elsif}
use Rattle.pp_tree.specs.declared.conditions.If.{If}
use Rattle.pp_tree.specs.declared.conditions.Unless.{Unless}
use Rattle.pp_tree.specs.declared.expr.Call.{Call}
use Rattle.pp_tree.specs.declared.expr.Expr.{Expr}
use Rattle.pp_tree.specs.declared.expr.Form.{Form}
use Rattle.pp_tree.specs.declared.expr.Lambda.{Lambda}
use Rattle.pp_tree.specs.declared.expr.Postfix.{Postfix, out-Postfix}
use Rattle.pp_tree.specs.declared.statement.Operand.{Operand}
use Rattle.pp_tree.specs.declared.statement.Statement.{Statement}
use Rattle.pp_values.specs.Datum.{Datum}
use Rattle.eval_calls.specs.Calls.{method_rule}
use Rattle.eval_forms.specs.Accesses.{accessed_rule}
use Rattle.eval_forms.specs.Selectors.{selected_rule}
use Rattle.eval_world.specs.Inner.{Inner}
use Rattle.eval_world.specs.Outcomes.{Step, ◌>>=◌, pure}
use Rattle.eval_world.specs.declared.here.Here.{Here}

-- one level of a postfix, as `out-Postfix` opens it
abbrev pub PostfixLayer : Type 0
PostfixLayer =
    Postfix-F Test Form Postfix Operand Statement Collector Conjunction Query Case CaseOption Elsif If Unless Call Expr
    Lambda

abbrev pub postfix_by : Inner → Datum → PostfixLayer → ℕ → Here → Step Datum
postfix_by inner v (Postfix-F.Access args) line here = accessed_rule inner v args line here
postfix_by inner v (Postfix-F.Method c) line here = method_rule inner v c line here
postfix_by inner v (Postfix-F.Select options) line here = selected_rule inner v options line here

unfoldable pub postfix_rule : Inner → Datum → Postfix → ℕ → Here → Step Datum
postfix_rule inner v p line here = postfix_by inner v (out-Postfix p) line here

-- from left to right, each on the value of what stands before it
unfoldable pub postfixes_from : Inner → Datum → List Postfix → ℕ → Here → Step Datum
postfixes_from inner v [] line here = pure v
postfixes_from inner v (p ∷ ps) line here = do
  more ← postfix_rule inner v p line here
  postfixes_from inner more ps line here

-- all of it is one expression, and what stands first is one level deeper
unfoldable pub postfixed_rule : Inner → Expr → List Postfix → ℕ → Here → Step Datum
postfixed_rule inner first ps line here = do
  v ← inner.value first here
  postfixes_from inner v ps line here
