-- Access to a value.
use Rattle.std.specs.Prelude.{ℕ, List, []}
use Rattle.pp_ops.specs.declared.op.Op.TheVariants as op
use Rattle.pp_tree.specs.declared.expr.Expr.{Expr}
use Rattle.pp_values.specs.Datum.{Datum, list, data_of}
use Rattle.eval_world.specs.Arguments.{values_from}
use Rattle.eval_world.specs.Inner.{Inner}
use Rattle.eval_world.specs.Outcomes.{Step, ◌>>=◌}
use Rattle.eval_world.specs.declared.here.Here.{Here}
use Rattle.eval_forms.specs.Answering.{combined}

-- `[1]` behind a value: the arguments first, among which `*` splices
unfoldable pub accessed_rule : Inner → Datum → List Expr → ℕ → Here → Step Datum
accessed_rule inner left es line here = do
  ds ← values_from inner [] es here
  combined op.Access left (list (data_of ds)) line here
