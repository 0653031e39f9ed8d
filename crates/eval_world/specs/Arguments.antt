-- The values of arguments, and of the members of a list.
use Rattle.std.specs.Prelude.{Bool, true, false, List, [], ◌∷◌, ◌++◌}
use Rattle.pp_tree.specs.declared.expr.Expr.{Expr}
use Rattle.pp_values.specs.Datum.{Datum}
use Rattle.expr_eval.specs.Spreading.{spliced}
use Rattle.eval_world.specs.Inner.{Inner}
use Rattle.eval_world.specs.Outcomes.{Step, ◌>>=◌, pure}
use Rattle.eval_world.specs.Shapes.{is_splat}
use Rattle.eval_world.specs.declared.here.Here.{Here}

-- what one argument adds: its value, or with `*` the members of its value
abbrev pub given : Bool → Datum → List Datum
given true d = spliced d
given false d = d ∷ []

unfoldable pub argument_rule : Inner → List Datum → Expr → Here → Step (List Datum)
argument_rule inner done e here = do
  d ← inner.value e here
  pure (done ++ given (is_splat e) d)

-- the values of these in order, behind those that are there
unfoldable pub values_from : Inner → List Datum → List Expr → Here → Step (List Datum)
values_from inner done [] here = pure done
values_from inner done (e ∷ es) here = do
  more ← argument_rule inner done e here
  values_from inner more es here
