-- A function of its arguments alone whose one argument has its value.
use Rattle.std.proofs.Common.{◌≡◌, ℕ, true, false, List, [], ◌∷◌, None, Some, Result, Ok, sym}
use Rattle.pp_funcs.specs.Functions.{applied}
use Rattle.pp_funcs.specs.Names.{needs_evaluator}
use Rattle.pp_tree.specs.declared.expr.Expr.{Expr}
use Rattle.pp_values.specs.Datum.{Datum}
use Rattle.pp_values.specs.declared.fault.Stop.{Stop}
use Rattle.eval_world.specs.Arguments.{argument_rule, values_from}
use Rattle.eval_world.specs.Inner.{Inner}
use Rattle.eval_world.specs.Outcomes.{Gives, same}
use Rattle.eval_world.specs.Shapes.{is_splat, only}
use Rattle.eval_world.specs.Worlds.{answered_at}
use Rattle.eval_world.specs.declared.here.Here.{Here}
use Rattle.eval_world.specs.declared.world.World.{World}
use Rattle.eval_calls.specs.Calls.{invoked, other_rule, plain_rule}
use Rattle.eval_calls.specs.Names.{is_computed}

only_is : (e : Expr) (args : List Expr) → Some e ≡ only args → args ≡ e ∷ []
only_is e [] is = cc
only_is e (a ∷ []) is = cc
only_is e (a ∷ b ∷ args) is = cc

pub of_known : (inner : Inner) (line : ℕ) (here : Here) (w : World) (f : List ℕ) (args : List Expr) (e : Expr)
    (a : Datum) (ds : List Datum) (r : Result Datum Stop) → Some e ≡ only args → is_splat e ≡ false
    → inner.value e here w ≡ Ok (a, w) → needs_evaluator f ≡ false → is_computed f ≡ true → ds ≡ a ∷ []
    → Gives same (answered_at (applied f ds) line here w) r w → Gives same (invoked inner f args None line here w) r w
unfolding invoked values_from argument_rule plain_rule other_rule
of_known inner line here w f args e a ds r one plain known needs_none computed alone gives =
    rw (only_is e args one, known, plain, needs_none, computed) (rw (sym alone) gives)
