-- An integer among the options of `case`.
use Rattle.std.proofs.Common.{◌≡◌, ℤ, Ok, refl}
use Rattle.expr_eval.specs.Testing.{option_takes}
use Rattle.pp_tree.specs.Building.{form_of}
use Rattle.pp_tree.specs.declared.collector.Test.TheOpen.{Form-F}
use Rattle.pp_tree.specs.declared.expr.Form.{out-Form}
use Rattle.pp_tree.specs.declared.expr.Expr.{Expr}
use Rattle.pp_values.specs.Datum.{Datum, int}
use Rattle.eval_world.specs.Inner.{Inner}
use Rattle.eval_world.specs.declared.here.Here.{Here}
use Rattle.eval_world.specs.declared.world.World.{World}
use Rattle.eval_forms.specs.Conditions.{takes_rule}

-- it takes the control value by what it says
pub number_takes : (inner : Inner) (control : Datum) (e : Expr) (here : Here) (w : World) (z : ℤ)
    → out-Form (form_of e) ≡ Form-F.Number z → inner.value e here w ≡ Ok (int z, w)
    → takes_rule inner control e here w ≡ Ok (option_takes (int z) control, w)
unfolding takes_rule
number_takes inner control e here w z is said = rw (is, said) refl
