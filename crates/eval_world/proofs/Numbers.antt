-- An integer among arguments.
use Rattle.std.proofs.Common.{◌≡◌, ℤ, List, [], ◌∷◌, ◌++◌, Ok, refl}
use Rattle.pp_tree.specs.Building.{form_of}
use Rattle.pp_tree.specs.declared.collector.Test.TheOpen.{Form-F}
use Rattle.pp_tree.specs.declared.expr.Expr.{Expr}
use Rattle.pp_tree.specs.declared.expr.Form.{out-Form}
use Rattle.pp_values.specs.Datum.{Datum, int}
use Rattle.eval_world.specs.Arguments.{argument_rule}
use Rattle.eval_world.specs.Inner.{Inner}
use Rattle.eval_world.specs.declared.here.Here.{Here}
use Rattle.eval_world.specs.declared.world.World.{World}

-- it is its own value, and is not spliced
pub number_argument : (inner : Inner) (done : List Datum) (e : Expr) (here : Here) (w : World) (z : ℤ)
    → out-Form (form_of e) ≡ Form-F.Number z → inner.value e here w ≡ Ok (int z, w)
    → argument_rule inner done e here w ≡ Ok (done ++ int z ∷ [], w)
unfolding argument_rule
number_argument inner done e here w z is said = rw (is, said) refl
