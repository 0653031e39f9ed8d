-- Parameters without arguments.
use Rattle.std.proofs.Common.{◌≡◌, ℕ, List, [], ◌∷◌, Ok, refl}
use Rattle.pp_tree.specs.declared.expr.Expr.{Expr}
use Rattle.pp_tree.specs.declared.param.Param.{Param}
use Rattle.eval_calls.specs.Lambdas.{bind_from}
use Rattle.eval_world.specs.Inner.{Inner}
use Rattle.eval_world.specs.declared.here.Here.{Here}
use Rattle.eval_world.specs.declared.world.World.{World}

-- nothing is set
pub no_arguments : (inner : Inner) (ps : List (Param Expr)) (line : ℕ) (own : Here) (w : World)
    → bind_from inner ps [] line own w ≡ Ok (tt, w)
unfolding bind_from
no_arguments inner [] line own w = refl
no_arguments inner (p ∷ ps) line own w = refl
