-- The last operation of a chain, and the only one.
use Rattle.std.proofs.Common.{◌≡◌, ℕ, List, [], ◌∷◌, Some, Result, Ok, Err, refl}
use Rattle.pp_ops.specs.declared.op.Op.{Op}
use Rattle.pp_tree.specs.declared.expr.Expr.{Expr}
use Rattle.pp_tree.specs.declared.expr.Operation.{Operation}
use Rattle.pp_values.specs.Datum.{Datum}
use Rattle.pp_values.specs.declared.fault.Stop.{Stop}
use Rattle.eval_forms.specs.Answering.{combined}
use Rattle.eval_forms.specs.Operators.{binary_rule, both_rule, kind_of, operation_rule, operations_from}
use Rattle.eval_forms.specs.declared.operator_kind.OperatorKind.TheVariants as kind
use Rattle.eval_world.specs.Inner.{Inner}
use Rattle.eval_world.specs.Outcomes.{Gives, Outcome, go_on, same}
use Rattle.eval_world.specs.Shapes.{only}
use Rattle.eval_world.specs.declared.here.Here.{Here}
use Rattle.eval_world.specs.declared.world.World.{World}

nothing_more : (p : Outcome Datum) → go_on p (λ d w. Ok (d, w)) ≡ p
nothing_more (Ok p) = refl
nothing_more (Err f) = refl

module _ (inner : Inner) (line : ℕ) (here : Here) (w : World) where
  alone : (d : Datum) (o : Operation Expr)
      → operations_from inner d (o ∷ []) line here w ≡ operation_rule inner d o line here w
  unfolding operations_from
  alone d o = nothing_more (operation_rule inner d o line here w)

  -- the last operation gives the value of the chain
  pub last_operation : (d : Datum) (o : Operation Expr) (os : List (Operation Expr)) (r : Result Datum Stop)
      (new : World) → os ≡ [] → Gives same (operation_rule inner d o line here w) r new
      → Gives same (operations_from inner d (o ∷ os) line here w) r new
  last_operation d o os r new is gives = rw is (rw (alone d o) gives)

  only_is : (o : Operation Expr) (os : List (Operation Expr)) → Some o ≡ only os → os ≡ o ∷ []
  only_is o [] is = cc
  only_is o (p ∷ []) is = cc
  only_is o (p ∷ q ∷ os) is = cc

  -- one operator between two operands that have their values
  pub over_known : (first : Expr) (os : List (Operation Expr)) (o : Operation Expr) (p : Op) (a b : Datum)
      (r : Result Datum Stop) → Some o ≡ only os → kind_of o.operator ≡ kind.Combine p
      → inner.value first here w ≡ Ok (a, w) → inner.value o.right here w ≡ Ok (b, w)
      → Gives same (combined p a b line here w) r w → Gives same (binary_rule inner first os line here w) r w
  unfolding binary_rule operation_rule both_rule
  over_known first os o p a b r one is left right gives =
      rw (only_is o os one, left) (rw (alone a o) (rw is (rw right gives)))
