-- What follows a value that is there.
use Rattle.std.proofs.Common.{◌≡◌, ℕ, List, ◌∷◌, Ok, refl, ◌∙◌}
use Rattle.pp_tree.specs.declared.expr.Expr.{Expr}
use Rattle.pp_tree.specs.declared.expr.Postfix.{Postfix}
use Rattle.pp_values.specs.Datum.{Datum}
use Rattle.eval_world.specs.Inner.{Inner}
use Rattle.eval_world.specs.declared.here.Here.{Here}
use Rattle.eval_world.specs.declared.world.World.{World}
use Rattle.class_eval.specs.Postfixes.{postfix_rule, postfixed_rule, postfixes_from}

module _ (inner : Inner) (line : ℕ) (here : Here) (w : World) where
  pub starts : (first : Expr) (ps : List Postfix) (d : Datum) → inner.value first here w ≡ Ok (d, w)
      → postfixed_rule inner first ps line here w ≡ postfixes_from inner d ps line here w
  unfolding postfixed_rule
  starts first ps d said = rw said refl

  one_on : (d e : Datum) (p : Postfix) (ps : List Postfix) → postfix_rule inner d p line here w ≡ Ok (e, w)
      → postfixes_from inner d (p ∷ ps) line here w ≡ postfixes_from inner e ps line here w
  unfolding postfixes_from
  one_on d e p ps said = rw said refl

  -- one more is taken on the way
  pub goes_on : (first : Expr) (all ps : List Postfix) (d e : Datum) (p : Postfix)
      → postfixed_rule inner first all line here w ≡ postfixes_from inner d (p ∷ ps) line here w
      → postfix_rule inner d p line here w ≡ Ok (e, w)
      → postfixed_rule inner first all line here w ≡ postfixes_from inner e ps line here w
  goes_on first all ps d e p before said = before ∙ one_on d e p ps said
