-- What has no parts, where a level is left.
use denote.Ref.{Bor}
use Rattle.std.proofs.Common.{◌≡◌, ℕ, zero, suc, ℤ, List, Option, None, Some, option_map, Ok, refl, ap, sym}
use Rattle.std.specs.Prelude.{IfSome}
use Rattle.pp_tree.specs.Building.{form_of, line_of}
use Rattle.pp_tree.specs.declared.expr.Form.{out-Form}
use Rattle.pp_tree.specs.declared.expr.Form.TheVariants as form
use Rattle.pp_tree.specs.declared.expr.Expr.{Expr}
use Rattle.pp_values.specs.Datum as d
use Rattle.pp_values.specs.Views.{view}
use Rattle.pp_values.specs.declared.value.Value.{Value}
use Rattle.scope_core.specs.Scopes as scopes
use Rattle.eval_world.specs.Inner.{Inner}
use Rattle.eval_world.specs.Leaves.{Leaves, leaf_by}
use Rattle.eval_world.specs.Outcomes.{Step, pure}
use Rattle.eval_world.specs.Worlds.{read}
use Rattle.eval_world.specs.declared.here.Here.{Here}
use Rattle.eval_world.specs.declared.world.World.{World}

module _ (within : ℕ → Inner) (leaves : (left : ℕ) → Leaves (within (suc left))) where
  said_by : (left : ℕ) (e : Expr) (here : Here) (said : Step d.Datum) → ¬ (left ≡ 0)
      → leaf_by (out-Form (form_of e)) (line_of e) here ≡ Some said → (within left).value e here ≡ said
  said_by zero e here said some is = absurd (some refl)
  said_by (suc n) e here said some is = leaves n e here said is

  pub number_said : (left : ℕ) (e : Expr) (here : Here) (w : World) (z : ℤ) → ¬ (left ≡ 0)
      → form_of e ≡ form.Number z → (within left).value e here w ≡ Ok (d.int z, w)
  unfolding out-Form denote.Hole.Carrier.out
  number_said left e here w z some is =
      ap (λ p. p w) (said_by left e here (pure (d.int z)) some (ap (λ f. leaf_by (out-Form f) (line_of e) here) is))

  pub text_said : (left : ℕ) (e : Expr) (here : Here) (w : World) (t : List ℕ) → ¬ (left ≡ 0)
      → form_of e ≡ form.Text t → (within left).value e here w ≡ Ok (d.text t, w)
  unfolding out-Form denote.Hole.Carrier.out
  text_said left e here w t some is =
      ap (λ p. p w) (said_by left e here (pure (d.text t)) some (ap (λ f. leaf_by (out-Form f) (line_of e) here) is))

  pub name_said : (left : ℕ) (e : Expr) (here : Here) (w : World) (t : List ℕ) → ¬ (left ≡ 0)
      → form_of e ≡ form.Name t → (within left).value e here w ≡ Ok (d.text t, w)
  unfolding out-Form denote.Hole.Carrier.out
  name_said left e here w t some is =
      ap (λ p. p w) (said_by left e here (pure (d.text t)) some (ap (λ f. leaf_by (out-Form f) (line_of e) here) is))

  pub variable_said : (left : ℕ) (e : Expr) (here : Here) (w : World) (x : List ℕ) → ¬ (left ≡ 0)
      → form_of e ≡ form.Variable x → (within left).value e here w ≡ read here x (line_of e) w
  unfolding out-Form denote.Hole.Carrier.out
  variable_said left e here w x some is =
      ap (λ p. p w) (said_by left e here (read here x (line_of e)) some (ap (λ f. leaf_by (out-Form f) (line_of e) here) is))

  -- a variable that has a value is that value
  pub known_said : (left : ℕ) (e : Expr) (here : Here) (w : World) (x : List ℕ) (r : Option (Bor Value))
      → ¬ (left ≡ 0) → form_of e ≡ form.Variable x
      → option_map (λ v. view v.now) r ≡ scopes.found here.scope.number x w.scopes
      → IfSome r (λ v. (within left).value e here w ≡ Ok (view v.now, w))
  unfolding read scopes.read
  known_said left e here w x None some is found = tt
  known_said left e here w x (Some v) some is found =
      let said = variable_said left e here w x some is in rw (said, sym found) refl
