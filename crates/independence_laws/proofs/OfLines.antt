-- Lines of attributes.
use Rattle.std.proofs.Common.{ℕ, List, [], ◌∷◌}
use Rattle.pp_tree.specs.declared.expr.Expr.{Expr}
use Rattle.pp_tree.specs.declared.resource.Attribute.{Attribute}
use Rattle.pp_tree.specs.declared.resource.Attribute.TheVariants as attribute
use Rattle.pp_tree.specs.declared.resource.Setting.{Setting}
use Rattle.pp_tree.specs.declared.resource.Splat.{Splat}
use Rattle.pp_values.specs.Datum as datum
use Rattle.pp_values.specs.Datum.{Datum}
use Rattle.res_core.specs.Lines.{Line}
use Rattle.std.proofs.Common.{◌++◌}
use Rattle.eval_world.specs.Inner.{Inner}
use Rattle.eval_world.specs.declared.here.Here.{Here}
use Rattle.attribute_lines.specs.Reading.{setting_rule, splat_by, splat_rule, attribute_rule, lines_from}
use Rattle.pp_values.specs.Datum.{pairs_of}
use Rattle.pp_values.specs.declared.place.Place.{Place}
use Rattle.attribute_lines.specs.Reading.{line, splatted}
use Rattle.eval_world.specs.Outcomes.{pure}
use Rattle.eval_world.specs.Worlds.{place_at}
use Rattle.independence_laws.specs.Steps.{Comes, Equal, Same, SameInner, Two}
use Rattle.independence_laws.proofs.Going.{and_then, place_same, pure_same, told}
use Rattle.independence_laws.proofs.OfWorld.{fault_here}

module _ (two : Two) where
  pub placed_same : {A : Type 0} (said : Place → A) (line : ℕ) → Same two (λ here w. pure (said (place_at w here line)) w)
  placed_same said line = told two (λ here w. place_at w here line) (λ here at. pure (said at))
      (λ first second v w alike f g. place_same two first second v w alike f g line) (λ at. pure_same two)

  splat_by_same : (done : List Line) (value : Datum) (at : ℕ) → Same two (λ here. splat_by done value at here)
  splat_by_same done (datum.hash es) at = placed_same (λ place. splatted done (pairs_of es) place) at
  splat_by_same done datum.undef at = fault_here two at _
  splat_by_same done (datum.flag b) at = fault_here two at _
  splat_by_same done (datum.int z) at = fault_here two at _
  splat_by_same done (datum.text t) at = fault_here two at _
  splat_by_same done (datum.list ds) at = fault_here two at _
  splat_by_same done (datum.reference r) at = fault_here two at _
  splat_by_same done (datum.kind s) at = fault_here two at _
  splat_by_same done datum.default at = fault_here two at _

module _ (inner : Inner) (same : SameInner inner) (two : Two) where
  setting_same : (done : List Line) (s : Setting Expr) → Same two (λ here. setting_rule inner done s here)
  unfolding setting_rule
  setting_same done s = and_then two (same.value s.value two) (λ value.
      placed_same two (λ place. done ++ line s.name s.append value place ∷ []) s.at)

  splat_same : (done : List Line) (s : Splat Expr) → Same two (λ here. splat_rule inner done s here)
  unfolding splat_rule
  splat_same done s = and_then two (same.value s.value two) (λ value. splat_by_same two done value s.at)

  attribute_same : (done : List Line) (a : Attribute Expr) → Same two (λ here. attribute_rule inner done a here)
  unfolding attribute_rule
  attribute_same done (attribute.Set s) = setting_same done s
  attribute_same done (attribute.Splat s) = splat_same done s

  pub lines_same : (done : List Line) (attributes : List (Attribute Expr)) →
      Same two (λ here. lines_from inner done attributes here)
  unfolding lines_from
  lines_same done [] = pure_same two
  lines_same done (a ∷ more) = and_then two (attribute_same done a) (λ next. lines_same next more)
