-- Lines of attributes.
use Rattle.std.proofs.Common.{ℕ, List, [], ◌∷◌}
use Rattle.pp_tree.specs.declared.expr.Expr.{Expr}
use Rattle.pp_tree.specs.declared.resource.Attribute.{Attribute}
use Rattle.pp_tree.specs.declared.resource.Attribute.TheVariants as attribute
use Rattle.pp_tree.specs.declared.resource.Setting.{Setting}
use Rattle.pp_tree.specs.declared.resource.Splat.{Splat}
use Rattle.pp_values.specs.Datum as datum
use Rattle.pp_values.specs.Datum.{Datum}
use Rattle.res_core.specs.Lines.{Line}
use Rattle.eval_world.specs.Inner.{Inner}
use Rattle.eval_world.specs.declared.here.Here.{Here}
use Rattle.attribute_lines.specs.Reading.{setting_rule, splat_by, splat_rule, attribute_rule, lines_from}
use Rattle.world_laws.specs.Growing.{Grows, GrowsInner}
use Rattle.world_laws.proofs.Steps.{and_then, pure_grows}
use Rattle.world_laws.proofs.Worlds.{same_world}

splat_by_grows : (done : List Line) (value : Datum) (at : ℕ) (here : Here) → Grows (splat_by done value at here)
splat_by_grows done (datum.hash es) at here = record { reaches = same_world }
splat_by_grows done _ at here = record { reaches = λ w. tt }

module _ (inner : Inner) (g : GrowsInner inner) where
  setting_grows : (done : List Line) (s : Setting Expr) (here : Here) → Grows (setting_rule inner done s here)
  unfolding setting_rule
  setting_grows done s here = and_then (g.value s.value here) (λ value. record { reaches = same_world })

  splat_grows : (done : List Line) (s : Splat Expr) (here : Here) → Grows (splat_rule inner done s here)
  unfolding splat_rule
  splat_grows done s here = and_then (g.value s.value here) (λ value. splat_by_grows done value s.at here)

  attribute_grows : (done : List Line) (a : Attribute Expr) (here : Here) → Grows (attribute_rule inner done a here)
  unfolding attribute_rule
  attribute_grows done (attribute.Set s) here = setting_grows done s here
  attribute_grows done (attribute.Splat s) here = splat_grows done s here

  pub lines_grow : (done : List Line) (attributes : List (Attribute Expr)) (here : Here) →
      Grows (lines_from inner done attributes here)
  unfolding lines_from
  lines_grow done [] here = pure_grows
  lines_grow done (a ∷ more) here = and_then (attribute_grows done a here) (λ next. lines_grow next more here)
