-- Overrides and default statements.
use Rattle.std.specs.Str.{bytes_eq}
use Rattle.pp_tree.specs.Names.{normal}
use Rattle.pp_tree.specs.declared.expr.Expr.{Expr}
use Rattle.pp_tree.specs.declared.resource.Attribute.{Attribute}
use Rattle.pp_tree.specs.declared.resource.Override.{Override}
use Rattle.pp_tree.specs.declared.resource.Reference as tree
use Rattle.pp_values.specs.Datum as datum
use Rattle.pp_values.specs.Datum.{Datum}
use Rattle.pp_values.specs.Kinds.{kind_of}
use Rattle.pp_values.specs.declared.fault.Fault.{Fault}
use Rattle.pp_values.specs.declared.place.Place.{Place}
use Rattle.pp_values.specs.declared.reference.Reference.{Reference}
use Rattle.res_core.specs.Lines.{Line}
use Rattle.pp_tree.specs.declared.resource.Defaults.{Defaults}
use Rattle.eval_world.specs.Inner.{Inner}
use Rattle.eval_world.specs.Owners.{owner_at}
use Rattle.eval_world.specs.declared.here.Here.{Here}
use Rattle.eval_world.specs.declared.world.World.{World}
use Rattle.eval_overrides.specs.DefaultStatements as defaults
use Rattle.eval_overrides.specs.DefaultStatements.{defaults_put, defaults_rule, kind_put}
use Rattle.eval_overrides.specs.OverrideStatements as overrides
use Rattle.eval_overrides.specs.OverrideStatements.{line_put, override_rule, put_on, target_rule}
use Rattle.eval_world.specs.Worlds.{with_overrides}
use Rattle.std.proofs.Common.{◌≡◌, ℕ, List, [], ◌∷◌, Option, None, Some, ap, ◌∙◌}
use Rattle.override_rules.specs.Meaning.{default_added, line_added}
use Rattle.eval_classes.specs.Above.{right_of}
use Rattle.eval_overrides.specs.OverrideStatements.{line_on}
use Rattle.eval_world.specs.declared.owner.Owner.{Owner}
use Rattle.independence_laws.specs.Steps.{Comes, Equal, Same, SameInner, Two}
use Rattle.independence_laws.proofs.Going.{and_then, owner_same, pure_same, told}
use Rattle.independence_laws.proofs.OfForms.{accessed_same, type_same}
use Rattle.independence_laws.proofs.OfLines.{lines_same}
use Rattle.independence_laws.proofs.OfWorld.{fault_here, overrides_set}

module _ (two : Two) where
  -- ---- one line

  line_same : (target : Reference) (l : Line) → Same two (λ here. line_put target l here)
  line_same target l = told two
      (λ here w. line_added w.book (line_on target l (right_of w.environment (owner_at here.owner w.owners))) w.overrides)
      (λ here r. with_overrides r)
      (λ first second v w alike f g.
      ap (λ b. line_added b (line_on target l (right_of v.environment (owner_at two.left.owner v.owners))) v.overrides)
      alike.book
      ∙ ap (λ m. line_added w.book (line_on target l (right_of m (owner_at two.left.owner v.owners))) v.overrides)
      alike.environment
      ∙ ap (λ o. line_added w.book (line_on target l (right_of w.environment o)) v.overrides)
      (owner_same two first second v w alike f g)
      ∙ ap (λ s. line_added w.book (line_on target l (right_of w.environment (owner_at two.right.owner w.owners))) s)
      alike.overrides)
      (overrides_set two)

  puts_same : (target : Reference) (ls : List Line) → Same two (λ here. overrides.lines_put target ls here)
  unfolding overrides.lines_put
  puts_same target [] = pure_same two
  puts_same target (l ∷ ls) = and_then two (line_same target l) (λ u. puts_same target ls)

  put_on_same : (target : Datum) (ls : List Line) (at : ℕ) → Same two (λ here. put_on target ls at here)
  put_on_same (datum.reference r) ls at = puts_same r ls
  put_on_same datum.undef ls at = fault_here two at _
  put_on_same (datum.flag b) ls at = fault_here two at _
  put_on_same (datum.int z) ls at = fault_here two at _
  put_on_same (datum.text t) ls at = fault_here two at _
  put_on_same (datum.list ds) ls at = fault_here two at _
  put_on_same (datum.hash es) ls at = fault_here two at _
  put_on_same (datum.kind s) ls at = fault_here two at _
  put_on_same datum.default ls at = fault_here two at _

  -- ---- one default

  default_same : (kind : List ℕ) (l : Line) → Same two (λ here. defaults.default_put kind l here)
  default_same kind l = told two
      (λ here w. default_added kind (owner_at here.owner w.owners).scope l.name l.value l.at w.overrides)
      (λ here r. with_overrides r)
      (λ first second v w alike f g.
      ap (λ (o : Owner). default_added kind o.scope l.name l.value l.at v.overrides)
      (owner_same two first second v w alike f g)
      ∙ ap (λ s. default_added kind (owner_at two.right.owner w.owners).scope l.name l.value l.at s) alike.overrides)
      (overrides_set two)

  defaults_put_same : (kind : List ℕ) (ls : List Line) → Same two (λ here. defaults_put kind ls here)
  unfolding defaults_put
  defaults_put_same kind [] = pure_same two
  defaults_put_same kind (l ∷ ls) = and_then two (default_same kind l) (λ u. defaults_put_same kind ls)

-- ---- the statements

module _ (inner : Inner) (same : SameInner inner) (two : Two) where
  pub target_same : (r : tree.Reference Expr) → Same two (λ here. target_rule inner r here)
  unfolding target_rule
  target_same r =
      and_then two (type_same two r.kind r.at) (λ kind. accessed_same inner same two kind r.args r.at)

  pub override_same : (o : Override Expr) → Same two (λ here. override_rule inner o here)
  unfolding override_rule
  override_same o = and_then two (same.target o.target two) (λ target.
      and_then two (lines_same inner same two [] o.attributes) (λ lines. put_on_same two target lines o.at))

  lines_put_same : (kind : List ℕ) (attributes : List (Attribute Expr)) →
      Same two (λ here. defaults.lines_put inner kind attributes here)
  unfolding defaults.lines_put
  lines_put_same kind attributes =
      and_then two (lines_same inner same two [] attributes) (λ lines. defaults_put_same two kind lines)

  kind_same : (kind : Option (List ℕ)) (d : Defaults Expr) → Same two (λ here. kind_put inner kind d here)
  kind_same None d = fault_here two d.at _
  kind_same (Some kind) d = lines_put_same kind d.attributes

  pub defaults_same : (d : Defaults Expr) → Same two (λ here. defaults_rule inner d here)
  unfolding defaults_rule
  defaults_same d = kind_same (kind_of (normal d.kind)) d
