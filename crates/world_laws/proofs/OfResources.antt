-- Resource expressions.
use Rattle.std.proofs.Common.{ℕ, Bool, true, false, List, [], ◌∷◌}
use Rattle.std.specs.Prelude.{codes}
use Rattle.std.specs.Str.{bytes_eq}
use Rattle.pp_tree.specs.Names.{normal}
use Rattle.pp_tree.specs.declared.expr.Expr.{Expr}
use Rattle.pp_tree.specs.declared.resource.Body as tree_body
use Rattle.pp_tree.specs.declared.resource.Resource.{Resource}
use Rattle.pp_values.specs.Datum.{Datum}
use Rattle.res_core.specs.declared.form.Form.{Form}
use Rattle.eval_world.specs.Inner.{Inner}
use Rattle.eval_world.specs.Owners.{owner_at}
use Rattle.eval_world.specs.declared.here.Here.{Here}
use Rattle.override_rules.specs.Meaning.{stands}
use Rattle.eval_resources.specs.Bodies.{is_default, default_rule, default_more, defaults_from, body_rule, body_more}
use Rattle.eval_resources.specs.Bodies.{before_next, bodies_from, bodies_rule}
use Rattle.eval_resources.specs.Declaring.{set_from, item_of, mode_of, declare_rule}
use Rattle.res_core.specs.Lines.{Line}
use Rattle.res_core.specs.declared.body.Body.{Body}
use Rattle.eval_resources.specs.Resources.{declared_rule, class_title_rule, title_rule, titles_rule, declare_bodies}
use Rattle.eval_resources.specs.Resources.{form_of, resource_rule}
use Rattle.eval_resources.specs.declared.named.Named.{Named}
use Rattle.world_laws.specs.Growing.{Grows, GrowsInner}
use Rattle.world_laws.proofs.OfClasses.{class_declared_grows}
use Rattle.world_laws.proofs.OfLines.{lines_grow}
use Rattle.world_laws.proofs.OfWorld.{here_opened, put_grows}
use Rattle.world_laws.proofs.Steps.{and_then, pure_grows, answer_grows, either}
use Rattle.world_laws.proofs.Worlds.{same_world}

-- ---- the declaration

declare_grows : (written : Form) (named : Named) (b : Body) (here : Here) → Grows (declare_rule written named b here)
unfolding declare_rule
declare_grows written named b here =
    put_grows (λ w. item_of (owner_at here.owner w.owners) w.book named b) (mode_of written) (here_opened here.owner)

declared_grows : (written : Form) (kind : List ℕ) (title : Datum) (b : Body) (here : Here) →
    Grows (declared_rule written kind title b here)
unfolding declared_rule
declared_grows written kind title b here =
    and_then (answer_grows _) (λ named. and_then (declare_grows written named b here) (λ number.
    answer_grows (λ w. stands w.overrides w.book number)))

module _ (inner : Inner) (g : GrowsInner inner) where
  -- ---- bodies

  default_grows : (done : List (List Line)) (b : tree_body.Body Expr) (here : Here) →
      Grows (default_rule inner done b here)
  unfolding default_rule
  default_grows done b here = and_then (g.value b.title here) (λ v.
      and_then (lines_grow inner g [] b.attributes here) (λ lines. pure_grows))

  default_more_grows : (is : Bool) (done : List (List Line)) (b : tree_body.Body Expr) (here : Here) →
      Grows (default_more inner is done b here)
  default_more_grows true done b here = default_grows done b here
  default_more_grows false done b here = pure_grows

  defaults_grow : (done : List (List Line)) (bs : List (tree_body.Body Expr)) (here : Here) →
      Grows (defaults_from inner done bs here)
  unfolding defaults_from
  defaults_grow done [] here = pure_grows
  defaults_grow done (b ∷ bs) here =
      and_then (default_more_grows (is_default b) done b here) (λ more. defaults_grow more bs here)

  body_grows : (defaults : List (List Line)) (before : ℕ) (b : tree_body.Body Expr) (here : Here) →
      Grows (body_rule inner defaults before b here)
  unfolding body_rule
  body_grows defaults before b here = and_then (g.value b.title here) (λ title.
      and_then (lines_grow inner g [] b.attributes here) (λ own. record { reaches = same_world }))

  body_more_grows : (is : Bool) (defaults : List (List Line)) (before : ℕ) (done : List Body)
      (b : tree_body.Body Expr) (here : Here) → Grows (body_more inner is defaults before done b here)
  body_more_grows true defaults before done b here = pure_grows
  body_more_grows false defaults before done b here =
      and_then (body_grows defaults before b here) (λ body. pure_grows)

  bodies_grow : (defaults : List (List Line)) (before : ℕ) (done : List Body) (bs : List (tree_body.Body Expr))
      (here : Here) → Grows (bodies_from inner defaults before done bs here)
  unfolding bodies_from
  bodies_grow defaults before done [] here = pure_grows
  bodies_grow defaults before done (b ∷ bs) here =
      and_then (body_more_grows (is_default b) defaults before done b here)
      (λ more. bodies_grow defaults (before_next (is_default b) before) more bs here)

  pub all_bodies_grow : (bs : List (tree_body.Body Expr)) (here : Here) → Grows (bodies_rule inner bs here)
  unfolding bodies_rule
  all_bodies_grow bs here = and_then (defaults_grow [] bs here) (λ defaults. bodies_grow defaults 0 [] bs here)

  -- ---- titles

  class_title_grows : (written : Form) (title : Datum) (b : Body) (here : Here) →
      Grows (class_title_rule inner written title b here)
  unfolding class_title_rule
  class_title_grows written title b here = and_then (answer_grows _) (λ c.
      class_declared_grows inner g c (set_from [] b.lines) b.at here.owner)

  title_grows : (written : Form) (kind : List ℕ) (title : Datum) (b : Body) (here : Here) →
      Grows (title_rule inner written kind title b here)
  unfolding title_rule
  title_grows written kind title b here = either (bytes_eq kind (codes "class"))
      (class_title_grows written title b here) (declared_grows written kind title b here)

  titles_grow : (written : Form) (kind : List ℕ) (ts : List Datum) (b : Body) (here : Here) →
      Grows (titles_rule inner written kind ts b here)
  unfolding titles_rule
  titles_grow written kind [] b here = pure_grows
  titles_grow written kind (t ∷ ts) b here =
      and_then (title_grows written kind t b here) (λ u. titles_grow written kind ts b here)

  pub declare_bodies_grow : (written : Form) (kind : List ℕ) (bs : List Body) (here : Here) →
      Grows (declare_bodies inner written kind bs here)
  unfolding declare_bodies
  declare_bodies_grow written kind [] here = pure_grows
  declare_bodies_grow written kind (b ∷ bs) here =
      and_then (titles_grow written kind b.titles b here) (λ u. declare_bodies_grow written kind bs here)

  pub resource_grows : (r : Resource Expr) (here : Here) → Grows (resource_rule inner r here)
  unfolding resource_rule
  resource_grows r here = and_then (all_bodies_grow r.bodies here)
      (λ bodies. declare_bodies_grow (form_of r.form) (normal r.kind) bodies here)
