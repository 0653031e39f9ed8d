-- Resource expressions.
use Rattle.std.proofs.Common.{ℕ, Bool, true, false, List, [], ◌∷◌}
use Rattle.std.specs.Prelude.{codes}
use Rattle.std.specs.Str.{bytes_eq}
use Rattle.pp_tree.specs.Names.{normal}
use Rattle.pp_tree.specs.declared.expr.Expr.{Expr}
use Rattle.pp_tree.specs.declared.resource.Body as tree_body
use Rattle.pp_tree.specs.declared.resource.Resource.{Resource}
use Rattle.pp_values.specs.Datum.{Datum}
use Rattle.res_core.specs.declared.form.Form.{Form}
use Rattle.eval_world.specs.Inner.{Inner}
use Rattle.eval_world.specs.Owners.{owner_at}
use Rattle.eval_world.specs.declared.here.Here.{Here}
use Rattle.override_rules.specs.Meaning.{stands}
use Rattle.eval_resources.specs.Bodies.{is_default, default_rule, default_more, defaults_from, body_rule, body_more}
use Rattle.eval_resources.specs.Bodies.{before_next, bodies_from, bodies_rule}
use Rattle.eval_resources.specs.Declaring.{set_from, item_of, mode_of, declare_rule}
use Rattle.res_core.specs.Lines.{Line}
use Rattle.res_core.specs.declared.body.Body.{Body}
use Rattle.eval_resources.specs.Resources.{declared_rule, class_title_rule, title_rule, titles_rule, declare_bodies}
use Rattle.eval_resources.specs.Resources.{form_of, resource_rule}
use Rattle.eval_resources.specs.declared.named.Named.{Named}
use Rattle.std.proofs.Common.{ap, ◌∙◌}
use Rattle.override_rules.specs.Meaning.{stands}
use Rattle.pp_funcs.specs.Lists.{flat}
use Rattle.eval_resources.specs.Bodies.{filled}
use Rattle.eval_resources.specs.Checks.{class_tested, tested}
use Rattle.eval_world.specs.Outcomes.{answered}
use Rattle.eval_world.specs.declared.owner.Owner.{Owner}
use Rattle.independence_laws.specs.Steps.{Comes, Equal, Same, SameInner, Two}
use Rattle.independence_laws.proofs.Going.{and_then, answer_same, either, owner_same, pure_same, told}
use Rattle.independence_laws.proofs.OfClasses.{class_declared_same}
use Rattle.independence_laws.proofs.OfLines.{lines_same, placed_same}
use Rattle.independence_laws.proofs.OfWorld.{by_environment, put_same}

module _ (two : Two) where
  -- ---- the declaration

  declare_same : (written : Form) (named : Named) (b : Body) → Same two (λ here. declare_rule written named b here)
  unfolding declare_rule
  declare_same written named b = put_same two (λ here w. item_of (owner_at here.owner w.owners) w.book named b)
      (mode_of written)
      (λ first second v w alike f g.
      ap (λ (o : Owner). item_of o v.book named b) (owner_same two first second v w alike f g)
      ∙ ap (λ rows. item_of (owner_at two.right.owner w.owners) rows named b) alike.book)

  stands_same : (number : ℕ) → Same two (λ here w. answered (stands w.overrides w.book number) w)
  stands_same number = told two (λ here w. stands w.overrides w.book number) (λ here r. answered r)
      (λ first second v w alike f g. ap (λ s. stands s v.book number) alike.overrides
      ∙ ap (λ rows. stands w.overrides rows number) alike.book) (λ r. answer_same two r)

  declared_same : (written : Form) (kind : List ℕ) (title : Datum) (b : Body) →
      Same two (λ here. declared_rule written kind title b here)
  unfolding declared_rule
  declared_same written kind title b = and_then two (by_environment two (λ m. tested m kind title b)) (λ named.
      and_then two (declare_same written named b) (λ number. stands_same number))

module _ (inner : Inner) (same : SameInner inner) (two : Two) where
  -- ---- bodies

  default_same : (done : List (List Line)) (b : tree_body.Body Expr) →
      Same two (λ here. default_rule inner done b here)
  unfolding default_rule
  default_same done b = and_then two (same.value b.title two) (λ v.
      and_then two (lines_same inner same two [] b.attributes) (λ lines. pure_same two))

  default_more_same : (is : Bool) (done : List (List Line)) (b : tree_body.Body Expr) →
      Same two (λ here. default_more inner is done b here)
  default_more_same true done b = default_same done b
  default_more_same false done b = pure_same two

  defaults_same : (done : List (List Line)) (bs : List (tree_body.Body Expr)) →
      Same two (λ here. defaults_from inner done bs here)
  unfolding defaults_from
  defaults_same done [] = pure_same two
  defaults_same done (b ∷ bs) =
      and_then two (default_more_same (is_default b) done b) (λ more. defaults_same more bs)

  body_same : (defaults : List (List Line)) (before : ℕ) (b : tree_body.Body Expr) →
      Same two (λ here. body_rule inner defaults before b here)
  unfolding body_rule
  body_same defaults before b = and_then two (same.value b.title two) (λ title.
      and_then two (lines_same inner same two [] b.attributes) (λ own.
      placed_same two (λ place. record { titles = flat title; lines = filled own before defaults; at = place }) b.at))

  body_more_same : (is : Bool) (defaults : List (List Line)) (before : ℕ) (done : List Body)
      (b : tree_body.Body Expr) → Same two (λ here. body_more inner is defaults before done b here)
  body_more_same true defaults before done b = pure_same two
  body_more_same false defaults before done b =
      and_then two (body_same defaults before b) (λ body. pure_same two)

  bodies_same : (defaults : List (List Line)) (before : ℕ) (done : List Body) (bs : List (tree_body.Body Expr))
      → Same two (λ here. bodies_from inner defaults before done bs here)
  unfolding bodies_from
  bodies_same defaults before done [] = pure_same two
  bodies_same defaults before done (b ∷ bs) =
      and_then two (body_more_same (is_default b) defaults before done b)
      (λ more. bodies_same defaults (before_next (is_default b) before) more bs)

  pub all_bodies_same : (bs : List (tree_body.Body Expr)) → Same two (λ here. bodies_rule inner bs here)
  unfolding bodies_rule
  all_bodies_same bs = and_then two (defaults_same [] bs) (λ defaults. bodies_same defaults 0 [] bs)

  -- ---- titles

  class_title_same : (written : Form) (title : Datum) (b : Body) →
      Same two (λ here. class_title_rule inner written title b here)
  unfolding class_title_rule
  class_title_same written title b = and_then two
      (by_environment two (λ m. class_tested m written title b))
      (λ c. class_declared_same inner same two c (set_from [] b.lines) b.at)

  title_same : (written : Form) (kind : List ℕ) (title : Datum) (b : Body) →
      Same two (λ here. title_rule inner written kind title b here)
  unfolding title_rule
  title_same written kind title b = either two (bytes_eq kind (codes "class"))
      (class_title_same written title b) (declared_same two written kind title b)

  titles_same : (written : Form) (kind : List ℕ) (ts : List Datum) (b : Body) →
      Same two (λ here. titles_rule inner written kind ts b here)
  unfolding titles_rule
  titles_same written kind [] b = pure_same two
  titles_same written kind (t ∷ ts) b =
      and_then two (title_same written kind t b) (λ u. titles_same written kind ts b)

  pub declare_bodies_same : (written : Form) (kind : List ℕ) (bs : List Body) →
      Same two (λ here. declare_bodies inner written kind bs here)
  unfolding declare_bodies
  declare_bodies_same written kind [] = pure_same two
  declare_bodies_same written kind (b ∷ bs) =
      and_then two (titles_same written kind b.titles b) (λ u. declare_bodies_same written kind bs)

  pub resource_same : (r : Resource Expr) → Same two (λ here. resource_rule inner r here)
  unfolding resource_rule
  resource_same r = and_then two (all_bodies_same r.bodies)
      (λ bodies. declare_bodies_same (form_of r.form) (normal r.kind) bodies)
