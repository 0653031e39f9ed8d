-- Templates, and the functions that render them.
use Rattle.std.proofs.Common.{ℕ, ◌≤◌, Bool, true, false, List, [], ◌∷◌, length, Option, None, Some, Ok, Err}
use Rattle.pp_tree.specs.declared.expr.Expr.{Expr}
use Rattle.pp_tree.specs.declared.param.Param.{Param}
use Rattle.pp_tree.specs.declared.statement.Statement.{Statement}
use Rattle.pp_tree.specs.declared.template.Template.{Template}
use Rattle.pp_values.specs.Datum as datum
use Rattle.pp_values.specs.Datum.{Datum, Pair}
use Rattle.pp_values.specs.declared.place.Place.{Place}
use Rattle.scope_core.specs.Scopes as scopes
use Rattle.scope_core.specs.declared.scope_kind.ScopeKind.TheVariants as kind
use Rattle.eval_world.specs.Environment.{text_at}
use Rattle.eval_world.specs.Inner.{Inner}
use Rattle.eval_world.specs.Outcomes.{Outcome, go_on, ◌>>=◌, ◌>>◌}
use Rattle.eval_world.specs.Owners.{inline_file, inline_in}
use Rattle.eval_calls.specs.Renderings.{Rendering}
use Rattle.eval_world.specs.Worlds.{enter_function, enter_inline, place_at, with_rendered}
use Rattle.eval_world.specs.declared.here.Here.{Here}
use Rattle.eval_world.specs.declared.world.World.{World}
use Rattle.eval_calls.specs.Templating.{Asked, asked_of, template_path, rendering, rendered_in, file_rule, file_by}
use Rattle.eval_calls.specs.Templating.{named_by, epp_by, epp_rule, text_rule, inline_by, inline_rule}
use Rattle.eval_calls.specs.Templates.{pairs_given, given_for, are_taken, unless_undef, value_or_default, param_rule}
use Rattle.eval_calls.specs.Templates.{params_from, params_or_wrong, set_where, name_by, names_from, given_by, finish}
use Rattle.eval_calls.specs.Templates.{rendered_rule, template_rule, written_rule}
use Rattle.eval_calls.specs.VariableNames.{is_variable}
use Rattle.world_laws.specs.Extends.{Extends}
use Rattle.world_laws.specs.Growing.{Reaches, Grows, GrowsInner}
use Rattle.world_laws.proofs.OfFunctions.{bind_grows, value_grows, own_in, entered_in, entered_extends}
use Rattle.world_laws.proofs.OfWorld.{assign_at_grows}
use Rattle.world_laws.proofs.Steps.{and_then, pure_grows, answer_grows, fault_grows, told, ends, not_less}
use Rattle.world_laws.proofs.Worlds.{extends_on, inline_in_stays, rendered_changes, scope_entered}

-- ---- what is given without parameters

set_grows : (b : Bool) (x : List ℕ) (d : Datum) (at : Place) (own : Here) → Grows (set_where b x d at own)
set_grows false x d at own = pure_grows
set_grows true x d at own = assign_at_grows own x d at

name_grows : (key d : Datum) (at : Place) (own : Here) → Grows (name_by key d at own)
name_grows (datum.text x) d at own = set_grows (is_variable x) x d at own
name_grows key d at own = pure_grows

names_grow : (gs : List Pair) (at : Place) (own : Here) → Grows (names_from gs at own)
unfolding names_from
names_grow [] at own = pure_grows
names_grow (p ∷ ps) at own = and_then (name_grows p.0 p.1 at own) (λ u. names_grow ps at own)

-- ---- the text

-- what was emitted before is back
pub back : (w : World) (o : Outcome Datum) → Reaches (with_rendered [] w) o → Reaches w (go_on o (λ d. finish w.rendered))
back w (Ok p) r = extends_on w p.1 (with_rendered w.rendered p.1)
    (extends_on w (with_rendered [] w) p.1 (rendered_changes w []) r) (rendered_changes p.1 w.rendered)
back w (Err e) r = tt

-- ---- where a text that is handed over is rendered, and the world then

abbrev own_within : Here → World → Here
own_within here w = record {
  scope = record { number = length w.scopes.scopes };
  owner = (inline_in here.owner w.owners).0;
  typed = false;
}

abbrev owned_within : Here → World → World
owned_within here w = record w { owners = (inline_in here.owner w.owners).1 }

abbrev entered_within : Here → World → World
entered_within here w = record w {
  scopes = scopes.entered kind.Lambda here.scope.number w.scopes;
  owners = (inline_in here.owner w.owners).1;
}

within_extends : (here : Here) (w : World) → Extends w (entered_within here w)
within_extends here w = extends_on w (owned_within here w) (entered_within here w) (inline_in_stays w here.owner)
    (scope_entered (owned_within here w) kind.Lambda here.scope.number)

module _ (inner : Inner) (g : GrowsInner inner) where
  -- ---- parameters

  unless_undef_grows : (v : Datum) (default : Option Expr) (own : Here) → Grows (unless_undef inner v default own)
  unless_undef_grows datum.undef default own = value_grows inner g default own
  unless_undef_grows (datum.flag b) default own = pure_grows
  unless_undef_grows (datum.int z) default own = pure_grows
  unless_undef_grows (datum.text t) default own = pure_grows
  unless_undef_grows (datum.list ds) default own = pure_grows
  unless_undef_grows (datum.hash es) default own = pure_grows
  unless_undef_grows (datum.reference r) default own = pure_grows
  unless_undef_grows (datum.kind s) default own = pure_grows
  unless_undef_grows datum.default default own = pure_grows

  given_value_grows : (given : Option Datum) (default : Option Expr) (own : Here) →
      Grows (value_or_default inner given default own)
  given_value_grows None default own = value_grows inner g default own
  given_value_grows (Some v) default own = unless_undef_grows v default own

  param_grows : (p : Param Expr) (gs : List Pair) (at : Place) (own : Here) → Grows (param_rule inner p gs at own)
  unfolding param_rule
  param_grows p gs at own =
      and_then (given_value_grows (given_for p.name gs) p.default own) (λ d. bind_grows inner g p d at own)

  params_grow : (ps : List (Param Expr)) (gs : List Pair) (at : Place) (own : Here) →
      Grows (params_from inner ps gs at own)
  unfolding params_from
  params_grow [] gs at own = pure_grows
  params_grow (p ∷ ps) gs at own = and_then (param_grows p gs at own) (λ u. params_grow ps gs at own)

  params_or_wrong_grows : (b : Bool) (ps : List (Param Expr)) (gs : List Pair) (r : Rendering) (own : Here) →
      Grows (params_or_wrong b inner ps gs r own)
  params_or_wrong_grows true ps gs r own = params_grow ps gs r.at own
  params_or_wrong_grows false ps gs r own = fault_grows _

  given_grows : (ps : Option (List (Param Expr))) (gs : List Pair) (r : Rendering) (own : Here) →
      Grows (given_by inner ps gs r own)
  given_grows None gs r own = names_grow gs r.at own
  given_grows (Some ps) gs r own = params_or_wrong_grows (are_taken ps gs) ps gs r own

  -- ---- a template

  rendered_grows : (b : List Statement) (own : Here) → Grows (rendered_rule inner b own)
  unfolding rendered_rule
  rendered_grows b own = record {
    reaches = λ w. back w (inner.block b 1 own (with_rendered [] w)) ((g.block b 1 own).reaches (with_rendered [] w));
  }

  template_grows : (r : Rendering) (own : Here) → Grows (template_rule inner r own)
  unfolding template_rule written_rule
  template_grows r own = and_then (answer_grows _) (λ (t : Template).
      and_then (given_grows t.params (pairs_given r.given) r own) (λ u. rendered_grows t.block own))

  -- ---- the functions

  -- A call ends no scope but its own, which was not there before.
  scoped : (w v : World) (r : Rendering) (own : Here) → Extends w v → length w.scopes.scopes ≤ own.scope.number →
      Reaches w (rendered_in inner r own v)
  unfolding rendered_in
  scoped w v r own f past = ends w v own (template_rule inner r own v) f past ((template_grows r own).reaches v)

  file_grows : (r : Rendering) → Grows (file_rule inner r)
  unfolding file_rule enter_function
  file_grows r = record {
    reaches = λ w.
        scoped w (entered_in r.file w) r (own_in r.file w) (entered_extends r.file w)
        (not_less (length w.scopes.scopes));
  }

  file_by_grows : (o : Option (List ℕ)) (path : List ℕ) (given : Option Datum) (f : List ℕ) (line : ℕ) (here : Here) →
      Grows (file_by inner o path given f line here)
  file_by_grows None path given f line here = fault_grows _
  file_by_grows (Some text) path given f line here = told
      (λ w. file_rule inner (rendering path text given f (place_at w here line))) (λ w. file_grows _)

  named_grows : (o : Option (List ℕ)) (given : Option Datum) (f : List ℕ) (line : ℕ) (here : Here) →
      Grows (named_by inner o given f line here)
  named_grows None given f line here = fault_grows _
  named_grows (Some path) given f line here = told
      (λ w. file_by inner (text_at path w.environment) path given f line here)
      (λ w. file_by_grows (text_at path w.environment) path given f line here)

  epp_by_grows : (o : Option Asked) (f : List ℕ) (line : ℕ) (here : Here) → Grows (epp_by inner o f line here)
  epp_by_grows None f line here = fault_grows _
  epp_by_grows (Some asked) f line here = named_grows (template_path asked.text) asked.given f line here

  pub epp_grows : (f : List ℕ) (arguments : List Datum) (line : ℕ) (here : Here) →
      Grows (epp_rule inner f arguments line here)
  unfolding epp_rule
  epp_grows f arguments line here = epp_by_grows (asked_of arguments) f line here

  text_grows : (r : Rendering) (here : Here) → Grows (text_rule inner r here)
  unfolding text_rule enter_inline
  text_grows r here = record {
    reaches = λ w.
        scoped w (entered_within here w) r (own_within here w) (within_extends here w)
        (not_less (length w.scopes.scopes));
  }

  inline_by_grows : (o : Option Asked) (f : List ℕ) (line : ℕ) (here : Here) → Grows (inline_by inner o f line here)
  inline_by_grows None f line here = fault_grows _
  inline_by_grows (Some asked) f line here = told
      (λ w. text_rule inner (rendering inline_file asked.text asked.given f (place_at w here line)) here)
      (λ w. text_grows _ here)

  pub inline_grows : (f : List ℕ) (arguments : List Datum) (line : ℕ) (here : Here) →
      Grows (inline_rule inner f arguments line here)
  unfolding inline_rule
  inline_grows f arguments line here = inline_by_grows (asked_of arguments) f line here
