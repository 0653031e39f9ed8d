-- Templates, and the functions that render them.
use Rattle.pp_tree.specs.declared.expr.Expr.{Expr}
use Rattle.pp_tree.specs.declared.param.Param.{Param}
use Rattle.pp_tree.specs.declared.statement.Statement.{Statement}
use Rattle.pp_tree.specs.declared.template.Template.{Template}
use Rattle.pp_values.specs.Datum as datum
use Rattle.pp_values.specs.Datum.{Datum, Pair}
use Rattle.pp_values.specs.declared.place.Place.{Place}
use Rattle.eval_world.specs.Environment.{text_at}
use Rattle.eval_world.specs.Inner.{Inner}
use Rattle.eval_calls.specs.Renderings.{Rendering}
use Rattle.eval_world.specs.declared.here.Here.{Here}
use Rattle.eval_calls.specs.Templating.{Asked, asked_of, template_path, rendering, rendered_in, file_rule, file_by}
use Rattle.eval_calls.specs.Templating.{named_by, epp_by, epp_rule, text_rule, inline_by, inline_rule}
use Rattle.eval_calls.specs.Templates.{pairs_given, given_for, are_taken, unless_undef, value_or_default, param_rule}
use Rattle.eval_calls.specs.Templates.{params_from, params_or_wrong, set_where, name_by, names_from, given_by, finish}
use Rattle.eval_calls.specs.Templates.{rendered_rule, template_rule, written_rule}
use Rattle.eval_calls.specs.VariableNames.{is_variable}
use Rattle.std.proofs.Common.{ℕ, Bool, true, false, List, [], ◌∷◌, Option, None, Some, Ok, refl, ap}
use Rattle.epp_text.specs.Parsing.{template_of}
use Rattle.pp_values.specs.Faults as faults
use Rattle.pp_values.specs.declared.fault.What.TheVariants as what
use Rattle.eval_calls.specs.Templates.{begin}
use Rattle.eval_world.specs.Outcomes.{answered, ◌>>=◌, ◌>>◌, pure}
use Rattle.eval_world.specs.Owners.{inline_file}
use Rattle.eval_world.specs.Worlds.{enter_function, enter_inline, leave, place_at, with_rendered}
use Rattle.eval_world.specs.declared.world.World.{World}
use Rattle.independence_laws.specs.Steps.{Same, SameInner, Two}
use Rattle.independence_laws.proofs.Going.{and_then, answer_same, fault_same, place_same, pure_same, told}
use Rattle.independence_laws.proofs.OfFunctions.{bind_same, value_same}
use Rattle.independence_laws.proofs.OfWorld.{assign_at_same, fault_here, gives, with_same_text}
use Rattle.independence_laws.proofs.Opening.{function_entered, in_scope, left_same, text_entered}

-- ---- what is given without parameters

module _ (two : Two) where
  set_same : (b : Bool) (x : List ℕ) (d : Datum) (at : Place) → Same two (λ own. set_where b x d at own)
  set_same false x d at = pure_same two
  set_same true x d at = assign_at_same two x d at

  name_same : (key d : Datum) (at : Place) → Same two (λ own. name_by key d at own)
  name_same (datum.text x) d at = set_same (is_variable x) x d at
  name_same key d at = pure_same two

  names_same : (gs : List Pair) (at : Place) → Same two (λ own. names_from gs at own)
  unfolding names_from
  names_same [] at = pure_same two
  names_same (p ∷ ps) at = and_then two (name_same p.0 p.1 at) (λ u. names_same ps at)

  -- ---- the text

  pub begin_same : Same two (λ own. begin)
  begin_same = told two (λ own w. w.rendered) (λ own t w. Ok (t, with_rendered [] w))
      (λ first second v w alike f g. alike.rendered)
      (λ t. record {
        comes = λ first second v w alike f g. gives t first second v w (with_rendered [] v)
            (with_rendered [] w) refl refl (with_same_text alike [] [] refl);
      })

  -- what was emitted before is back
  pub finish_same : (before : List ℕ) → Same two (λ own. finish before)
  finish_same before = told two (λ own w. w.rendered) (λ own t w. Ok (datum.text t, with_rendered before w))
      (λ first second v w alike f g. alike.rendered)
      (λ t. record {
        comes = λ first second v w alike f g. gives (datum.text t) first second v w (with_rendered before v)
            (with_rendered before w) refl refl (with_same_text alike before before refl);
      })

module _ (inner : Inner) (same : SameInner inner) (two : Two) where
  -- ---- parameters

  unless_undef_same : (v : Datum) (default : Option Expr) → Same two (λ own. unless_undef inner v default own)
  unless_undef_same datum.undef default = value_same inner same two default
  unless_undef_same (datum.flag b) default = pure_same two
  unless_undef_same (datum.int z) default = pure_same two
  unless_undef_same (datum.text t) default = pure_same two
  unless_undef_same (datum.list ds) default = pure_same two
  unless_undef_same (datum.hash es) default = pure_same two
  unless_undef_same (datum.reference r) default = pure_same two
  unless_undef_same (datum.kind s) default = pure_same two
  unless_undef_same datum.default default = pure_same two

  given_value_same : (given : Option Datum) (default : Option Expr) →
      Same two (λ own. value_or_default inner given default own)
  given_value_same None default = value_same inner same two default
  given_value_same (Some v) default = unless_undef_same v default

  param_same : (p : Param Expr) (gs : List Pair) (at : Place) → Same two (λ own. param_rule inner p gs at own)
  unfolding param_rule
  param_same p gs at =
      and_then two (given_value_same (given_for p.name gs) p.default) (λ d. bind_same inner same two p d at)

  params_same : (ps : List (Param Expr)) (gs : List Pair) (at : Place) →
      Same two (λ own. params_from inner ps gs at own)
  unfolding params_from
  params_same [] gs at = pure_same two
  params_same (p ∷ ps) gs at = and_then two (param_same p gs at) (λ u. params_same ps gs at)

  params_or_wrong_same : (b : Bool) (ps : List (Param Expr)) (gs : List Pair) (r : Rendering) →
      Same two (λ own. params_or_wrong b inner ps gs r own)
  params_or_wrong_same true ps gs r = params_same ps gs r.at
  params_or_wrong_same false ps gs r = fault_same two (λ own w. faults.fault r.at (what.WrongArguments r.function))
      (λ first second v w alike f g. refl)

  given_same : (ps : Option (List (Param Expr))) (gs : List Pair) (r : Rendering) →
      Same two (λ own. given_by inner ps gs r own)
  given_same None gs r = names_same two gs r.at
  given_same (Some ps) gs r = params_or_wrong_same (are_taken ps gs) ps gs r

  -- ---- a template

  rendered_same : (b : List Statement) → Same two (λ own. rendered_rule inner b own)
  unfolding rendered_rule
  rendered_same b = and_then two (begin_same two) (λ before. and_then two (same.block b 1 two) (λ d. finish_same two before))

  template_same : (r : Rendering) → Same two (λ own. template_rule inner r own)
  unfolding template_rule written_rule
  template_same r = and_then two (answer_same two (template_of r.file r.text)) (λ (t : Template).
      and_then two (given_same t.params (pairs_given r.given) r) (λ u. rendered_same t.block))

  rendered_in_same : (r : Rendering) → Same two (λ own. rendered_in inner r own)
  unfolding rendered_in
  rendered_in_same r = and_then two (template_same r) (λ d. and_then two (left_same two) (λ u. pure_same two {a = d}))

module _ (inner : Inner) (same : SameInner inner) (two : Two) where
  -- ---- the functions

  file_same : (r : Rendering) → Same two (λ here. file_rule inner r)
  unfolding file_rule
  file_same r = in_scope two (λ here. enter_function r.file) (λ own. rendered_in inner r own) (function_entered two r.file)
      (λ t. rendered_in_same inner same t r)

  file_by_same : (o : Option (List ℕ)) (path : List ℕ) (given : Option Datum) (f : List ℕ) (line : ℕ) →
      Same two (λ here. file_by inner o path given f line here)
  file_by_same None path given f line = fault_here two line _
  file_by_same (Some text) path given f line = told two (λ here w. place_at w here line)
      (λ here at. file_rule inner (rendering path text given f at))
      (λ first second v w alike o p. place_same two first second v w alike o p line)
      (λ at. file_same (rendering path text given f at))

  named_same : (o : Option (List ℕ)) (given : Option Datum) (f : List ℕ) (line : ℕ) →
      Same two (λ here. named_by inner o given f line here)
  named_same None given f line = fault_here two line _
  named_same (Some path) given f line = told two (λ here w. text_at path w.environment)
      (λ here text. file_by inner text path given f line here)
      (λ first second v w alike o p. ap (λ m. text_at path m) alike.environment)
      (λ text. file_by_same text path given f line)

  epp_by_same : (o : Option Asked) (f : List ℕ) (line : ℕ) → Same two (λ here. epp_by inner o f line here)
  epp_by_same None f line = fault_here two line _
  epp_by_same (Some asked) f line = named_same (template_path asked.text) asked.given f line

  pub epp_same : (f : List ℕ) (arguments : List Datum) (line : ℕ) →
      Same two (λ here. epp_rule inner f arguments line here)
  unfolding epp_rule
  epp_same f arguments line = epp_by_same (asked_of arguments) f line

  text_same : (r : Rendering) → Same two (λ here. text_rule inner r here)
  unfolding text_rule
  text_same r = in_scope two (λ here. enter_inline here) (λ own. rendered_in inner r own) (text_entered two)
      (λ t. rendered_in_same inner same t r)

  inline_by_same : (o : Option Asked) (f : List ℕ) (line : ℕ) → Same two (λ here. inline_by inner o f line here)
  inline_by_same None f line = fault_here two line _
  inline_by_same (Some asked) f line = told two (λ here w. place_at w here line)
      (λ here at. text_rule inner (rendering inline_file asked.text asked.given f at) here)
      (λ first second v w alike o p. place_same two first second v w alike o p line)
      (λ at. text_same (rendering inline_file asked.text asked.given f at))

  pub inline_same : (f : List ℕ) (arguments : List Datum) (line : ℕ) →
      Same two (λ here. inline_rule inner f arguments line here)
  unfolding inline_rule
  inline_same f arguments line = inline_by_same (asked_of arguments) f line
