-- Calls, lambdas, and the functions that take them.
use Rattle.std.proofs.Common.{ℕ, ◌≤◌, Bool, true, false, List, [], ◌∷◌, length, Option, None, Some, Ok, Err}
use Rattle.std.proofs.Common.{option_map, subst}
use Rattle.std.specs.Prelude.{codes}
use Rattle.std.specs.Str.{bytes_eq}
use Rattle.hiera_merge.specs.declared.merge.Merge.{Merge}
use Rattle.pp_funcs.specs.Names.{needs_evaluator}
use Rattle.pp_tree.specs.Names.{without_front_colons}
use Rattle.pp_tree.specs.declared.expr.Call.{Call, out-Call}
use Rattle.pp_tree.specs.declared.expr.Expr.{Expr}
use Rattle.pp_tree.specs.declared.param.Param.{Param}
use Rattle.pp_tree.specs.declared.statement.Statement.{Statement}
use Rattle.pp_tree.specs.declared.statement.Words.{Words}
use Rattle.pp_values.specs.Datum.{Datum}
use Rattle.pp_values.specs.declared.place.Place.{Place}
use Rattle.pp_values.specs.declared.reference.Reference.{Reference}
use Rattle.expr_eval.specs.Gathering.{decides, gathered}
use Rattle.expr_eval.specs.Names.{lambda_function}
use Rattle.expr_eval.specs.Turns.{Turn, reduced_over, turn_of_with, turns_of}
use Rattle.pp_funcs.specs.Functions.{applied}
use Rattle.expr_eval.specs.declared.functions.Iteration.{Iteration}
use Rattle.expr_eval.specs.declared.functions.LambdaFunction.{LambdaFunction}
use Rattle.expr_eval.specs.declared.functions.LambdaFunction.TheVariants as function
use Rattle.scope_core.specs.Scopes as scopes
use Rattle.scope_core.specs.declared.scope_kind.ScopeKind.TheVariants as kind
use Rattle.eval_world.specs.Inner.{Inner}
use Rattle.eval_world.specs.Outcomes.{Step, answered, ◌>>=◌, ◌>>◌, pure}
use Rattle.eval_world.specs.Worlds.{enter_lambda, leave, place_at}
use Rattle.eval_world.specs.declared.here.Here.{Here}
use Rattle.eval_world.specs.declared.world.World.{World}
use Rattle.eval_classes.specs.Included.{including_of}
use Rattle.eval_classes.specs.declared.including.Including.{Including}
use Rattle.eval_calls.specs.Calls.{log_rule, data_rule, template_or_data, site_by, site_rule, without_lambda_by}
use Rattle.eval_calls.specs.Calls.{evaluated_rule, other_rule, plain_rule}
use Rattle.eval_calls.specs.Calls.{stray_lambda_rule, with_lambda_by, with_lambda_rule, called, invoked, call_rule}
use Rattle.eval_calls.specs.Calls.{invoked_on, method_rule, words_rule}
use Rattle.eval_calls.specs.Iterating.{turns_from, over_rule, iterate_rule, reduce_from, reduced, reduce_rule}
use Rattle.eval_calls.specs.Iterating.{with_rule, lambda_function_rule}
use Rattle.eval_calls.specs.Lambdas.{Opened, opened, param_count, typed, bind_rule, bind_from, lambda_rule}
use Rattle.eval_calls.specs.LookUps.{Request, request_of, or_next, first_found, default_or_fault, found_or, found_rule}
use Rattle.eval_calls.specs.LookUps.{fitting, of_type, lookup_by, lookup_rule}
use Rattle.eval_calls.specs.Names.{is_computed, is_function, is_log}
use Rattle.eval_calls.specs.Realizing.{references_asked, realize_from, realize_all, realized_by, realized}
use Rattle.expr_eval.specs.Testing.{is_of}
use Rattle.eval_classes.specs.ParameterTypes.{accepted}
use Rattle.res_core.specs.declared.log_line.LogLine.{LogLine}
use Rattle.independence_laws.specs.Alike.{AreAlike, OwnersGoOn}
use Rattle.independence_laws.specs.Steps.{Comes, Equal, Same, SameInner, Two}
use Rattle.independence_laws.proofs.OfClasses.{included_same, type_same}
use Rattle.independence_laws.proofs.OfCollectors.{realize_same}
use Rattle.independence_laws.proofs.OfFunctions.{defined_same, lambda_refused_same}
use Rattle.independence_laws.proofs.OfWorld.{answered_at_same, assign_same, fault_here, log_same, look_up_same, values_same}
use Rattle.independence_laws.proofs.OfTemplates.{epp_same, inline_same}
use Rattle.independence_laws.proofs.Going.{and_then, answer_same, either, place_same, pure_same, told}
use Rattle.independence_laws.proofs.Opening.{in_scope, lambda_entered, left_same}

-- ---- lambdas

module _ (inner : Inner) (same : SameInner inner) (two : Two) where
  typed_same : (kind : Option Expr) (d : Datum) (x : List ℕ) (line : ℕ) →
      Same two (λ own. typed inner kind d x line own)
  typed_same None d x line = pure_same two
  typed_same (Some kind) d x line = and_then two (type_same inner same two kind d) (λ fits.
      told two (λ own w. place_at w own line) (λ own at. answered (accepted fits x at))
      (λ first second v w alike o p. place_same two first second v w alike o p line)
      (λ at. answer_same two (accepted fits x at)))

  bind_same : (p : Param Expr) (d : Datum) (line : ℕ) → Same two (λ own. bind_rule inner p d line own)
  unfolding bind_rule
  bind_same p d line = and_then two (typed_same p.kind d p.name line) (λ u. assign_same two p.name d p.at)

  binds_same : (ps : List (Param Expr)) (ds : List Datum) (line : ℕ) →
      Same two (λ own. bind_from inner ps ds line own)
  unfolding bind_from
  binds_same [] ds line = pure_same two
  binds_same (p ∷ ps) [] line = pure_same two
  binds_same (p ∷ ps) (d ∷ ds) line = and_then two (bind_same p d line) (λ u. binds_same ps ds line)

module _ (two : Two) where
  -- ---- `lookup`

  or_next_same : (o : Option Datum) (p : Here → Step (Option Datum)) → Same two p → Same two (λ here. or_next o (p here))
  or_next_same None p f = f
  or_next_same (Some v) p f = pure_same two

  firsts_same : (scope : ℕ) (keys : List (List ℕ)) (merge : Option Merge) (at : Place) →
      Same two (λ here. first_found scope keys merge at)
  unfolding first_found
  firsts_same scope [] merge at = pure_same two
  firsts_same scope (key ∷ keys) merge at =
      and_then two (look_up_same two scope key merge at) (λ found. or_next_same found (λ here. first_found scope keys merge at) (firsts_same scope keys merge at))

  default_same : (o : Option Datum) (keys : List (List ℕ)) (line : ℕ) →
      Same two (λ here. default_or_fault o keys line here)
  default_same (Some v) keys line = pure_same two
  default_same None keys line = fault_here two line _

  found_or_same : (o : Option Datum) (r : Request) (line : ℕ) → Same two (λ here. found_or o r line here)
  found_or_same (Some v) r line = pure_same two
  found_or_same None r line = default_same r.options.default r.keys line

  fitting_same : (fits : Bool) (value : Datum) (line : ℕ) → Same two (λ here. fitting fits value line here)
  fitting_same true value line = pure_same two
  fitting_same false value line = fault_here two line _

  of_type_same : (kind : Option Datum) (value : Datum) (line : ℕ) → Same two (λ here. of_type kind value line here)
  of_type_same None value line = pure_same two
  of_type_same (Some wanted) value line = and_then two (told two (λ here w. place_at w here line) (λ here at. answered (is_of value wanted at))
      (λ first second v w alike o p. place_same two first second v w alike o p line)
      (λ at. answer_same two (is_of value wanted at))) (λ fits. fitting_same fits value line)

  first_there : (r : Request) (line : ℕ) (first second : List LogLine) (v w : World) → AreAlike first second v w
      → OwnersGoOn two.first v.owners → OwnersGoOn two.second w.owners
      → Comes Equal first second v w
      (first_found two.left.scope.number r.keys r.options.merge (place_at v two.left line) v)
      (first_found two.right.scope.number r.keys r.options.merge (place_at w two.right line) w)
  first_there r line first second v w alike o p =
      subst (λ s. Comes Equal first second v w
      (first_found two.left.scope.number r.keys r.options.merge (place_at v two.left line) v)
      (first_found s.number r.keys r.options.merge (place_at w two.right line) w)) two.same.scope
      ((told two (λ here w. place_at w here line)
      (λ here at. first_found two.left.scope.number r.keys r.options.merge at)
      (λ first second v w alike o p. place_same two first second v w alike o p line)
      (λ at. firsts_same two.left.scope.number r.keys r.options.merge at)).comes first second v w alike o p)

  found_same : (r : Request) (line : ℕ) → Same two (λ here. found_rule r line here)
  unfolding found_rule
  found_same r line = and_then two
      (record {
        comes = λ first second v w alike o p.
            first_there r line first second v w alike o p;
      })
      (λ found. and_then two (found_or_same found r line) (λ value. of_type_same r.options.of_type value line))

  lookup_by_same : (o : Option Request) (f : List ℕ) (line : ℕ) → Same two (λ here. lookup_by o f line here)
  lookup_by_same None f line = fault_here two line _
  lookup_by_same (Some r) f line = found_same r line

  lookup_same : (f : List ℕ) (arguments : List Datum) (line : ℕ) →
      Same two (λ here. lookup_rule f arguments line here)
  unfolding lookup_rule
  lookup_same f arguments line = lookup_by_same (request_of arguments) f line

  -- ---- `realize`

  each_realized_same : (rs : List Reference) (line : ℕ) → Same two (λ here. realize_from rs line here)
  unfolding realize_from
  each_realized_same [] line = pure_same two
  each_realized_same (r ∷ rs) line =
      and_then two (realize_same two r line) (λ u. each_realized_same rs line)

  realized_by_same : (o : Option (List Reference)) (f : List ℕ) (line : ℕ) →
      Same two (λ here. realized_by o f line here)
  unfolding realize_all
  realized_by_same None f line = fault_here two line _
  realized_by_same (Some rs) f line = and_then two (each_realized_same rs line) (λ u. pure_same two)

  realized_same : (f : List ℕ) (arguments : List Datum) (line : ℕ) →
      Same two (λ here. realized f arguments line here)
  unfolding realized
  realized_same f arguments line = realized_by_same (references_asked arguments) f line

  data_same : (f : List ℕ) (arguments : List Datum) (line : ℕ) → Same two (λ here. data_rule f arguments line here)
  unfolding data_rule
  data_same f arguments line =
      either two (bytes_eq f (codes "lookup")) (lookup_same f arguments line) (realized_same f arguments line)

-- ---- a call of a lambda

module _ (inner : Inner) (same : SameInner inner) where
  lambda_body_same : (l : Opened) (arguments : List Datum) (line : ℕ) (t : Two)
      → Same t (λ own. bind_from inner l.params arguments line own
      >> (inner.block l.block line own >>= (λ d. leave own >> pure d)))
  lambda_body_same l arguments line t = and_then t (binds_same inner same t l.params arguments line) (λ u.
      and_then t (same.block l.block line t) (λ d. and_then t (left_same t) (λ u. pure_same t {a = d})))

module _ (inner : Inner) (same : SameInner inner) (two : Two) where
  lambda_same : (l : Opened) (arguments : List Datum) (line : ℕ) →
      Same two (λ here. lambda_rule inner l arguments line here)
  unfolding lambda_rule
  lambda_same l arguments line = in_scope two (λ here. enter_lambda here)
      (λ own. bind_from inner l.params arguments line own
      >> (inner.block l.block line own >>= (λ d. leave own >> pure d)))
      (lambda_entered two) (lambda_body_same inner same l arguments line)

  -- ---- functions that take a lambda

  turns_same : (f : Iteration) (l : Opened) (done : List Datum) (ts : List Turn) (line : ℕ) →
      Same two (λ here. turns_from inner f l done ts line here)
  unfolding turns_from
  turns_same f l done [] line = pure_same two
  turns_same f l done (t ∷ ts) line = and_then two (lambda_same l t line)
      (λ d. either two (decides f d) (pure_same two) (turns_same f l _ ts line))

  over_same : (f : Iteration) (l : Opened) (d : Datum) (line : ℕ) →
      Same two (λ here. over_rule inner f l d line here)
  unfolding over_rule
  over_same f l d line =
      and_then two (answered_at_same two (turns_of f d (param_count l)) line) (λ ts.
      and_then two (turns_same f l [] ts line) (λ ds. pure_same two {a = gathered f d ds}))

  iterate_same : (f : Iteration) (l : Opened) (arguments : List Datum) (line : ℕ) →
      Same two (λ here. iterate_rule inner f l arguments line here)
  unfolding iterate_rule
  iterate_same f l [] line = fault_here two line _
  iterate_same f l (d ∷ []) line = over_same f l d line
  iterate_same f l (d ∷ e ∷ ds) line = fault_here two line _

  reduces_same : (l : Opened) (memo : Datum) (ds : List Datum) (line : ℕ) →
      Same two (λ here. reduce_from inner l memo ds line here)
  unfolding reduce_from
  reduces_same l memo [] line = pure_same two
  reduces_same l memo (d ∷ ds) line =
      and_then two (lambda_same l _ line) (λ next. reduces_same l next ds line)

  reduced_same : (l : Opened) (ds : List Datum) (line : ℕ) → Same two (λ here. reduced inner l ds line here)
  unfolding reduced
  reduced_same l [] line = pure_same two
  reduced_same l (d ∷ ds) line = reduces_same l d ds line

  reduce_same : (l : Opened) (arguments : List Datum) (line : ℕ) →
      Same two (λ here. reduce_rule inner l arguments line here)
  unfolding reduce_rule
  reduce_same l arguments line = and_then two (answered_at_same two (reduced_over arguments (param_count l)) line) (λ ds. reduced_same l ds line)

  with_same : (l : Opened) (arguments : List Datum) (line : ℕ) →
      Same two (λ here. with_rule inner l arguments line here)
  unfolding with_rule
  with_same l arguments line = and_then two (answered_at_same two (turn_of_with arguments (param_count l)) line) (λ t. lambda_same l t line)

  lambda_function_same : (f : LambdaFunction) (l : Opened) (arguments : List Datum) (line : ℕ) →
      Same two (λ here. lambda_function_rule inner f l arguments line here)
  unfolding lambda_function_rule
  lambda_function_same (function.Iterate f) l arguments line = iterate_same f l arguments line
  lambda_function_same function.Reduce l arguments line = reduce_same l arguments line
  lambda_function_same function.With l arguments line = with_same l arguments line

  -- ---- functions of arguments that are there

  log_rule_same : (f : List ℕ) (arguments : List Datum) → Same two (λ here. log_rule f arguments)
  unfolding log_rule
  log_rule_same f arguments = and_then two (log_same two f _) (λ u. pure_same two)

  template_or_data_same : (f : List ℕ) (arguments : List Datum) (line : ℕ) →
      Same two (λ here. template_or_data inner f arguments line here)
  unfolding template_or_data
  template_or_data_same f arguments line =
      either two (bytes_eq f (codes "epp")) (epp_same inner same two f arguments line)
      (either two (bytes_eq f (codes "inline_epp")) (inline_same inner same two f arguments line)
      (data_same two f arguments line))

  site_by_same : (i : Option Including) (f : List ℕ) (arguments : List Datum) (line : ℕ) →
      Same two (λ here. site_by inner i f arguments line here)
  site_by_same (Some i) f arguments line = included_same inner same two i f arguments line
  site_by_same None f arguments line = template_or_data_same f arguments line

  site_same : (f : List ℕ) (arguments : List Datum) (line : ℕ) →
      Same two (λ here. site_rule inner f arguments line here)
  unfolding site_rule
  site_same f arguments line = site_by_same (including_of f) f arguments line

  without_lambda_same : (o : Option LambdaFunction) (f : List ℕ) (arguments : List Datum) (line : ℕ) →
      Same two (λ here. without_lambda_by inner o f arguments line here)
  without_lambda_same (Some o) f arguments line = fault_here two line _
  without_lambda_same None f arguments line = site_same f arguments line

  evaluated_same : (f : List ℕ) (arguments : List Datum) (line : ℕ) →
      Same two (λ here. evaluated_rule inner f arguments line here)
  unfolding evaluated_rule
  evaluated_same f arguments line = either two (is_log f) (log_rule_same f arguments)
      (without_lambda_same (lambda_function f) f arguments line)

  other_same : (f : List ℕ) (arguments : List Datum) (line : ℕ) →
      Same two (λ here. other_rule inner f arguments line here)
  unfolding other_rule
  other_same f arguments line =
      either two (is_computed f) (answered_at_same two (applied f arguments) line) (defined_same inner same two f arguments line)

  plain_same : (f : List ℕ) (arguments : List Datum) (line : ℕ) →
      Same two (λ here. plain_rule inner f arguments line here)
  unfolding plain_rule
  plain_same f arguments line =
      either two (needs_evaluator f) (evaluated_same f arguments line) (other_same f arguments line)

  -- ---- with a lambda

  stray_same : (f : List ℕ) (line : ℕ) → Same two (λ here. stray_lambda_rule f line here)
  unfolding stray_lambda_rule
  stray_same f line = either two (is_function f) (fault_here two line _) (lambda_refused_same two f line)

  with_lambda_by_same : (o : Option LambdaFunction) (f : List ℕ) (l : Opened) (arguments : List Datum) (line : ℕ)
      → Same two (λ here. with_lambda_by inner o f l arguments line here)
  with_lambda_by_same (Some o) f l arguments line = lambda_function_same o l arguments line
  with_lambda_by_same None f l arguments line = stray_same f line

  with_lambda_same : (f : List ℕ) (l : Opened) (arguments : List Datum) (line : ℕ) →
      Same two (λ here. with_lambda_rule inner f l arguments line here)
  unfolding with_lambda_rule
  with_lambda_same f l arguments line = with_lambda_by_same (lambda_function f) f l arguments line

  -- ---- calls

  called_same : (f : List ℕ) (l : Option Opened) (arguments : List Datum) (line : ℕ) →
      Same two (λ here. called inner f l arguments line here)
  called_same f None arguments line = plain_same f arguments line
  called_same f (Some l) arguments line = with_lambda_same f l arguments line

  invoked_same : (f : List ℕ) (args : List Expr) (l : Option Opened) (line : ℕ) →
      Same two (λ here. invoked inner f args l line here)
  unfolding invoked
  invoked_same f args l line =
      and_then two (values_same inner same two [] args) (λ arguments. called_same f l arguments line)

  pub call_same : (c : Call) (line : ℕ) → Same two (λ here. call_rule inner c line here)
  unfolding call_rule
  call_same c line = invoked_same (without_front_colons (out-Call c).function) (out-Call c).args
      (option_map opened (out-Call c).lambda) line

  invoked_on_same : (d : Datum) (f : List ℕ) (args : List Expr) (l : Option Opened) (line : ℕ) →
      Same two (λ here. invoked_on inner d f args l line here)
  unfolding invoked_on
  invoked_on_same d f args l line =
      and_then two (values_same inner same two [] args) (λ arguments. called_same f l (d ∷ arguments) line)

  pub method_same : (d : Datum) (c : Call) (line : ℕ) → Same two (λ here. method_rule inner d c line here)
  unfolding method_rule
  method_same d c line =
      invoked_on_same d (without_front_colons (out-Call c).function) (out-Call c).args
      (option_map opened (out-Call c).lambda) line

  pub words_same : (x : Words Expr) → Same two (λ here. words_rule inner x here)
  unfolding words_rule
  words_same x = invoked_same x.function x.args None x.at
