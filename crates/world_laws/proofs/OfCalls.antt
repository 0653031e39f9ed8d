-- Calls, lambdas, and the functions that take them.
use Rattle.std.proofs.Common.{ℕ, ◌≤◌, Bool, true, false, List, [], ◌∷◌, length, Option, None, Some, Ok, Err}
use Rattle.std.proofs.Common.{option_map}
use Rattle.std.specs.Prelude.{codes}
use Rattle.std.specs.Str.{bytes_eq}
use Rattle.hiera_merge.specs.declared.merge.Merge.{Merge}
use Rattle.pp_funcs.specs.Names.{needs_evaluator}
use Rattle.pp_tree.specs.Names.{without_front_colons}
use Rattle.pp_tree.specs.declared.expr.Call.{Call, out-Call}
use Rattle.pp_tree.specs.declared.expr.Expr.{Expr}
use Rattle.pp_tree.specs.declared.param.Param.{Param}
use Rattle.pp_tree.specs.declared.statement.Statement.{Statement}
use Rattle.pp_tree.specs.declared.statement.Words.{Words}
use Rattle.pp_values.specs.Datum.{Datum}
use Rattle.pp_values.specs.declared.place.Place.{Place}
use Rattle.pp_values.specs.declared.reference.Reference.{Reference}
use Rattle.expr_eval.specs.Gathering.{decides}
use Rattle.expr_eval.specs.Names.{lambda_function}
use Rattle.expr_eval.specs.Turns.{Turn}
use Rattle.expr_eval.specs.declared.functions.Iteration.{Iteration}
use Rattle.expr_eval.specs.declared.functions.LambdaFunction.{LambdaFunction}
use Rattle.expr_eval.specs.declared.functions.LambdaFunction.TheVariants as function
use Rattle.scope_core.specs.Scopes as scopes
use Rattle.scope_core.specs.declared.scope_kind.ScopeKind.TheVariants as kind
use Rattle.eval_world.specs.Inner.{Inner}
use Rattle.eval_world.specs.Outcomes.{Outcome, Step, go_on, ◌>>=◌, ◌>>◌, pure}
use Rattle.eval_world.specs.Worlds.{enter_lambda, leave, place_at}
use Rattle.eval_world.specs.declared.here.Here.{Here}
use Rattle.eval_world.specs.declared.world.World.{World}
use Rattle.eval_classes.specs.Included.{including_of}
use Rattle.eval_classes.specs.declared.including.Including.{Including}
use Rattle.eval_calls.specs.Calls.{log_rule, data_rule, template_or_data, site_by, site_rule, without_lambda_by}
use Rattle.eval_calls.specs.Calls.{evaluated_rule, other_rule, plain_rule}
use Rattle.eval_calls.specs.Calls.{stray_lambda_rule, with_lambda_by, with_lambda_rule, called, invoked, call_rule}
use Rattle.eval_calls.specs.Calls.{invoked_on, method_rule, words_rule}
use Rattle.eval_calls.specs.Iterating.{turns_from, over_rule, iterate_rule, reduce_from, reduced, reduce_rule}
use Rattle.eval_calls.specs.Iterating.{with_rule, lambda_function_rule}
use Rattle.eval_calls.specs.Lambdas.{Opened, opened, typed, bind_rule, bind_from, lambda_rule}
use Rattle.eval_calls.specs.LookUps.{Request, request_of, or_next, first_found, default_or_fault, found_or, found_rule}
use Rattle.eval_calls.specs.LookUps.{fitting, of_type, lookup_by, lookup_rule}
use Rattle.eval_calls.specs.Names.{is_computed, is_function, is_log}
use Rattle.eval_calls.specs.Realizing.{references_asked, realize_from, realize_all, realized_by, realized}
use Rattle.world_laws.specs.Extends.{Extends}
use Rattle.world_laws.specs.Growing.{Reaches, Grows, GrowsInner}
use Rattle.world_laws.proofs.OfClasses.{included_grows, type_grows}
use Rattle.world_laws.proofs.OfCollectors.{realize_grows}
use Rattle.world_laws.proofs.OfFunctions.{defined_grows, lambda_refused_grows}
use Rattle.world_laws.proofs.OfWorld.{assign_grows, log_grows, look_up_grows, values_grow}
use Rattle.world_laws.proofs.OfTemplates.{epp_grows, inline_grows}
use Rattle.world_laws.proofs.Steps.{and_then, pure_grows, answer_grows, fault_grows, either, told, ends, not_less}
use Rattle.world_laws.proofs.Worlds.{extends_on, scope_entered}

-- ---- lambdas

module _ (inner : Inner) (g : GrowsInner inner) where
  typed_grows : (kind : Option Expr) (d : Datum) (x : List ℕ) (line : ℕ) (own : Here) →
      Grows (typed inner kind d x line own)
  typed_grows None d x line own = pure_grows
  typed_grows (Some kind) d x line own = and_then (type_grows inner g kind d own) (λ fits. answer_grows _)

  bind_grows : (p : Param Expr) (d : Datum) (line : ℕ) (own : Here) → Grows (bind_rule inner p d line own)
  unfolding bind_rule
  bind_grows p d line own = and_then (typed_grows p.kind d p.name line own) (λ u. assign_grows own p.name d p.at)

  binds_grow : (ps : List (Param Expr)) (ds : List Datum) (line : ℕ) (own : Here) →
      Grows (bind_from inner ps ds line own)
  unfolding bind_from
  binds_grow [] ds line own = pure_grows
  binds_grow (p ∷ ps) [] line own = pure_grows
  binds_grow (p ∷ ps) (d ∷ ds) line own = and_then (bind_grows p d line own) (λ u. binds_grow ps ds line own)

-- ---- `lookup`

or_next_grows : (o : Option Datum) (p : Step (Option Datum)) → Grows p → Grows (or_next o p)
or_next_grows None p f = f
or_next_grows (Some v) p f = pure_grows

firsts_grow : (scope : ℕ) (keys : List (List ℕ)) (merge : Option Merge) (at : Place) →
    Grows (first_found scope keys merge at)
unfolding first_found
firsts_grow scope [] merge at = pure_grows
firsts_grow scope (key ∷ keys) merge at =
    and_then (look_up_grows scope key merge at) (λ found. or_next_grows found _ (firsts_grow scope keys merge at))

default_grows : (o : Option Datum) (keys : List (List ℕ)) (line : ℕ) (here : Here) →
    Grows (default_or_fault o keys line here)
default_grows (Some v) keys line here = pure_grows
default_grows None keys line here = fault_grows _

found_or_grows : (o : Option Datum) (r : Request) (line : ℕ) (here : Here) → Grows (found_or o r line here)
found_or_grows (Some v) r line here = pure_grows
found_or_grows None r line here = default_grows r.options.default r.keys line here

fitting_grows : (fits : Bool) (value : Datum) (line : ℕ) (here : Here) → Grows (fitting fits value line here)
fitting_grows true value line here = pure_grows
fitting_grows false value line here = fault_grows _

of_type_grows : (kind : Option Datum) (value : Datum) (line : ℕ) (here : Here) → Grows (of_type kind value line here)
of_type_grows None value line here = pure_grows
of_type_grows (Some wanted) value line here = and_then (answer_grows _) (λ fits. fitting_grows fits value line here)

found_grows : (r : Request) (line : ℕ) (here : Here) → Grows (found_rule r line here)
unfolding found_rule
found_grows r line here = and_then
    (told (λ w. first_found here.scope.number r.keys r.options.merge (place_at w here line))
    (λ w. firsts_grow here.scope.number r.keys r.options.merge _))
    (λ found. and_then (found_or_grows found r line here) (λ value. of_type_grows r.options.of_type value line here))

lookup_by_grows : (o : Option Request) (f : List ℕ) (line : ℕ) (here : Here) → Grows (lookup_by o f line here)
lookup_by_grows None f line here = fault_grows _
lookup_by_grows (Some r) f line here = found_grows r line here

lookup_grows : (f : List ℕ) (arguments : List Datum) (line : ℕ) (here : Here) →
    Grows (lookup_rule f arguments line here)
unfolding lookup_rule
lookup_grows f arguments line here = lookup_by_grows (request_of arguments) f line here

-- ---- `realize`

each_realized_grows : (rs : List Reference) (line : ℕ) (here : Here) → Grows (realize_from rs line here)
unfolding realize_from
each_realized_grows [] line here = pure_grows
each_realized_grows (r ∷ rs) line here =
    and_then (realize_grows r line here) (λ u. each_realized_grows rs line here)

realized_by_grows : (o : Option (List Reference)) (f : List ℕ) (line : ℕ) (here : Here) →
    Grows (realized_by o f line here)
unfolding realize_all
realized_by_grows None f line here = fault_grows _
realized_by_grows (Some rs) f line here = and_then (each_realized_grows rs line here) (λ u. pure_grows)

realized_grows : (f : List ℕ) (arguments : List Datum) (line : ℕ) (here : Here) →
    Grows (realized f arguments line here)
unfolding realized
realized_grows f arguments line here = realized_by_grows (references_asked arguments) f line here

data_grows : (f : List ℕ) (arguments : List Datum) (line : ℕ) (here : Here) → Grows (data_rule f arguments line here)
unfolding data_rule
data_grows f arguments line here =
    either (bytes_eq f (codes "lookup")) (lookup_grows f arguments line here) (realized_grows f arguments line here)

-- ---- a call of a lambda

-- where the body of a lambda is evaluated, and the world then
abbrev own_of : Here → World → Here
own_of here w = record { scope = record { number = length w.scopes.scopes }; owner = here.owner; typed = false }

abbrev entered_by : Here → World → World
entered_by here w = record w { scopes = scopes.entered kind.Lambda here.scope.number w.scopes }

module _ (inner : Inner) (g : GrowsInner inner) where
  block_ends : (w v : World) (own : Here) (b : List Statement) (line : ℕ) (o : Outcome (Unit {0})) → Extends w v →
      length w.scopes.scopes ≤ own.scope.number → Reaches v o →
      Reaches w (go_on o (λ u. inner.block b line own >>= (λ d. leave own >> pure d)))
  block_ends w v own b line (Ok p) f past r =
      ends w p.1 own (inner.block b line own p.1) (extends_on w v p.1 f r) past ((g.block b line own).reaches p.1)
  block_ends w v own b line (Err e) f past r = tt

  -- A call ends no scope but its own, which was not there before.
  lambda_grows : (l : Opened) (arguments : List Datum) (line : ℕ) (here : Here) →
      Grows (lambda_rule inner l arguments line here)
  unfolding lambda_rule enter_lambda
  lambda_grows l arguments line here = record {
    reaches = λ w.
        block_ends w (entered_by here w) (own_of here w) l.block line
        (bind_from inner l.params arguments line (own_of here w) (entered_by here w))
        (scope_entered w kind.Lambda here.scope.number) (not_less (length w.scopes.scopes))
        ((binds_grow inner g l.params arguments line (own_of here w)).reaches (entered_by here w));
  }

  -- ---- functions that take a lambda

  turns_grow : (f : Iteration) (l : Opened) (done : List Datum) (ts : List Turn) (line : ℕ) (here : Here) →
      Grows (turns_from inner f l done ts line here)
  unfolding turns_from
  turns_grow f l done [] line here = pure_grows
  turns_grow f l done (t ∷ ts) line here = and_then (lambda_grows l t line here)
      (λ d. either (decides f d) pure_grows (turns_grow f l _ ts line here))

  over_grows : (f : Iteration) (l : Opened) (d : Datum) (line : ℕ) (here : Here) →
      Grows (over_rule inner f l d line here)
  unfolding over_rule
  over_grows f l d line here =
      and_then (answer_grows _) (λ ts. and_then (turns_grow f l [] ts line here) (λ ds. pure_grows))

  iterate_grows : (f : Iteration) (l : Opened) (arguments : List Datum) (line : ℕ) (here : Here) →
      Grows (iterate_rule inner f l arguments line here)
  unfolding iterate_rule
  iterate_grows f l [] line here = fault_grows _
  iterate_grows f l (d ∷ []) line here = over_grows f l d line here
  iterate_grows f l (d ∷ e ∷ ds) line here = fault_grows _

  reduces_grow : (l : Opened) (memo : Datum) (ds : List Datum) (line : ℕ) (here : Here) →
      Grows (reduce_from inner l memo ds line here)
  unfolding reduce_from
  reduces_grow l memo [] line here = pure_grows
  reduces_grow l memo (d ∷ ds) line here =
      and_then (lambda_grows l _ line here) (λ next. reduces_grow l next ds line here)

  reduced_grows : (l : Opened) (ds : List Datum) (line : ℕ) (here : Here) → Grows (reduced inner l ds line here)
  unfolding reduced
  reduced_grows l [] line here = pure_grows
  reduced_grows l (d ∷ ds) line here = reduces_grow l d ds line here

  reduce_grows : (l : Opened) (arguments : List Datum) (line : ℕ) (here : Here) →
      Grows (reduce_rule inner l arguments line here)
  unfolding reduce_rule
  reduce_grows l arguments line here = and_then (answer_grows _) (λ ds. reduced_grows l ds line here)

  with_grows : (l : Opened) (arguments : List Datum) (line : ℕ) (here : Here) →
      Grows (with_rule inner l arguments line here)
  unfolding with_rule
  with_grows l arguments line here = and_then (answer_grows _) (λ t. lambda_grows l t line here)

  lambda_function_grows : (f : LambdaFunction) (l : Opened) (arguments : List Datum) (line : ℕ) (here : Here) →
      Grows (lambda_function_rule inner f l arguments line here)
  unfolding lambda_function_rule
  lambda_function_grows (function.Iterate f) l arguments line here = iterate_grows f l arguments line here
  lambda_function_grows function.Reduce l arguments line here = reduce_grows l arguments line here
  lambda_function_grows function.With l arguments line here = with_grows l arguments line here

  -- ---- functions of arguments that are there

  log_rule_grows : (f : List ℕ) (arguments : List Datum) → Grows (log_rule f arguments)
  unfolding log_rule
  log_rule_grows f arguments = and_then (log_grows f _) (λ u. pure_grows)

  template_or_data_grows : (f : List ℕ) (arguments : List Datum) (line : ℕ) (here : Here) →
      Grows (template_or_data inner f arguments line here)
  unfolding template_or_data
  template_or_data_grows f arguments line here =
      either (bytes_eq f (codes "epp")) (epp_grows inner g f arguments line here)
      (either (bytes_eq f (codes "inline_epp")) (inline_grows inner g f arguments line here)
      (data_grows f arguments line here))

  site_by_grows : (i : Option Including) (f : List ℕ) (arguments : List Datum) (line : ℕ) (here : Here) →
      Grows (site_by inner i f arguments line here)
  site_by_grows (Some i) f arguments line here = included_grows inner g i f arguments line here
  site_by_grows None f arguments line here = template_or_data_grows f arguments line here

  site_grows : (f : List ℕ) (arguments : List Datum) (line : ℕ) (here : Here) →
      Grows (site_rule inner f arguments line here)
  unfolding site_rule
  site_grows f arguments line here = site_by_grows (including_of f) f arguments line here

  without_lambda_grows : (o : Option LambdaFunction) (f : List ℕ) (arguments : List Datum) (line : ℕ) (here : Here) →
      Grows (without_lambda_by inner o f arguments line here)
  without_lambda_grows (Some o) f arguments line here = fault_grows _
  without_lambda_grows None f arguments line here = site_grows f arguments line here

  evaluated_grows : (f : List ℕ) (arguments : List Datum) (line : ℕ) (here : Here) →
      Grows (evaluated_rule inner f arguments line here)
  unfolding evaluated_rule
  evaluated_grows f arguments line here = either (is_log f) (log_rule_grows f arguments)
      (without_lambda_grows (lambda_function f) f arguments line here)

  other_grows : (f : List ℕ) (arguments : List Datum) (line : ℕ) (here : Here) →
      Grows (other_rule inner f arguments line here)
  unfolding other_rule
  other_grows f arguments line here =
      either (is_computed f) (answer_grows _) (defined_grows inner g f arguments line here)

  plain_grows : (f : List ℕ) (arguments : List Datum) (line : ℕ) (here : Here) →
      Grows (plain_rule inner f arguments line here)
  unfolding plain_rule
  plain_grows f arguments line here =
      either (needs_evaluator f) (evaluated_grows f arguments line here) (other_grows f arguments line here)

  -- ---- with a lambda

  stray_grows : (f : List ℕ) (line : ℕ) (here : Here) → Grows (stray_lambda_rule f line here)
  unfolding stray_lambda_rule
  stray_grows f line here = either (is_function f) (fault_grows _) (lambda_refused_grows f line here)

  with_lambda_by_grows : (o : Option LambdaFunction) (f : List ℕ) (l : Opened) (arguments : List Datum) (line : ℕ)
      (here : Here) → Grows (with_lambda_by inner o f l arguments line here)
  with_lambda_by_grows (Some o) f l arguments line here = lambda_function_grows o l arguments line here
  with_lambda_by_grows None f l arguments line here = stray_grows f line here

  with_lambda_grows : (f : List ℕ) (l : Opened) (arguments : List Datum) (line : ℕ) (here : Here) →
      Grows (with_lambda_rule inner f l arguments line here)
  unfolding with_lambda_rule
  with_lambda_grows f l arguments line here = with_lambda_by_grows (lambda_function f) f l arguments line here

  -- ---- calls

  called_grows : (f : List ℕ) (l : Option Opened) (arguments : List Datum) (line : ℕ) (here : Here) →
      Grows (called inner f l arguments line here)
  called_grows f None arguments line here = plain_grows f arguments line here
  called_grows f (Some l) arguments line here = with_lambda_grows f l arguments line here

  invoked_grows : (f : List ℕ) (args : List Expr) (l : Option Opened) (line : ℕ) (here : Here) →
      Grows (invoked inner f args l line here)
  unfolding invoked
  invoked_grows f args l line here =
      and_then (values_grow inner g [] args here) (λ arguments. called_grows f l arguments line here)

  pub call_grows : (c : Call) (line : ℕ) (here : Here) → Grows (call_rule inner c line here)
  unfolding call_rule
  call_grows c line here = invoked_grows (without_front_colons (out-Call c).function) (out-Call c).args
      (option_map opened (out-Call c).lambda) line here

  invoked_on_grows : (d : Datum) (f : List ℕ) (args : List Expr) (l : Option Opened) (line : ℕ) (here : Here) →
      Grows (invoked_on inner d f args l line here)
  unfolding invoked_on
  invoked_on_grows d f args l line here =
      and_then (values_grow inner g [] args here) (λ arguments. called_grows f l (d ∷ arguments) line here)

  pub method_grows : (d : Datum) (c : Call) (line : ℕ) (here : Here) → Grows (method_rule inner d c line here)
  unfolding method_rule
  method_grows d c line here =
      invoked_on_grows d (without_front_colons (out-Call c).function) (out-Call c).args
      (option_map opened (out-Call c).lambda) line here

  pub words_grow : (x : Words Expr) (here : Here) → Grows (words_rule inner x here)
  unfolding words_rule
  words_grow x here = invoked_grows x.function x.args None x.at here
