-- Classes and defines: how a class is declared, and the bodies of classes and instances.
use Rattle.std.proofs.Common.{ℕ, Bool, true, false, List, [], ◌∷◌, length}
use Rattle.std.proofs.Common.{◌≡◌, Option, None, Some, refl}
use Rattle.pp_tree.specs.declared.definition.Class.{Class}
use Rattle.pp_tree.specs.declared.expr.Expr.{Expr}
use Rattle.pp_tree.specs.declared.param.Param.{Param}
use Rattle.pp_tree.specs.declared.statement.Statement.{Statement}
use Rattle.pp_values.specs.Datum.{Datum}
use Rattle.res_core.specs.AttributeViews.{set_in}
use Rattle.pp_values.specs.Settings.{Setting}
use Rattle.pp_values.specs.declared.place.Place.{Place}
use Rattle.pp_values.specs.declared.reference.Reference.{Reference}
use Rattle.res_book.proofs.Growth.{grows-bound}
use Rattle.res_book.specs.Relations.{Related, with_containment, with_line}
use Rattle.res_book.specs.Rows.{bound_to, item_at, number_of, reference_of}
use Rattle.res_book.specs.declared.containment.Containment.{Containment}
use Rattle.res_book.specs.declared.relation_line.RelationLine.{RelationLine}
use Rattle.res_book.specs.declared.mode.Mode.TheVariants as mode
use Rattle.res_core.specs.declared.declared.Declared.{Declared}
use Rattle.scope_core.specs.Scopes.{entered}
use Rattle.scope_core.specs.declared.scope_kind.ScopeKind.{ScopeKind}
use Rattle.scope_core.specs.declared.scope_kind.ScopeKind.TheVariants as kind
use Rattle.eval_world.specs.Inner.{Inner}
use Rattle.eval_world.specs.Outcomes.{Step}
use Rattle.eval_world.specs.Owners.{owner_at}
use Rattle.eval_world.specs.Worlds.{place_at}
use Rattle.eval_world.specs.declared.here.Here.{Here}
use Rattle.eval_world.specs.declared.owner.Owner.{Owner}
use Rattle.eval_world.specs.declared.world.World.{World}
use Rattle.eval_classes.specs.Bodies.{keep, body_rule, class_body, class_by, class_rule, instance_body, attributes_at}
use Rattle.eval_classes.specs.Bodies.{instance_by, instance_rule, instance_owner, run_item, run_by, run_rule}
use Rattle.eval_classes.specs.Definitions.{class_name, define_found, longest_way, module_of}
use Rattle.eval_classes.specs.Entering.{enter_rule, with_body}
use Rattle.eval_classes.specs.Included.{contain_by, require_by, relate_rule, unless_there, declared_once, include_rule}
use Rattle.eval_classes.specs.Included.{include_from, include_names, included_by, included, names_asked}
use Rattle.eval_classes.specs.Listing.{class_names, class_item, class_reference, is_declared, declare_rule, chain_from}
use Rattle.eval_classes.specs.Listing.{outer_scope, class_owner, enter_scope, enter_all, enter_chain, own_rule}
use Rattle.eval_classes.specs.Listing.{list_rule, list_all, known_parent, run_all, chain_declared, class_declared}
use Rattle.eval_classes.specs.OwnNames.{names_rule}
use Rattle.eval_classes.specs.ParameterTypes.{has_type}
use Rattle.eval_classes.specs.Parameters.{Given, is_class, data_by, default_rule, counted, or_else, data_or_default}
use Rattle.eval_classes.specs.Parameters.{value_rule, typed, bind_rule, bind_from}
use Rattle.eval_classes.specs.Stacks.{Chain, Entered}
use Rattle.eval_classes.specs.declared.body_owner.BodyOwner.{BodyOwner}
use Rattle.eval_classes.specs.declared.including.Including.{Including}
use Rattle.eval_classes.specs.declared.including.Including.TheVariants as including
use Rattle.eval_classes.specs.declared.listed.Listed.{Listed}
use Rattle.world_laws.specs.Extends.{IsOpened, IsPlaced, RelationsGoOn}
use Rattle.world_laws.specs.Growing.{Reaches, Grows, GrowsInner}
use Rattle.world_laws.proofs.Lists.{goes_on, stays}
use Rattle.world_laws.proofs.Marks.{marks-bound}
use Rattle.world_laws.proofs.OfWorld.{assign_grows, here_opened, look_up_grows, put_grows}
use Rattle.world_laws.proofs.Placing.{change_placed}
use Rattle.world_laws.proofs.Steps.{and_then, pure_grows, answer_grows, fault_grows, from_answer, from_there, told}
use Rattle.world_laws.proofs.Worlds.{extends_on, scope_entered, book_grows, relations_grow, owner_added, same_world}

-- ---- tables

abbrev body_owner : BodyOwner → ℕ → Owner
body_owner owner scope = record {
  file = owner.file;
  source = owner.source;
  resource = owner.resource;
  scope = scope;
}

-- a body's scope is opened from one that was
pub enter_reaches : (k : ScopeKind) (parent outer : ℕ) (owner : BodyOwner) (w : World) →
    (IsPlaced w → IsOpened w.overrides outer) → Reaches w (enter_rule k parent outer owner w)
unfolding enter_rule
enter_reaches k parent outer owner w there =
    extends_on w (record w { scopes = entered k parent w.scopes }) (with_body k parent outer owner w)
    (scope_entered w k parent)
    (owner_added (record w { scopes = entered k parent w.scopes }) (body_owner owner (length w.scopes.scopes))
    (Some outer) there)

pub declare_grows : (c : Class) (given : List Setting) (at : Place) (from : ℕ) → Grows (declare_rule c given at from)
unfolding declare_rule
declare_grows c given at from =
    put_grows (λ w. class_item (owner_at from w.owners) w.book c given at) mode.Plain (here_opened from)

keep_grows : (number : ℕ) (bound : List Setting) → Grows (keep number bound)
keep_grows number bound = record {
  reaches = λ w. book_grows w _ (grows-bound number bound w.book) (marks-bound number bound w.book)
      (λ placed. change_placed w.overrides w.owners w.book placed (bound_to bound) (λ r. refl) number);
}

-- ---- names of a body

names_grow : (title home : List ℕ) (line : ℕ) (own : Here) → Grows (names_rule title home line own)
unfolding names_rule
names_grow title home line own =
    and_then (assign_grows own _ _ line) (λ u. and_then (assign_grows own _ _ line) (λ v. assign_grows own _ _ line))

-- ---- the scopes of classes, and their owners

scope_grows : (c : Class) (parent : ℕ) → Grows (enter_scope c parent)
unfolding enter_scope
scope_grows c parent = record { reaches = λ w. scope_entered w (kind.Class (class_name c)) parent }

scopes_grow : (cs : List Class) (parent : ℕ) (done : List Entered) → Grows (enter_all cs parent done)
unfolding enter_all
scopes_grow [] parent done = pure_grows
scopes_grow (c ∷ cs) parent done = and_then (scope_grows c parent) (λ scope. scopes_grow cs scope _)

enter_chain_grows : (chain : Chain) → Grows (enter_chain chain)
unfolding enter_chain
enter_chain_grows chain =
    and_then (told (λ w. enter_scope chain.last (outer_scope chain.parent w)) (λ w. scope_grows chain.last _))
    (λ scope. scopes_grow chain.before scope _)

own_grows : (c : Class) (scope number from : ℕ) → Grows (own_rule c scope number from)
unfolding own_rule
own_grows c scope number from = record {
  reaches = λ w. owner_added w (class_owner w.environment c number scope) (Some (owner_at from w.owners).scope)
      (here_opened from w);
}

class_names_grow : (name : List ℕ) (l : Listed) → Grows (class_names name l)
unfolding class_names
class_names_grow name l = told (λ w. names_rule name (module_of w.environment name) l.line l.here)
    (λ w. names_grow name _ l.line l.here)

list_grows : (e : Entered) (given : List Setting) (at : Place) (from : ℕ) → Grows (list_rule e given at from)
unfolding list_rule
list_grows e given at from = and_then (declare_grows e.0 given at from) (λ number.
    and_then (own_grows e.0 e.1 number from) (λ l. and_then (class_names_grow (class_name e.0) l) (λ u. pure_grows)))

lists_grow : (es : List Entered) (given : List Setting) (at : Place) (from : ℕ) (done : List Listed) →
    Grows (list_all es given at from done)
unfolding list_all
lists_grow [] given at from done = pure_grows
lists_grow (e ∷ es) given at from done =
    and_then (list_grows e given at from) (λ l. lists_grow es [] at l.here.owner _)

known_grows : (parent : Option (List ℕ)) (at : Place) → Grows (known_parent parent at)
known_grows None at = pure_grows
known_grows (Some name) at = and_then (answer_grows _) (λ c. pure_grows)

-- ---- `contain`

one_containment : (x : Containment) (r : Related) → RelationsGoOn r (with_containment x r)
one_containment x r = record {
  lines = stays r.lines;
  containments = goes_on r.containments (x ∷ []);
  collectors = stays r.collectors;
  applied = λ c n is. is;
}

contain_by_grows : (number : Option ℕ) (here : Here) → Grows (contain_by number here)
contain_by_grows None here = pure_grows
contain_by_grows (Some number) here = record {
  reaches = λ w. relations_grow w _ (one_containment _ w.relations);
}

pub one_line : (x : RelationLine) (r : Related) → RelationsGoOn r (with_line x r)
one_line x r = record {
  lines = goes_on r.lines (x ∷ []);
  containments = stays r.containments;
  collectors = stays r.collectors;
  applied = λ c n is. is;
}

require_by_grows : (item : Option Declared) (class : Reference) (at : Place) → Grows (require_by item class at)
require_by_grows None class at = pure_grows
require_by_grows (Some item) class at = record {
  reaches = λ w. relations_grow w _ (one_line _ w.relations);
}

relate_grows : (f : Including) (c : Class) (at : Place) (here : Here) → Grows (relate_rule f c at here)
unfolding relate_rule
relate_grows including.Include c at here = pure_grows
relate_grows including.Contain c at here =
    told (λ w. contain_by (number_of (class_reference (class_name c)) w.book) here) (λ w. contain_by_grows _ here)
relate_grows including.Require c at here =
    told (λ w. require_by (item_at w.book (owner_at here.owner w.owners).resource) (class_reference (class_name c)) at)
    (λ w. require_by_grows _ _ at)

-- ---- the site's data

data_by_grows : (b : Bool) (of : Reference) (x : List ℕ) (at : Place) → Grows (data_by b of x at)
data_by_grows false of x at = pure_grows
data_by_grows true of x at = look_up_grows 0 _ None at

or_else_grows : (v : Option Datum) (p : Step Datum) → Grows p → Grows (or_else v p)
or_else_grows None p f = f
or_else_grows (Some v) p f = pure_grows

module _ (inner : Inner) (g : GrowsInner inner) where
  -- ---- declaring

  runs_grow : (ls : List Listed) → Grows (run_all inner ls)
  unfolding run_all
  runs_grow [] = pure_grows
  runs_grow (l ∷ ls) = and_then (g.class l.number l.line l.here) (λ d. runs_grow ls)

  chain_grows : (chain : Chain) (given : List Setting) (at : Place) (from : ℕ) →
      Grows (chain_declared inner chain given at from)
  unfolding chain_declared
  chain_grows chain given at from = and_then (enter_chain_grows chain) (λ es.
      and_then (lists_grow es given at from []) (λ ls. and_then (known_grows chain.parent at) (λ u. runs_grow ls)))

  pub class_declared_grows : (c : Class) (given : List Setting) (at : Place) (from : ℕ) →
      Grows (class_declared inner c given at from)
  unfolding class_declared
  class_declared_grows c given at from =
      told (λ w.
      chain_declared inner (chain_from (longest_way w.environment) [] (class_name c) c w.environment w.book) given at from)
      (λ w. chain_grows _ given at from)

  -- ---- `include` and `contain`

  unless_grows : (b : Bool) (c : Class) (at : Place) (from : ℕ) → Grows (unless_there b inner c at from)
  unless_grows true c at from = pure_grows
  unless_grows false c at from = class_declared_grows c [] at from

  pub once_grows : (c : Class) (at : Place) (from : ℕ) → Grows (declared_once inner c at from)
  unfolding declared_once
  once_grows c at from =
      told (λ w. unless_there (is_declared (class_name c) w.book) inner c at from) (λ w. unless_grows _ c at from)

  include_grows : (f : Including) (name : List ℕ) (at : Place) (here : Here) →
      Grows (include_rule inner f name at here)
  unfolding include_rule
  include_grows f name at here =
      and_then (answer_grows _) (λ c. and_then (once_grows c at here.owner) (λ u. relate_grows f c at here))

  includes_grow : (f : Including) (names : List (List ℕ)) (at : Place) (here : Here) →
      Grows (include_from inner f names at here)
  unfolding include_from
  includes_grow f [] at here = pure_grows
  includes_grow f (name ∷ names) at here =
      and_then (include_grows f name at here) (λ u. includes_grow f names at here)

  include_names_grow : (f : Including) (names : List (List ℕ)) (line : ℕ) (here : Here) →
      Grows (include_names inner f names line here)
  unfolding include_names
  include_names_grow f names line here =
      and_then (told (λ w. include_from inner f names (place_at w here line) here) (λ w. includes_grow f names _ here))
      (λ u. pure_grows)

  included_by_grows : (f : Including) (written : List ℕ) (names : Option (List (List ℕ))) (line : ℕ) (here : Here) →
      Grows (included_by inner f written names line here)
  included_by_grows f written None line here = fault_grows _
  included_by_grows f written (Some names) line here = include_names_grow f names line here

  pub included_grows : (f : Including) (written : List ℕ) (arguments : List Datum) (line : ℕ) (here : Here) →
      Grows (included inner f written arguments line here)
  unfolding included
  included_grows f written arguments line here = included_by_grows f written (names_asked arguments) line here

  -- ---- parameters

  default_grows : (o : Option Expr) (of : Reference) (x : List ℕ) (at : Place) (own : Here) →
      Grows (default_rule inner o of x at own)
  default_grows None of x at own = record { reaches = λ w. tt }
  default_grows (Some e) of x at own = g.value e own

  data_grows : (p : Param Expr) (of : Reference) (at : Place) (own : Here) →
      Grows (data_or_default inner p of at own)
  unfolding data_or_default
  data_grows p of at own = and_then (data_by_grows (is_class of) of p.name at)
      (λ found. or_else_grows (counted found) _ (default_grows p.default of p.name at own))

  value_grows : (given : Given) (p : Param Expr) (of : Reference) (at : Place) (own : Here) →
      Grows (value_rule inner given p of at own)
  unfolding value_rule
  value_grows given p of at own = or_else_grows (counted (given p.name)) _ (data_grows p of at own)

  pub type_grows : (kind : Expr) (value : Datum) (own : Here) → Grows (has_type inner kind value own)
  unfolding has_type
  type_grows kind value own = and_then (g.value kind _) (λ of_kind. answer_grows _)

  pub typed_grows : (kind : Option Expr) (v : Datum) (x : List ℕ) (at : Place) (own : Here) →
      Grows (typed inner kind v x at own)
  typed_grows None v x at own = pure_grows
  typed_grows (Some kind) v x at own = and_then (type_grows kind v own) (λ fits. answer_grows _)

  bind_grows : (given : Given) (done : List Setting) (p : Param Expr) (of : Reference) (at : Place) (own : Here) →
      Grows (bind_rule inner given done p of at own)
  unfolding bind_rule
  bind_grows given done p of at own = and_then (value_grows given p of at own) (λ v.
      and_then (typed_grows p.kind v p.name at own) (λ u. and_then (assign_grows own p.name v p.at) (λ u. pure_grows)))

  binds_grow : (given : Given) (done : List Setting) (ps : List (Param Expr)) (of : Reference) (at : Place)
      (own : Here) → Grows (bind_from inner given done ps of at own)
  unfolding bind_from
  binds_grow given done [] of at own = pure_grows
  binds_grow given done (p ∷ ps) of at own =
      and_then (bind_grows given done p of at own) (λ more. binds_grow given more ps of at own)

  -- ---- bodies

  pub body_grows : (given : Given) (of : Reference) (at : Place) (params : List (Param Expr)) (block : List Statement)
      (number line : ℕ) (own : Here) → Grows (body_rule inner given of at params block number line own)
  unfolding body_rule
  body_grows given of at params block number line own = and_then (binds_grow given [] params of at own) (λ bound.
      and_then (keep_grows number bound) (λ v. g.block block line own))

  class_body_grows : (given : List Setting) (of : Reference) (at : Place) (number line : ℕ) (own : Here) →
      Grows (class_body inner given of at number line own)
  unfolding class_body
  class_body_grows given of at number line own =
      and_then (answer_grows _) (λ c. body_grows (set_in given) of at c.params c.block number line own)

  class_by_grows : (item : Option Declared) (number line : ℕ) (own : Here) →
      Grows (class_by inner item number line own)
  class_by_grows None number line own = pure_grows
  class_by_grows (Some item) number line own = class_body_grows _ _ _ number line own

  pub class_grows : (number line : ℕ) (own : Here) → Grows (class_rule inner number line own)
  unfolding class_rule
  class_grows number line own = told (λ w. class_by inner (item_at w.book number) number line own)
      (λ w. class_by_grows _ number line own)

  instance_body_grows : (given : List Setting) (of : Reference) (at : Place) (number line : ℕ) (own : Here) →
      Grows (instance_body inner given of at number line own)
  unfolding instance_body
  instance_body_grows given of at number line own = and_then (answer_grows _) (λ f. and_then
      (told (λ w. names_rule of.title (module_of w.environment of.kind) line own) (λ w. names_grow of.title _ line own))
      (λ u. body_grows (set_in given) of at f.params f.block number line own))

  instance_by_grows : (item : Option Declared) (number line : ℕ) (own : Here) →
      Grows (instance_by inner item number line own)
  instance_by_grows None number line own = pure_grows
  instance_by_grows (Some item) number line own =
      told (λ w. instance_body inner (attributes_at w number) (reference_of item) item.at number line own)
      (λ w. instance_body_grows _ _ _ number line own)

  pub instance_grows : (number line : ℕ) (own : Here) → Grows (instance_rule inner number line own)
  unfolding instance_rule
  instance_grows number line own = told (λ w. instance_by inner (item_at w.book number) number line own)
      (λ w. instance_by_grows _ number line own)

  -- the scope of the declaration was opened
  run_item_reaches : (item : Declared) (number : ℕ) (w : World) → item_at w.book number ≡ Some item →
      Reaches w (run_item inner item number w)
  unfolding run_item
  run_item_reaches item number w is =
      from_answer w (define_found w.environment item.item.kind item.at) _ (λ f.
      from_there w (enter_rule kind.Instance 0 item.scope (instance_owner w.environment item number) w) _
      (enter_reaches kind.Instance 0 item.scope (instance_owner w.environment item number) w
      (λ placed. placed.items number item is))
      (λ own. and_then (g.instance number f.at own) (λ d. pure_grows)))

  run_by_reaches : (item : Option Declared) (number : ℕ) (w : World) → item_at w.book number ≡ item →
      Reaches w (run_by inner item number w)
  run_by_reaches None number w is = same_world w
  run_by_reaches (Some item) number w is = run_item_reaches item number w is

  pub run_grows : (number : ℕ) → Grows (run_rule inner number)
  unfolding run_rule
  run_grows number = record { reaches = λ w. run_by_reaches (item_at w.book number) number w refl }
