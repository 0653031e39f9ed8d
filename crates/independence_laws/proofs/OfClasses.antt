-- Classes: how one is declared with its parents, its parameters and its body.
use Rattle.std.proofs.Common.{◌≡◌, ◌≤◌, ◌+◌, ℕ, zero, suc, Bool, true, false, List, [], ◌∷◌, ◌++◌, length, Option, None, Some}
use Rattle.std.proofs.Common.{Result, Ok, Err, refl, ap, sym, subst, ◌∙◌, arith}
use Rattle.std.specs.Prelude.{option_map, slice_get, unwrap_or}
use Rattle.override_rules.specs.Names.{attributes_of}
use Rattle.pp_tree.specs.declared.definition.Class.{Class}
use Rattle.pp_tree.specs.declared.expr.Expr.{Expr}
use Rattle.pp_tree.specs.declared.param.Param.{Param}
use Rattle.pp_tree.specs.declared.statement.Statement.{Statement}
use Rattle.pp_values.specs.Datum.{Datum}
use Rattle.pp_values.specs.Faults as faults
use Rattle.pp_values.specs.Settings.{Setting}
use Rattle.pp_values.specs.declared.fault.Fault.{Fault}
use Rattle.pp_values.specs.declared.fault.What.TheVariants as what
use Rattle.pp_values.specs.declared.place.Place.{Place}
use Rattle.pp_values.specs.declared.reference.Reference.{Reference}
use Rattle.override_rules.specs.Meaning.{State, scope_opened}
use Rattle.res_book.specs.Relations.{Related, with_containment, with_line}
use Rattle.res_book.specs.Rows.{item_at, number_of, reference_of, with_bound}
use Rattle.res_book.specs.declared.containment.Containment.{Containment}
use Rattle.res_book.specs.declared.mode.Mode.TheVariants as mode
use Rattle.res_book.specs.declared.relation_line.RelationLine.{RelationLine}
use Rattle.res_book.specs.declared.row.Row.{Row}
use Rattle.res_core.specs.AttributeViews.{set_in}
use Rattle.res_core.specs.declared.declared.Declared.{Declared}
use Rattle.res_core.specs.declared.log_line.LogLine.{LogLine}
use Rattle.scope_core.specs.Names.{value_of_class}
use Rattle.scope_core.specs.Scopes.{Scopes, entered}
use Rattle.scope_core.specs.declared.scope_kind.ScopeKind.TheVariants as kind
use Rattle.eval_world.specs.Environment.{Environment}
use Rattle.eval_world.specs.Inner.{Inner}
use Rattle.eval_world.specs.Outcomes.{Outcome, Step, go_on, pure, answered, ◌>>=◌, ◌>>◌}
use Rattle.eval_world.specs.Owners.{Owners, owner_at, with_owner}
use Rattle.eval_world.specs.Worlds.{place_at}
use Rattle.eval_world.specs.declared.here.Here.{Here}
use Rattle.eval_world.specs.declared.owner.Owner.{Owner}
use Rattle.eval_world.specs.declared.world.World.{World}
use Rattle.expr_eval.specs.Testing.{is_of}
use Rattle.pp_tree.specs.Building.{line_of}
use Rattle.eval_classes.specs.Bodies.{attributes_at, body_rule, class_body, class_by, class_rule, instance_body}
use Rattle.eval_classes.specs.Bodies.{instance_by, instance_rule, keep}
use Rattle.eval_classes.specs.Definitions.{class_found, class_name, define_found, longest_way, module_of}
use Rattle.eval_classes.specs.Included.{before, contain_by, declared_once, include_from, include_names, include_rule, included}
use Rattle.eval_classes.specs.Included.{included_by, names_asked, references, relate_rule, require_by, unless_there}
use Rattle.eval_classes.specs.Listing.{chain_declared, chain_from, class_declared, class_item, class_names, class_owner}
use Rattle.eval_classes.specs.Listing.{class_reference, declare_rule, enter_all, enter_chain, enter_scope, is_declared}
use Rattle.eval_classes.specs.Listing.{known_parent, list_all, list_rule, outer_scope, own_rule, run_all}
use Rattle.eval_classes.specs.Listing.{with_class_scope}
use Rattle.eval_classes.specs.OwnNames.{names_rule}
use Rattle.eval_classes.specs.ParameterTypes.{has_type, within_type}
use Rattle.eval_classes.specs.Parameters.{Given, bind_from, bind_rule, counted, data_by, data_or_default, default_rule}
use Rattle.eval_classes.specs.Parameters.{is_class, or_else, typed, value_rule}
use Rattle.eval_classes.specs.Stacks.{Chain, Entered}
use Rattle.eval_classes.specs.declared.including.Including.{Including}
use Rattle.eval_classes.specs.declared.including.Including.TheVariants as including
use Rattle.eval_classes.specs.declared.listed.Listed.{Listed}
use Rattle.independence_laws.specs.Alike.{AreAlike, AreSameRelations, AreTold, IsSameHere, IsSameOwner, OwnersGoOn}
use Rattle.independence_laws.specs.Steps.{Come, Comes, Equal, IsAlike, Likeness, Same, SameInner, Two}
use Rattle.independence_laws.proofs.Going.{and_then, and_then_like, and_then_to, answer_same, bind_like, fault_same, owner_same}
use Rattle.independence_laws.proofs.Going.{place_same, pure_like, pure_same, told}
use Rattle.independence_laws.proofs.OfWorld.{assign_same, fault_here, gives, look_up_same, put_same, with_same_book}
use Rattle.independence_laws.proofs.OfWorld.{with_same_scopes}
use Rattle.independence_laws.proofs.Owning.{last_there, one_goes_on, owner_last, owners_on, owners_stay, same_here_on}
use Rattle.independence_laws.proofs.Owning.{same_relations_on}
use Rattle.independence_laws.proofs.Telling.{files_stay, inlines_stay}

-- ---- relations

module _ {first second : List LogLine} {v w : World} (alike : AreAlike first second v w) where
  pub with_same_relations : (r s : Related) → AreSameRelations v.owners w.owners r s
      → AreAlike first second (record v { relations = r }) (record w { relations = s })
  with_same_relations r s same = record {
    environment = alike.environment;
    scopes = alike.scopes;
    book = alike.book;
    overrides = alike.overrides;
    relations = same;
    rendered = alike.rendered;
    main = alike.main;
    told = alike.told;
    log = alike.log;
  }

-- ---- an owner more

module _ (o : Owners) (x : Owner) where
  one_owner : OwnersGoOn o (with_owner x o)
  one_owner = one_goes_on x o (with_owner x o) refl refl

  number_there : length o.others + 1 ≤ length (with_owner x o).others
  number_there = last_there x o (with_owner x o) refl refl

  owner_there : owner_at (length o.others + 1) (with_owner x o) ≡ x
  owner_there = owner_last x o (with_owner x o) refl refl

  told_more : AreTold o → AreTold (with_owner x o)
  told_more told = record {
    files = λ file n is. files_stay o (with_owner x o) one_owner file n (told.files file n is);
    inlines = λ k n is. inlines_stay o (with_owner x o) one_owner k n (told.inlines k n is);
  }

-- ---- classes that are listed

pub record IsSameListed (o p : Owners) (l k : Listed) : Type 0 where
  pub number : l.number ≡ k.number
  pub line : l.line ≡ k.line
  pub here : IsSameHere o p l.here k.here

pub AreSameListed : Owners → Owners → List Listed → List Listed → Type 0
AreSameListed o p [] [] = Unit {0}
AreSameListed o p [] (k ∷ ks) = ⊥
AreSameListed o p (l ∷ ls) [] = ⊥
AreSameListed o p (l ∷ ls) (k ∷ ks) = IsSameListed o p l k × AreSameListed o p ls ks

none_listed : (o p : Owners) → AreSameListed o p [] []
unfolding AreSameListed
none_listed o p = tt

listed_on : (o p q r : Owners) (l k : Listed) → OwnersGoOn o q → OwnersGoOn p r → IsSameListed o p l k
    → IsSameListed q r l k
listed_on o p q r l k f g same = record {
  number = same.number;
  line = same.line;
  here = same_here_on o p q r l.here k.here f g same.here;
}

all_listed_on : (o p q r : Owners) (ls ks : List Listed) → OwnersGoOn o q → OwnersGoOn p r → AreSameListed o p ls ks
    → AreSameListed q r ls ks
unfolding AreSameListed
all_listed_on o p q r [] [] f g same = tt
all_listed_on o p q r [] (k ∷ ks) f g same = absurd same
all_listed_on o p q r (l ∷ ls) [] f g same = absurd same
all_listed_on o p q r (l ∷ ls) (k ∷ ks) f g same =
    (listed_on o p q r l k f g same.0, all_listed_on o p q r ls ks f g same.1)

-- where the body of a class is evaluated that is listed
abbrev listed_two : (o p : Owners) (l k : Listed) → IsSameListed o p l k → Two
listed_two o p l k same = record { left = l.here; right = k.here; first = o; second = p; same = same.here }

module _ (two : Two) where
  -- ---- names of a body

  pub names_same : (title home : List ℕ) (line : ℕ) → Same two (λ own. names_rule title home line own)
  unfolding names_rule
  names_same title home line =
      and_then two (assign_same two _ _ line) (λ u. and_then two (assign_same two _ _ line) (λ x. assign_same two _ _ line))

  -- ---- the scopes of classes

  scope_same : (c : Class) (parent : ℕ) → Same two (λ here. enter_scope c parent)
  unfolding enter_scope
  scope_same c parent = told two (λ here w. w.scopes)
      (λ here s w. Ok (length s.scopes, record w { scopes = entered (kind.Class (class_name c)) parent s }))
      (λ first second v w alike f g. alike.scopes)
      (λ s. record {
        comes = λ first second v w alike f g. gives (length s.scopes) first second v w
            (record v { scopes = entered (kind.Class (class_name c)) parent s })
            (record w { scopes = entered (kind.Class (class_name c)) parent s }) refl refl
            (with_same_scopes alike (entered (kind.Class (class_name c)) parent s)
            (entered (kind.Class (class_name c)) parent s) refl);
      })

  scopes_same : (cs : List Class) (parent : ℕ) (done : List Entered) → Same two (λ here. enter_all cs parent done)
  unfolding enter_all
  scopes_same [] parent done = pure_same two
  scopes_same (c ∷ cs) parent done = and_then two (scope_same c parent) (λ scope. scopes_same cs scope ((c, scope) ∷ done))

  outer_same : (parent : Option (List ℕ)) (first second : List LogLine) (v w : World) → AreAlike first second v w
      → outer_scope parent v ≡ outer_scope parent w
  outer_same None first second v w alike = refl
  outer_same (Some name) first second v w alike =
      ap (λ (s : Scopes). unwrap_or (value_of_class name s.classes) 0) alike.scopes

  chain_scopes_same : (chain : Chain) → Same two (λ here. enter_chain chain)
  unfolding enter_chain
  chain_scopes_same chain = and_then two
      (told two (λ here w. outer_scope chain.parent w) (λ here outer. enter_scope chain.last outer)
      (λ first second v w alike f g. outer_same chain.parent first second v w alike) (λ outer. scope_same chain.last outer))
      (λ scope. scopes_same chain.before scope ((chain.last, scope) ∷ []))

  -- ---- listing

  item_same : (c : Class) (given : List Setting) (at : Place) (first second : List LogLine) (v w : World)
      → AreAlike first second v w → OwnersGoOn two.first v.owners → OwnersGoOn two.second w.owners
      → class_item (owner_at two.left.owner v.owners) v.book c given at
      ≡ class_item (owner_at two.right.owner w.owners) w.book c given at
  item_same c given at first second v w alike f g =
      ap (λ o. class_item o v.book c given at) (owner_same two first second v w alike f g)
      ∙ ap (λ b. class_item (owner_at two.right.owner w.owners) b c given at) alike.book

  declare_same : (c : Class) (given : List Setting) (at : Place) → Same two (λ here. declare_rule c given at here.owner)
  unfolding declare_rule
  declare_same c given at =
      put_same two (λ here w. class_item (owner_at here.owner w.owners) w.book c given at) mode.Plain
      (item_same c given at)

  own_worlds : (c : Class) (scope number : ℕ) (first second : List LogLine) (v w : World) → AreAlike first second v w
      → OwnersGoOn two.first v.owners → OwnersGoOn two.second w.owners → AreAlike first second
      (record v {
        overrides = scope_opened scope (Some (owner_at two.left.owner v.owners).scope) v.overrides;
        owners = with_owner (class_owner v.environment c number scope) v.owners;
      })
      (record w {
        overrides = scope_opened scope (Some (owner_at two.right.owner w.owners).scope) w.overrides;
        owners = with_owner (class_owner w.environment c number scope) w.owners;
      })
  own_worlds c scope number first second v w alike f g =
      let a = class_owner v.environment c number scope in
      let b = class_owner w.environment c number scope in
      record {
        environment = alike.environment;
        scopes = alike.scopes;
        book = alike.book;
        overrides = ap (λ (o : Owner). scope_opened scope (Some o.scope) v.overrides)
            (owner_same two first second v w alike f g)
            ∙ ap (λ s. scope_opened scope (Some (owner_at two.right.owner w.owners).scope) s) alike.overrides;
        relations = same_relations_on v.owners w.owners (with_owner a v.owners) (with_owner b w.owners) v.relations
            w.relations (one_owner v.owners a) (one_owner w.owners b) alike.relations;
        rendered = alike.rendered;
        main = alike.main;
        told = (told_more v.owners a alike.told.0, told_more w.owners b alike.told.1);
        log = alike.log;
      }

  own_same : (c : Class) (scope number : ℕ) → IsAlike IsSameListed two (λ here. own_rule c scope number here.owner)
  unfolding own_rule
  own_same c scope number = record {
    comes = λ first second v w alike f g.
        let a = class_owner v.environment c number scope in
        let b = class_owner w.environment c number scope in
        record {
          value = record {
            number = refl;
            line = refl;
            here = record {
              scope = refl;
              typed = refl;
              owner = record {
                left = number_there v.owners a;
                right = number_there w.owners b;
                owner = owner_there v.owners a ∙ ap (λ m. class_owner m c number scope) alike.environment
                    ∙ sym (owner_there w.owners b);
              };
            };
          };
          worlds = own_worlds c scope number first second v w alike f g;
          left = one_owner v.owners a;
          right = one_owner w.owners b;
        };
  }

module _ (o p : Owners) (l k : Listed) (same : IsSameListed o p l k) where
  class_names_same : (name : List ℕ) (first second : List LogLine) (v w : World) → AreAlike first second v w
      → OwnersGoOn o v.owners → OwnersGoOn p w.owners
      → Comes Equal first second v w (class_names name l v) (class_names name k w)
  unfolding class_names
  class_names_same name first second v w alike f g =
      subst (λ line. Comes Equal first second v w (names_rule name (module_of v.environment name) l.line l.here v)
      (names_rule name (module_of w.environment name) line k.here w)) same.line
      ((told (listed_two o p l k same) (λ here u. module_of u.environment name)
      (λ here home. names_rule name home l.line here)
      (λ first second x y a r s. ap (λ m. module_of m name) a.environment)
      (λ home. names_same (listed_two o p l k same) name home l.line)).comes first second v w alike f g)

module _ (two : Two) where
  list_same : (e : Entered) (given : List Setting) (at : Place)
      → IsAlike IsSameListed two (λ here. list_rule e given at here.owner)
  unfolding list_rule
  list_same e given at = and_then_to two IsSameListed (declare_same two e.0 given at) (λ number.
      and_then_like two IsSameListed IsSameListed
      (λ here l. class_names (class_name e.0) l >> pure l) (own_same two e.0 e.1 number) (λ first second l k x y alike r s same.
      bind_like Equal IsSameListed (λ u. pure l) (λ u. pure k) first second x y (class_names (class_name e.0) l x)
      (class_names (class_name e.0) k y)
      (class_names_same x.owners y.owners l k same (class_name e.0) first second x y alike (owners_stay x.owners)
      (owners_stay y.owners))
      (λ a b x2 y2 alike2 r2 s2 eq. pure_like two IsSameListed l k first second x2 y2 alike2
      (listed_on x.owners y.owners x2.owners y2.owners l k r2 s2 same))))

lists_same : (es : List Entered) (given : List Setting) (at : Place) (two : Two) (done other : List Listed)
    → AreSameListed two.first two.second done other → (first second : List LogLine) (v w : World)
    → AreAlike first second v w → OwnersGoOn two.first v.owners → OwnersGoOn two.second w.owners
    → Comes AreSameListed first second v w (list_all es given at two.left.owner done v)
    (list_all es given at two.right.owner other w)
unfolding list_all AreSameListed
lists_same [] given at two done other same first second v w alike f g =
    pure_like two AreSameListed done other first second v w alike
    (all_listed_on two.first two.second v.owners w.owners done other f g same)
lists_same (e ∷ es) given at two done other same first second v w alike f g =
    bind_like IsSameListed AreSameListed (λ l. list_all es [] at l.here.owner (l ∷ done))
    (λ k. list_all es [] at k.here.owner (k ∷ other)) first second v w (list_rule e given at two.left.owner v)
    (list_rule e given at two.right.owner w) ((list_same two e given at).comes first second v w alike f g)
    (λ l k x y there r s one. lists_same es [] at (listed_two x.owners y.owners l k one) (l ∷ done) (k ∷ other)
    (one, all_listed_on two.first two.second x.owners y.owners done other (owners_on f r) (owners_on g s) same)
    first second x y there (owners_stay x.owners) (owners_stay y.owners))

-- ---- environment and book

module _ (two : Two) where
  known_same : (parent : Option (List ℕ)) (at : Place) → Same two (λ here. known_parent parent at)
  known_same None at = pure_same two
  known_same (Some name) at = and_then two
      (told two (λ here w. class_found w.environment name at) (λ here r. answered r)
      (λ first second v w alike f g. ap (λ m. class_found m name at) alike.environment) (λ r. answer_same two r))
      (λ c. pure_same two)

-- ---- `contain` and `require`

module _ (two : Two) where
  one_containment : (x : Containment) (first second : List LogLine) (v w : World) → AreAlike first second v w
      → AreSameRelations v.owners w.owners (with_containment x v.relations) (with_containment x w.relations)
  one_containment x first second v w alike = record {
    lines = alike.relations.lines;
    containments = ap (λ cs. cs ++ x ∷ []) alike.relations.containments;
    applied = alike.relations.applied;
    collectors = alike.relations.collectors;
  }

  one_line : (x : RelationLine) (first second : List LogLine) (v w : World) → AreAlike first second v w
      → AreSameRelations v.owners w.owners (with_line x v.relations) (with_line x w.relations)
  one_line x first second v w alike = record {
    lines = ap (λ ls. ls ++ x ∷ []) alike.relations.lines;
    containments = alike.relations.containments;
    applied = alike.relations.applied;
    collectors = alike.relations.collectors;
  }

  put_containment : (x : Containment) → Same {A = Unit {0}} two (λ here w. Ok (tt, record w { relations = with_containment x w.relations }))
  put_containment x = record {
    comes = λ first second v w alike f g. gives tt first second v w
        (record v { relations = with_containment x v.relations }) (record w { relations = with_containment x w.relations })
        refl refl (with_same_relations alike (with_containment x v.relations) (with_containment x w.relations)
        (one_containment x first second v w alike));
  }

  pub put_line : (x : RelationLine) → Same {A = Unit {0}} two (λ here w. Ok (tt, record w { relations = with_line x w.relations }))
  put_line x = record {
    comes = λ first second v w alike f g. gives tt first second v w
        (record v { relations = with_line x v.relations }) (record w { relations = with_line x w.relations })
        refl refl (with_same_relations alike (with_line x v.relations) (with_line x w.relations)
        (one_line x first second v w alike));
  }

  resource_same : (first second : List LogLine) (v w : World) → AreAlike first second v w
      → OwnersGoOn two.first v.owners → OwnersGoOn two.second w.owners
      → (owner_at two.left.owner v.owners).resource ≡ (owner_at two.right.owner w.owners).resource
  resource_same first second v w alike f g = ap (λ (o : Owner). o.resource) (owner_same two first second v w alike f g)

  contain_by_same : (number : Option ℕ) → Same two (λ here. contain_by number here)
  contain_by_same None = pure_same two
  contain_by_same (Some number) = told two (λ here w. (owner_at here.owner w.owners).resource)
      (λ here outer w. Ok (tt, record w { relations = with_containment (record { outer = outer; inner = number }) w.relations }))
      resource_same (λ outer. put_containment (record { outer = outer; inner = number }))

  require_by_same : (item : Option Declared) (class : Reference) (at : Place) → Same two (λ here. require_by item class at)
  require_by_same None class at = pure_same two
  require_by_same (Some item) class at = put_line (before class item at)

  relate_same : (f : Including) (c : Class) (at : Place) → Same two (λ here. relate_rule f c at here)
  unfolding relate_rule
  relate_same including.Include c at = pure_same two
  relate_same including.Contain c at = told two (λ here w. number_of (class_reference (class_name c)) w.book)
      (λ here number. contain_by number here)
      (λ first second v w alike f g. ap (λ b. number_of (class_reference (class_name c)) b) alike.book) contain_by_same
  relate_same including.Require c at = told two
      (λ here w. item_at w.book (owner_at here.owner w.owners).resource)
      (λ here item. require_by item (class_reference (class_name c)) at)
      (λ first second v w alike f g.
      ap (λ b. item_at b (owner_at two.left.owner v.owners).resource) alike.book
      ∙ ap (λ n. item_at w.book n) (resource_same first second v w alike f g))
      (λ item. require_by_same item (class_reference (class_name c)) at)

module _ (inner : Inner) (same : SameInner inner) where
  class_body_same : (o p : Owners) (l k : Listed) → IsSameListed o p l k → (first second : List LogLine) (v w : World)
      → AreAlike first second v w → OwnersGoOn o v.owners → OwnersGoOn p w.owners
      → Comes Equal first second v w (inner.class l.number l.line l.here v) (inner.class k.number k.line k.here w)
  class_body_same o p l k one first second v w alike f g =
      subst (λ n. Comes Equal first second v w (inner.class l.number l.line l.here v) (inner.class n k.line k.here w))
      one.number
      (subst (λ n. Comes Equal first second v w (inner.class l.number l.line l.here v) (inner.class l.number n k.here w))
      one.line ((same.class l.number l.line (listed_two o p l k one)).comes first second v w alike f g))

  runs_same : (o p : Owners) (ls ks : List Listed) → AreSameListed o p ls ks → (first second : List LogLine)
      (v w : World) → AreAlike first second v w → OwnersGoOn o v.owners → OwnersGoOn p w.owners
      → Comes Equal first second v w (run_all inner ls v) (run_all inner ks w)
  unfolding run_all AreSameListed
  runs_same o p [] [] all first second v w alike f g = gives tt first second v w v w refl refl alike
  runs_same o p [] (k ∷ ks) all first second v w alike f g = absurd all
  runs_same o p (l ∷ ls) [] all first second v w alike f g = absurd all
  runs_same o p (l ∷ ls) (k ∷ ks) all first second v w alike f g =
      bind_like Equal Equal (λ d. run_all inner ls) (λ d. run_all inner ks) first second v w
      (inner.class l.number l.line l.here v) (inner.class k.number k.line k.here w)
      (class_body_same o p l k all.0 first second v w alike f g)
      (λ a b x y there r s eq. runs_same o p ls ks all.1 first second x y there (owners_on f r) (owners_on g s))

  module _ (two : Two) where
    chain_same : (chain : Chain) (given : List Setting) (at : Place)
        → Same two (λ here. chain_declared inner chain given at here.owner)
    unfolding chain_declared
    chain_same chain given at = and_then two (chain_scopes_same two chain) (λ es.
        and_then_like two AreSameListed Equal (λ here ls. known_parent chain.parent at >> run_all inner ls)
        (record {
          comes = λ first second v w alike f g.
              lists_same es given at two [] [] (none_listed two.first two.second) first second v w alike f g;
        })
        (λ first second ls ks x y alike r s all.
        bind_like Equal Equal (λ u. run_all inner ls) (λ u. run_all inner ks) first second x y
        (known_parent chain.parent at x) (known_parent chain.parent at y)
        ((known_same two chain.parent at).comes first second x y alike r s)
        (λ a b x2 y2 alike2 r2 s2 eq.
        runs_same x.owners y.owners ls ks all first second x2 y2 alike2 r2 s2)))

    chain_found_same : (c : Class) (first second : List LogLine) (v w : World) → AreAlike first second v w
        → chain_from (longest_way v.environment) [] (class_name c) c v.environment v.book
        ≡ chain_from (longest_way w.environment) [] (class_name c) c w.environment w.book
    chain_found_same c first second v w alike =
        ap (λ m. chain_from (longest_way m) [] (class_name c) c m v.book) alike.environment
        ∙ ap (λ b. chain_from (longest_way w.environment) [] (class_name c) c w.environment b) alike.book

    pub class_declared_same : (c : Class) (given : List Setting) (at : Place)
        → Same two (λ here. class_declared inner c given at here.owner)
    unfolding class_declared
    class_declared_same c given at = told two
        (λ here w. chain_from (longest_way w.environment) [] (class_name c) c w.environment w.book)
        (λ here chain. chain_declared inner chain given at here.owner)
        (λ first second v w alike f g. chain_found_same c first second v w alike)
        (λ chain. chain_same chain given at)

    -- ---- `include`, `contain` and `require`

    unless_same : (b : Bool) (c : Class) (at : Place) → Same two (λ here. unless_there b inner c at here.owner)
    unless_same true c at = pure_same two
    unless_same false c at = class_declared_same c [] at

    pub once_same : (c : Class) (at : Place) → Same two (λ here. declared_once inner c at here.owner)
    unfolding declared_once
    once_same c at = told two (λ here w. is_declared (class_name c) w.book)
        (λ here there. unless_there there inner c at here.owner)
        (λ first second v w alike f g. ap (λ b. is_declared (class_name c) b) alike.book)
        (λ there. unless_same there c at)

    include_same : (f : Including) (name : List ℕ) (at : Place) → Same two (λ here. include_rule inner f name at here)
    unfolding include_rule
    include_same f name at = and_then two
        (told two (λ here w. class_found w.environment name at) (λ here r. answered r)
        (λ first second v w alike o p. ap (λ m. class_found m name at) alike.environment) (λ r. answer_same two r))
        (λ c. and_then two (once_same c at) (λ u. relate_same two f c at))

    includes_same : (f : Including) (names : List (List ℕ)) (at : Place)
        → Same two (λ here. include_from inner f names at here)
    unfolding include_from
    includes_same f [] at = pure_same two
    includes_same f (name ∷ names) at = and_then two (include_same f name at) (λ u. includes_same f names at)

    include_names_same : (f : Including) (names : List (List ℕ)) (line : ℕ)
        → Same two (λ here. include_names inner f names line here)
    unfolding include_names
    include_names_same f names line = and_then two
        (told two (λ here w. place_at w here line) (λ here at. include_from inner f names at here)
        (λ first second v w alike o p. place_same two first second v w alike o p line) (λ at. includes_same f names at))
        (λ u. pure_same two)

    included_by_same : (f : Including) (written : List ℕ) (names : Option (List (List ℕ))) (line : ℕ)
        → Same two (λ here. included_by inner f written names line here)
    included_by_same f written None line = fault_here two line _
    included_by_same f written (Some names) line = include_names_same f names line

    pub included_same : (f : Including) (written : List ℕ) (arguments : List Datum) (line : ℕ)
        → Same two (λ here. included inner f written arguments line here)
    unfolding included
    included_same f written arguments line = included_by_same f written (names_asked arguments) line

-- ---- parameters and bodies

abbrev said : ℕ → State → List Row → List Setting
said number s b = unwrap_or (option_map (attributes_of s) (slice_get b number)) []

module _ (two : Two) where
  data_by_same : (b : Bool) (of : Reference) (x : List ℕ) (at : Place) → Same two (λ own. data_by b of x at)
  data_by_same false of x at = pure_same two
  data_by_same true of x at = look_up_same two 0 _ None at

  or_else_same : (v : Option Datum) (p : Here → Step Datum) → Same two p → Same two (λ own. or_else v (p own))
  or_else_same None p f = f
  or_else_same (Some v) p f = pure_same two

  keep_same : (number : ℕ) (bound : List Setting) → Same two (λ own. keep number bound)
  keep_same number bound = record {
    comes = λ first second v w alike f g. gives tt first second v w
        (record v { book = with_bound number bound v.book }) (record w { book = with_bound number bound w.book })
        refl refl (with_same_book alike (with_bound number bound v.book) (with_bound number bound w.book)
        (ap (λ b. with_bound number bound b) alike.book));
  }

-- within the type of a parameter
typed_two : Two → Two
typed_two two = record {
  left = within_type two.left;
  right = within_type two.right;
  first = two.first;
  second = two.second;
  same = record { scope = two.same.scope; typed = refl; owner = two.same.owner };
}

module _ (inner : Inner) (same : SameInner inner) (two : Two) where
  default_same : (o : Option Expr) (of : Reference) (x : List ℕ) (at : Place)
      → Same two (λ own. default_rule inner o of x at own)
  default_same None of x at = fault_same two (λ own w. faults.fault at (what.MissingParameter of x))
      (λ first second v w alike f g. refl)
  default_same (Some e) of x at = same.value e two

  data_same : (p : Param Expr) (of : Reference) (at : Place) → Same two (λ own. data_or_default inner p of at own)
  unfolding data_or_default
  data_same p of at = and_then two (data_by_same two (is_class of) of p.name at)
      (λ found. or_else_same two (counted found) (λ own. default_rule inner p.default of p.name at own)
      (default_same p.default of p.name at))

  value_same : (given : Given) (p : Param Expr) (of : Reference) (at : Place)
      → Same two (λ own. value_rule inner given p of at own)
  unfolding value_rule
  value_same given p of at = or_else_same two (counted (given p.name)) (λ own. data_or_default inner p of at own)
      (data_same p of at)

  pub type_same : (kind : Expr) (value : Datum) → Same two (λ own. has_type inner kind value own)
  unfolding has_type typed_two
  type_same kind value = and_then two
      (record {
        comes = λ first second v w alike f g.
            (same.value kind (typed_two two)).comes first second v w alike f g;
      })
      (λ of_kind. told two (λ own w. place_at w own (line_of kind)) (λ own at. answered (is_of value of_kind at))
      (λ first second v w alike f g. place_same two first second v w alike f g (line_of kind))
      (λ at. answer_same two (is_of value of_kind at)))

  pub typed_same : (kind : Option Expr) (v : Datum) (x : List ℕ) (at : Place)
      → Same two (λ own. typed inner kind v x at own)
  typed_same None v x at = pure_same two
  typed_same (Some kind) v x at = and_then two (type_same kind v) (λ fits. answer_same two _)

  bind_same : (given : Given) (done : List Setting) (p : Param Expr) (of : Reference) (at : Place)
      → Same two (λ own. bind_rule inner given done p of at own)
  unfolding bind_rule
  bind_same given done p of at = and_then two (value_same given p of at) (λ v.
      and_then two (typed_same p.kind v p.name at) (λ u. and_then two (assign_same two p.name v p.at) (λ u. pure_same two)))

  binds_same : (given : Given) (done : List Setting) (ps : List (Param Expr)) (of : Reference) (at : Place)
      → Same two (λ own. bind_from inner given done ps of at own)
  unfolding bind_from
  binds_same given done [] of at = pure_same two
  binds_same given done (p ∷ ps) of at = and_then two (bind_same given done p of at) (λ more. binds_same given more ps of at)

  pub body_same : (given : Given) (of : Reference) (at : Place) (params : List (Param Expr)) (block : List Statement)
      (number line : ℕ) → Same two (λ own. body_rule inner given of at params block number line own)
  unfolding body_rule
  body_same given of at params block number line = and_then two (binds_same given [] params of at) (λ bound.
      and_then two (keep_same two number bound) (λ u. same.block block line two))

  class_body_is : (given : List Setting) (of : Reference) (at : Place) (number line : ℕ)
      → Same two (λ own. class_body inner given of at number line own)
  unfolding class_body
  class_body_is given of at number line = and_then two
      (told two (λ own w. class_found w.environment of.title at) (λ own r. answered r)
      (λ first second v w alike f g. ap (λ m. class_found m of.title at) alike.environment) (λ r. answer_same two r))
      (λ c. body_same (set_in given) of at c.params c.block number line)

  class_by_same : (item : Option Declared) (number line : ℕ) → Same two (λ own. class_by inner item number line own)
  class_by_same None number line = pure_same two
  class_by_same (Some item) number line = class_body_is _ _ _ number line

  pub class_same : (number line : ℕ) → Same two (λ own. class_rule inner number line own)
  unfolding class_rule
  class_same number line = told two (λ own w. item_at w.book number) (λ own item. class_by inner item number line own)
      (λ first second v w alike f g. ap (λ b. item_at b number) alike.book) (λ item. class_by_same item number line)

  instance_body_is : (given : List Setting) (of : Reference) (at : Place) (number line : ℕ)
      → Same two (λ own. instance_body inner given of at number line own)
  unfolding instance_body
  instance_body_is given of at number line = and_then two
      (told two (λ own w. define_found w.environment of.kind at) (λ own r. answered r)
      (λ first second v w alike f g. ap (λ m. define_found m of.kind at) alike.environment) (λ r. answer_same two r))
      (λ d. and_then two
      (told two (λ own w. module_of w.environment of.kind) (λ own home. names_rule of.title home line own)
      (λ first second v w alike f g. ap (λ m. module_of m of.kind) alike.environment)
      (λ home. names_same two of.title home line))
      (λ u. body_same (set_in given) of at d.params d.block number line))

  instance_by_same : (item : Option Declared) (number line : ℕ) → Same two (λ own. instance_by inner item number line own)
  instance_by_same None number line = pure_same two
  instance_by_same (Some item) number line = told two (λ own w. attributes_at w number)
      (λ own given. instance_body inner given (reference_of item) item.at number line own)
      (λ first second v w alike f g. ap (λ s. said number s v.book) alike.overrides
      ∙ ap (λ b. said number w.overrides b) alike.book)
      (λ given. instance_body_is given (reference_of item) item.at number line)

  pub instance_same : (number line : ℕ) → Same two (λ own. instance_rule inner number line own)
  unfolding instance_rule
  instance_same number line = told two (λ own w. item_at w.book number)
      (λ own item. instance_by inner item number line own)
      (λ first second v w alike f g. ap (λ b. item_at b number) alike.book) (λ item. instance_by_same item number line)
