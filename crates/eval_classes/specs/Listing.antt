-- Declaring a class. It is listed, then its parents are, from the nearest on; then they are evaluated, from the last
-- parent on.
use Rattle.std.specs.Prelude.{ℕ, zero, suc, ◌+◌, Bool, false, if◌then◌else◌, List, [], ◌∷◌, length}
use Rattle.std.specs.Prelude.{Option, None, Some, is_some, unwrap_or, Ok, codes}
use Rattle.pp_tree.specs.declared.definition.Class.{Class}
use Rattle.pp_values.specs.Settings.{Setting}
use Rattle.pp_values.specs.declared.place.Place.{Place}
use Rattle.pp_values.specs.declared.reference.Reference.{Reference}
use Rattle.override_rules.specs.Meaning.{scope_opened}
use Rattle.res_book.specs.Rows.{number_of}
use Rattle.res_book.specs.declared.mode.Mode.TheVariants as mode
use Rattle.res_book.specs.declared.row.Row.{Row}
use Rattle.res_core.specs.TagNames.{tags}
use Rattle.res_core.specs.declared.declared.Declared.{Declared}
use Rattle.res_core.specs.declared.resource.Resource.{Resource}
use Rattle.scope_core.specs.Names.{value_of_class}
use Rattle.scope_core.specs.Scopes.{entered}
use Rattle.scope_core.specs.declared.scope_kind.ScopeKind.TheVariants as kind
use Rattle.eval_world.specs.Inner.{Inner}
use Rattle.eval_world.specs.Outcomes.{Step, ◌>>=◌, ◌>>◌, pure, answered}
use Rattle.eval_world.specs.Owners.{owner_at, with_owner}
use Rattle.eval_world.specs.Environment.{Environment}
use Rattle.eval_world.specs.Worlds.{put}
use Rattle.eval_world.specs.declared.owner.Owner.{Owner}
use Rattle.eval_world.specs.declared.world.World.{World}
use Rattle.eval_classes.specs.declared.listed.Listed.{Listed}
use Rattle.eval_classes.specs.Stacks.{Chain, Entered, chain_of}
use Rattle.eval_classes.specs.Attributes.{given_tags, tags_in}
use Rattle.eval_classes.specs.Definitions.{class_found, class_name, class_source, class_told, definition_of, file_of}
use Rattle.eval_classes.specs.Definitions.{longest_way, module_of, param_names, parent_of}
use Rattle.eval_classes.specs.OwnNames.{names_rule}

-- ---- which classes are declared

abbrev pub class_reference : List ℕ → Reference
class_reference name = record { kind = codes "class"; title = name }

abbrev pub is_declared : List ℕ → List Row → Bool
is_declared name book = is_some (number_of (class_reference name) book)

-- ---- the declaration

-- Its tags are its own and those of the resource in whose scope it is declared. No resource contains it but by
-- `contain`.
abbrev pub class_resource : Owner → List Row → Class → List Setting → Resource
class_resource from book c given = record {
  kind = codes "class";
  title = class_name c;
  attributes = given;
  tags = tags (codes "class") (class_name c) (given_tags given) (tags_in (Some from.resource) book);
}

abbrev pub class_item : Owner → List Row → Class → List Setting → Place → Declared
class_item from book c given at = record {
  item = class_resource from book c given;
  at = at;
  scope = from.scope;
  container = None;
  class = from.source;
  known = param_names c.params;
}

-- it is put into the book: F14, F28; its number
unfoldable pub declare_rule : Class → List Setting → Place → ℕ → Step ℕ
declare_rule c given at from = λ w. put (class_item (owner_at from w.owners) w.book c given at) mode.Plain w

-- ---- which classes are declared together

-- the parent, where it is a class of the site that is not declared yet
abbrev pub unless_there : List Row → Class → Option Class
unless_there book c = if is_declared (class_name c) book then None else Some c

abbrev pub unless_declared : List Row → Option Class → Option Class
unless_declared book None = None
unless_declared book (Some c) = unless_there book c

abbrev pub class_at : Environment → Option (List ℕ) → Option Class
class_at m None = None
class_at m (Some name) = class_told (definition_of m name)

-- the parent of this name, which is a class of the site, or else none is left
abbrev pub or_done : Option Class → Chain → (Class → Chain) → Chain
or_done None done further = done
or_done (Some c) done further = further c

abbrev pub parent_or_done : Option (List ℕ) → Environment → List Row → Chain → (List ℕ → Class → Chain) → Chain
parent_or_done None m book done further = done
parent_or_done (Some name) m book done further =
    or_done (unless_declared book (class_at m (Some name))) done (further name)

-- a class of this name behind those that are there, and then its parents
unfoldable pub chain_from : ℕ → List Class → List ℕ → Class → Environment → List Row → Chain
chain_from zero before name c m book = chain_of c before (parent_of m name c)
chain_from (suc left) before name c m book =
    parent_or_done (parent_of m name c) m book (chain_of c before (parent_of m name c))
    (λ parent p. chain_from left (c ∷ before) parent p m book)

-- ---- their scopes

-- The scope that a class is entered from: that of its parent, which is declared already and which `$c::x` reads by its
-- name, or else top scope.
abbrev pub outer_scope : Option (List ℕ) → World → ℕ
outer_scope None w = 0
outer_scope (Some name) w = unwrap_or (value_of_class name w.scopes.classes) 0

abbrev pub with_class_scope : Class → ℕ → World → World
with_class_scope c parent w = record w { scopes = entered (kind.Class (class_name c)) parent w.scopes }

-- its number
unfoldable pub enter_scope : Class → ℕ → Step ℕ
enter_scope c parent = λ w. Ok (length w.scopes.scopes, with_class_scope c parent w)

-- each is entered from the scope of the one before, which is its parent
unfoldable pub enter_all : List Class → ℕ → List Entered → Step (List Entered)
enter_all [] parent done = pure done
enter_all (c ∷ cs) parent done = do
  scope ← enter_scope c parent
  enter_all cs scope ((c, scope) ∷ done)

-- The last parent is entered first, from the scope of its own parent, or else from top scope.
unfoldable pub enter_chain : Chain → Step (List Entered)
enter_chain chain = do
  scope ← (λ w. enter_scope chain.last (outer_scope chain.parent w) w)
  enter_all chain.before scope ((chain.last, scope) ∷ [])

-- ---- listing

abbrev pub class_owner : Environment → Class → ℕ → ℕ → Owner
class_owner m c number scope = record {
  file = file_of m (class_name c);
  source = class_source (class_name c);
  resource = number;
  scope = scope;
}

-- what the class declares belongs to a new owner, and the dynamic parent of its scope is the scope that declares it
unfoldable pub own_rule : Class → ℕ → ℕ → ℕ → Step Listed
own_rule c scope number from = λ w. Ok (
  record {
    number = number;
    line = c.at;
    here = record { scope = record { number = scope }; owner = length w.owners.others + 1; typed = false };
  },
  record w {
    overrides = scope_opened scope (Some (owner_at from w.owners).scope) w.overrides;
    owners = with_owner (class_owner w.environment c number scope) w.owners;
  },
)

-- its names are set, before any body is evaluated
unfoldable pub class_names : List ℕ → Listed → Step (Unit {0})
class_names name l = λ w. names_rule name (module_of w.environment name) l.line l.here w

-- it is declared; its body is evaluated later
unfoldable pub list_rule : Entered → List Setting → Place → ℕ → Step Listed
list_rule e given at from = do
  number ← declare_rule e.0 given at from
  l ← own_rule e.0 e.1 number from
  class_names (class_name e.0) l
  pure l

-- One after another, each declared by the one before, and all at the place of the first. Only to the first is anything
-- given. The last one comes first in the answer.
unfoldable pub list_all : List Entered → List Setting → Place → ℕ → List Listed → Step (List Listed)
list_all [] given at from done = pure done
list_all (e ∷ es) given at from done = do
  l ← list_rule e given at from
  list_all es [] at l.here.owner (l ∷ done)

-- the parent of the last one is a class of the site, or F4
abbrev pub known_parent : Option (List ℕ) → Place → Step (Unit {0})
known_parent None at = pure tt
known_parent (Some name) at = do
  c ← (λ w. answered (class_found w.environment name at) w)
  pure tt

-- ---- evaluating

-- the bodies of these classes, in order
unfoldable pub run_all : Inner → List Listed → Step (Unit {0})
run_all inner [] = pure tt
run_all inner (l ∷ ls) = do
  inner.class l.number l.line l.here
  run_all inner ls

-- All are listed, from the class on; then all are evaluated, from the last parent on, each as deep as the class.
unfoldable pub chain_declared : Inner → Chain → List Setting → Place → ℕ → Step (Unit {0})
chain_declared inner chain given at from = do
  es ← enter_chain chain
  ls ← list_all es given at from []
  known_parent chain.parent at
  run_all inner ls

unfoldable pub class_declared : Inner → Class → List Setting → Place → ℕ → Step (Unit {0})
class_declared inner c given at from = λ w.
    chain_declared inner (chain_from (longest_way w.environment) [] (class_name c) c w.environment w.book) given at from w
