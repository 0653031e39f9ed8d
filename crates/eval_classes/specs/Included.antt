-- The functions `include`, `contain` and `require`.
use Rattle.std.specs.Prelude.{ℕ, Bool, true, false, if◌then◌else◌, List, [], ◌∷◌, ◌++◌, map, Option, None, Some}
use Rattle.std.specs.Prelude.{Ok, codes}
use Rattle.std.specs.Str.{bytes_eq}
use Rattle.pp_funcs.specs.Lists.{flat_members}
use Rattle.pp_tree.specs.Names.{normal}
use Rattle.pp_tree.specs.declared.definition.Class.{Class}
use Rattle.pp_values.specs.Datum as d
use Rattle.pp_values.specs.Datum.{Datum, data_of}
use Rattle.pp_values.specs.declared.fault.What.TheVariants as what
use Rattle.pp_values.specs.declared.place.Place.{Place}
use Rattle.pp_values.specs.declared.reference.Reference.{Reference}
use Rattle.res_book.specs.Relations.{with_containment, with_line}
use Rattle.res_book.specs.Rows.{item_at, number_of, reference_of}
use Rattle.res_book.specs.declared.relation_line.RelationLine.{RelationLine}
use Rattle.res_core.specs.declared.declared.Declared.{Declared}
use Rattle.res_core.specs.declared.operand.Operand.TheVariants as operand
use Rattle.eval_world.specs.Inner.{Inner}
use Rattle.eval_world.specs.Outcomes.{Step, ◌>>=◌, ◌>>◌, pure, answered}
use Rattle.eval_world.specs.Owners.{owner_at}
use Rattle.eval_world.specs.Worlds.{fault, place_at}
use Rattle.eval_world.specs.declared.here.Here.{Here}
use Rattle.eval_classes.specs.Definitions.{class_found, class_name}
use Rattle.eval_classes.specs.Listing.{class_declared, class_reference, is_declared}
use Rattle.eval_classes.specs.declared.including.Including.{Including}
use Rattle.eval_classes.specs.declared.including.Including.TheVariants as including

-- ---- which functions

abbrev pub including_of : List ℕ → Option Including
including_of f =
    if bytes_eq f (codes "include") then Some including.Include
    else if bytes_eq f (codes "contain") then Some including.Contain
    else if bytes_eq f (codes "require") then Some including.Require
    else None

-- ---- the names of classes

-- a text is a name, and a reference to a class is that of its title
abbrev pub class_in : Reference → Option (List ℕ)
class_in r = if bytes_eq r.kind (codes "class") then Some (normal r.title) else None

abbrev pub name_in : Datum → Option (List ℕ)
name_in (d.text t) = Some (normal t)
name_in (d.reference r) = class_in r
name_in _ = None

abbrev pub or_none : Option (List ℕ) → (List ℕ → Option (List (List ℕ))) → Option (List (List ℕ))
or_none None next = None
or_none (Some name) next = next name

-- the names in these values, behind those that are there; none where one is neither
unfoldable pub names_from : List (List ℕ) → List Datum → Option (List (List ℕ))
names_from done [] = Some done
names_from done (x ∷ xs) = or_none (name_in x) (λ name. names_from (done ++ name ∷ []) xs)

-- one argument or more, of which lists are flattened
abbrev pub names_asked : List Datum → Option (List (List ℕ))
names_asked [] = None
names_asked (x ∷ xs) = names_from [] (flat_members (data_of (x ∷ xs)))

-- ---- what they do

-- the resource of the scope contains the class
abbrev pub contain_by : Option ℕ → Here → Step (Unit {0})
contain_by None here = pure tt
contain_by (Some number) here = λ w. Ok (
  tt,
  record w {
    relations = with_containment (record {
      outer = (owner_at here.owner w.owners).resource;
      inner = number;
    }) w.relations;
  },
)

-- The class comes before the resource of the scope.
abbrev pub before : Reference → Declared → Place → RelationLine
before class item at = record {
  left = operand.One class ∷ [];
  right = operand.One (reference_of item) ∷ [];
  signal = false;
  at = at;
}

-- a number of no declaration stands for none
abbrev pub require_by : Option Declared → Reference → Place → Step (Unit {0})
require_by None class at = pure tt
require_by (Some item) class at = λ w. Ok (tt, record w { relations = with_line (before class item at) w.relations })

-- what the function tells of the class and the resource of the scope
unfoldable pub relate_rule : Including → Class → Place → Here → Step (Unit {0})
relate_rule including.Include c at here = pure tt
relate_rule including.Contain c at here = λ w. contain_by (number_of (class_reference (class_name c)) w.book) here w
relate_rule including.Require c at here = λ w.
    require_by (item_at w.book (owner_at here.owner w.owners).resource) (class_reference (class_name c)) at w

-- a class that is declared already stays as it is
abbrev pub unless_there : Bool → Inner → Class → Place → ℕ → Step (Unit {0})
unless_there true inner c at from = pure tt
unless_there false inner c at from = class_declared inner c [] at from

unfoldable pub declared_once : Inner → Class → Place → ℕ → Step (Unit {0})
declared_once inner c at from = λ w. unless_there (is_declared (class_name c) w.book) inner c at from w

-- the class of a name, or F4
unfoldable pub include_rule : Inner → Including → List ℕ → Place → Here → Step (Unit {0})
include_rule inner f name at here = do
  c ← (λ w. answered (class_found w.environment name at) w)
  declared_once inner c at here.owner
  relate_rule f c at here

-- one class after another
unfoldable pub include_from : Inner → Including → List (List ℕ) → Place → Here → Step (Unit {0})
include_from inner f [] at here = pure tt
include_from inner f (name ∷ names) at here = do
  include_rule inner f name at here
  include_from inner f names at here

abbrev pub reference_to : List ℕ → Datum
reference_to name = d.reference (class_reference name)

abbrev pub references : List (List ℕ) → Datum
references names = d.list (data_of (map reference_to names))

-- their value is the list of references to the classes
unfoldable pub include_names : Inner → Including → List (List ℕ) → ℕ → Here → Step Datum
include_names inner f names line here = do
  (λ w. include_from inner f names (place_at w here line) here w)
  pure (references names)

abbrev pub refused : List ℕ → ℕ → Here → Step Datum
refused written line here = fault here line (what.WrongArguments written)

abbrev pub included_by : Inner → Including → List ℕ → Option (List (List ℕ)) → ℕ → Here → Step Datum
included_by inner f written None line here = refused written line here
included_by inner f written (Some names) line here = include_names inner f names line here

-- All arguments are looked at before the first class is declared: F7.
unfoldable pub included : Inner → Including → List ℕ → List Datum → ℕ → Here → Step Datum
included inner f written arguments line here = included_by inner f written (names_asked arguments) line here
