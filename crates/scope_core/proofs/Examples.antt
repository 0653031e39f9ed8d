-- The definitions at worked examples.
use Rattle.std.proofs.Common.{◌≡◌, ℕ, pos, [], ◌∷◌, None, Some, Ok, Err, refl, length}
use Rattle.std.specs.Prelude.{codes}
use Rattle.pp_values.specs.Datum.{int}
use Rattle.pp_values.specs.Faults.{fault}
use Rattle.pp_values.specs.declared.fault.What.TheVariants as what
use Rattle.pp_values.specs.declared.place.Place.{Place}
use Rattle.scope_core.specs.Names.{Name, cut, last_cut, value_of, with_value, without_front_colons, value_of_class}
use Rattle.scope_core.specs.Scopes.{Scopes, top_alone, entered, left, read, found, seen_from, assign, with_name}
use Rattle.scope_core.specs.declared.scope_kind.ScopeKind.TheVariants as k

-- ---- names

plain_name : cut (codes "x") ≡ None
unfolding last_cut
plain_name = refl

name_of_top : cut (codes "::x") ≡ Some ([], codes "x")
unfolding last_cut
name_of_top = refl

name_of_class : cut (codes "a::b::x") ≡ Some (codes "a::b", codes "x")
unfolding last_cut
name_of_class = refl

name_of_class_from_top : cut (codes "::a::x") ≡ Some (codes "::a", codes "x")
unfolding last_cut
name_of_class_from_top = refl

one_colon : cut (codes "a:x") ≡ None
unfolding last_cut
one_colon = refl

three_colons : cut (codes "a:::x") ≡ Some (codes "a:", codes "x")
unfolding last_cut
three_colons = refl

name_without_end : cut (codes "a::") ≡ Some (codes "a", [])
unfolding last_cut
name_without_end = refl

no_name : cut [] ≡ None
unfolding last_cut
no_name = refl

front_colons : without_front_colons (codes "::a::b") ≡ codes "a::b"
front_colons = refl

no_front_colons : without_front_colons (codes "a::b") ≡ codes "a::b"
no_front_colons = refl

names_in_order : with_value {T = ℕ} (codes "b") 2 (with_value (codes "c") 3 (with_value (codes "a") 1 []))
    ≡ (codes "a", 1) ∷ (codes "b", 2) ∷ (codes "c", 3) ∷ []
names_in_order = refl

names_with_case : value_of {T = ℕ} (codes "A") ((codes "a", 1) ∷ []) ≡ None
names_with_case = refl

class_without_case : value_of_class {T = ℕ} (codes "::A::b") ((codes "a::b", 1) ∷ []) ≡ Some 1
class_without_case = refl

-- ---- a compile: top scope 0 has x, y, z, t and facts; class a is 1, entered before the node's scope, which is 2;
-- class b, of parent a, is 3; an instance is 4, entered from b; a lambda's call in the instance is 5, and one within it 6

abbrev at : Place
at = record { file = codes "manifests/site.pp"; line = 7 }

abbrev x : Name
x = codes "x"

abbrev y : Name
y = codes "y"

abbrev z : Name
z = codes "z"

abbrev t : Name
t = codes "t"

abbrev u : Name
u = codes "u"

abbrev with_top : Scopes
with_top =
    with_name 0 (codes "facts") (int (pos 9)) (with_name 0 t (int (pos 1)) (with_name 0 z (int (pos 1))
    (with_name 0 y (int (pos 1)) (with_name 0 x (int (pos 1)) top_alone))))

abbrev with_a : Scopes
with_a = with_name 1 y (int (pos 2)) (with_name 1 x (int (pos 2)) (entered (k.Class (codes "a")) 0 with_top))

abbrev with_node : Scopes
with_node = with_name 2 z (int (pos 3)) (with_name 2 x (int (pos 3)) (entered k.Node 0 with_a))

abbrev with_b : Scopes
with_b = with_name 3 x (int (pos 4)) (entered (k.Class (codes "b")) 1 with_node)

abbrev with_instance : Scopes
with_instance = with_name 4 u (int (pos 5)) (entered k.Instance 3 with_b)

abbrev all : Scopes
all = with_name 6 x (int (pos 7)) (entered k.Lambda 5 (with_name 5 y (int (pos 6)) (entered k.Lambda 4 with_instance)))

-- numbers in order
next_number : length all.scopes ≡ 7
next_number = refl

node_number : all.node ≡ 2
node_number = refl

-- own names come first
own_first : read 3 x at all ≡ Ok (int (pos 4))
unfolding read found last_cut seen_from
own_first = refl

-- then a class's parent
class_reads_parent : read 3 y at all ≡ Ok (int (pos 2))
unfolding read found last_cut seen_from
class_reads_parent = refl

-- then the node's scope, also for a class that was entered before it
class_reads_node : read 3 z at all ≡ Ok (int (pos 3))
unfolding read found last_cut seen_from
class_reads_node = refl

earlier_class_reads_node : read 1 z at all ≡ Ok (int (pos 3))
unfolding read found last_cut seen_from
earlier_class_reads_node = refl

-- then top
class_reads_top : read 3 t at all ≡ Ok (int (pos 1))
unfolding read found last_cut seen_from
class_reads_top = refl

-- before there is a node's scope, top is next
class_reads_top_before_node : read 1 z at with_a ≡ Ok (int (pos 1))
unfolding read found last_cut seen_from
class_reads_top_before_node = refl

-- the node's scope reads top
node_reads_top : read 2 y at all ≡ Ok (int (pos 1))
unfolding read found last_cut seen_from
node_reads_top = refl

-- an instance reads the node's scope, not that of the class it was entered from
instance_reads_node : read 4 x at all ≡ Ok (int (pos 3))
unfolding read found last_cut seen_from
instance_reads_node = refl

instance_reads_no_caller : read 4 y at all ≡ Ok (int (pos 1))
unfolding read found last_cut seen_from
instance_reads_no_caller = refl

-- nor does a class that is entered from an instance read it
class_reads_no_caller : read 7 u at (entered (k.Class (codes "c")) 4 all) ≡ Err (fault at (what.UnknownVariable u))
unfolding read found last_cut seen_from
class_reads_no_caller = refl

-- a lambda reads the scope that it is within, and so on outwards
lambda_reads_enclosing : read 6 y at all ≡ Ok (int (pos 6))
unfolding read found last_cut seen_from
lambda_reads_enclosing = refl

lambda_reads_outermost : read 6 u at all ≡ Ok (int (pos 5))
unfolding read found last_cut seen_from
lambda_reads_outermost = refl

-- `$::x` is top's
top_is_read : read 6 (codes "::x") at all ≡ Ok (int (pos 1))
unfolding read found last_cut seen_from
top_is_read = refl

top_alone_is_read : read 4 (codes "::u") at all ≡ Err (fault at (what.UnknownVariable (codes "::u")))
unfolding read found last_cut seen_from
top_alone_is_read = refl

-- `$c::x` is what the class's scope reads
class_is_read : read 4 (codes "b::x") at all ≡ Ok (int (pos 4))
unfolding read found last_cut seen_from
class_is_read = refl

class_is_read_from_top : read 4 (codes "::b::x") at all ≡ Ok (int (pos 4))
unfolding read found last_cut seen_from
class_is_read_from_top = refl

class_in_capitals : read 4 (codes "B::x") at all ≡ Ok (int (pos 4))
unfolding read found last_cut seen_from
class_in_capitals = refl

class_reads_on : read 4 (codes "b::y") at all ≡ Ok (int (pos 2))
unfolding read found last_cut seen_from
class_reads_on = refl

class_reads_the_node_on : read 0 (codes "b::z") at all ≡ Ok (int (pos 3))
unfolding read found last_cut seen_from
class_reads_the_node_on = refl

-- a class that was not entered has no names
class_unknown : read 4 (codes "d::x") at all ≡ Err (fault at (what.UnknownVariable (codes "d::x")))
unfolding read found last_cut seen_from
class_unknown = refl

-- names keep their case
case_counts : read 0 (codes "X") at all ≡ Err (fault at (what.UnknownVariable (codes "X")))
unfolding read found last_cut seen_from
case_counts = refl

-- ---- setting

set_once : assign 2 y (int (pos 8)) at all ≡ Ok (with_name 2 y (int (pos 8)) all)
unfolding assign
set_once = refl

set_twice : assign 2 x (int (pos 8)) at all ≡ Err (fault at (what.Reassigned x))
unfolding assign
set_twice = refl

facts_stay : assign 6 (codes "facts") (int (pos 8)) at all ≡ Err (fault at (what.Reassigned (codes "facts")))
unfolding assign
facts_stay = refl

trusted_stays : assign 2 (codes "trusted") (int (pos 8)) at (with_name 0 (codes "trusted") (int (pos 9)) all)
    ≡ Err (fault at (what.Reassigned (codes "trusted")))
unfolding assign
trusted_stays = refl

facts_are_set : assign 0 (codes "facts") (int (pos 8)) at top_alone
    ≡ Ok (with_name 0 (codes "facts") (int (pos 8)) top_alone)
unfolding assign
facts_are_set = refl

trusted_goes_where_top_has_none : assign 6 (codes "trusted") (int (pos 8)) at all
    ≡ Ok (with_name 6 (codes "trusted") (int (pos 8)) all)
unfolding assign
trusted_goes_where_top_has_none = refl

-- ---- leaving

lambda_ends : read 6 x at (left 6 all) ≡ Err (fault at (what.UnknownVariable x))
unfolding read found last_cut seen_from
lambda_ends = refl

others_stay : read 5 y at (left 6 all) ≡ Ok (int (pos 6))
unfolding read found last_cut seen_from
others_stay = refl

instances_stay : left 4 all ≡ all
instances_stay = refl

-- the last scope goes, and the next one has its number and none of its names
last_goes : length (left 6 all).scopes ≡ 6
last_goes = refl

number_is_given_again : length (entered k.Lambda 5 (left 6 all)).scopes ≡ 7
number_is_given_again = refl

new_one_has_no_names : read 6 x at (entered k.Lambda 5 (left 6 all)) ≡ Ok (int (pos 3))
unfolding read found last_cut seen_from
new_one_has_no_names = refl

-- one that others stand behind stays, without names
one_between_stays : length (left 5 all).scopes ≡ 7
one_between_stays = refl

one_between_has_no_names : read 5 y at (left 5 all) ≡ Err (fault at (what.UnknownVariable y))
unfolding read found last_cut seen_from
one_between_has_no_names = refl

-- a class that is entered in a lambda's call stays behind it
class_stays : read 7 x at (left 6 (with_name 7 x (int (pos 8)) (entered (k.Class (codes "c")) 0 all)))
    ≡ Ok (int (pos 8))
unfolding read found last_cut seen_from
class_stays = refl
