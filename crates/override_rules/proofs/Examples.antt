-- The definitions at worked examples. Each line holds by computing.
use Rattle.std.proofs.Common.{◌≡◌, ℕ, Bool, true, false, List, [], ◌∷◌, Option, None, Some, Ok, Err, refl, codes}
use Rattle.pp_values.specs.Datum as d
use Rattle.pp_values.specs.Datum.{Datum, data_of}
use Rattle.pp_values.specs.Faults.{fault}
use Rattle.pp_values.specs.Settings.{Setting}
use Rattle.pp_values.specs.declared.fault.Fault.{Fault}
use Rattle.pp_values.specs.declared.fault.Subject.TheVariants as subject
use Rattle.pp_values.specs.declared.fault.What.TheVariants as what
use Rattle.pp_values.specs.declared.place.Place.{Place}
use Rattle.pp_values.specs.declared.reference.Reference.{Reference}
use Rattle.res_book.specs.declared.mode.Mode.{Mode}
use Rattle.res_book.specs.declared.mode.Mode.TheVariants as mode
use Rattle.res_book.specs.declared.row.Row.{Row}
use Rattle.res_core.specs.Metaparameters.{is_metaparameter}
use Rattle.res_core.specs.declared.declared.Declared.{Declared}
use Rattle.override_rules.specs.Changes.{changed}
use Rattle.override_rules.specs.Defaults.{Default, Scope, default_key, with_default, with_scope, nearest_within}
use Rattle.override_rules.specs.Fold.{after_lines}
use Rattle.override_rules.specs.Lines.{Line}
use Rattle.override_rules.specs.Meaning.{State, attribute_at, line_added, stands, orphan, default_added, touched_by}
use Rattle.override_rules.specs.Names.{names_of, names_within}
use Rattle.override_rules.specs.Rights.{may, line_tests}
use Rattle.override_rules.specs.declared.override_line.Right.{Right}
use Rattle.override_rules.specs.declared.override_line.Right.TheVariants as right

abbrev text : List ℕ → Datum
text t = d.text t

abbrev list : List Datum → Datum
list ds = d.list (data_of ds)

abbrev a : Datum
a = text (codes "a")

abbrev b : Datum
b = text (codes "b")

abbrev c : Datum
c = text (codes "c")

-- ---- what one line makes of a value

sets_unset : changed false a None ≡ Some a
sets_unset = refl

sets_anew : changed false b (Some a) ≡ Some b
sets_anew = refl

undef_unsets : changed false d.undef (Some a) ≡ None
undef_unsets = refl

default_is_a_value : changed false d.default None ≡ Some d.default
default_is_a_value = refl

adds_to_unset : changed true a None ≡ Some a
adds_to_unset = refl

adds_list_to_unset : changed true (list (a ∷ [])) None ≡ Some (list (a ∷ []))
adds_list_to_unset = refl

adds_undef_to_unset : changed true d.undef None ≡ None
adds_undef_to_unset = refl

adds_to_text : changed true b (Some a) ≡ Some (list (a ∷ b ∷ []))
adds_to_text = refl

adds_to_list : changed true c (Some (list (a ∷ b ∷ []))) ≡ Some (list (a ∷ b ∷ c ∷ []))
adds_to_list = refl

adds_list : changed true (list (b ∷ c ∷ [])) (Some a) ≡ Some (list (a ∷ b ∷ c ∷ []))
adds_list = refl

adds_list_to_list : changed true (list (b ∷ [])) (Some (list (a ∷ []))) ≡ Some (list (a ∷ b ∷ []))
adds_list_to_list = refl

-- only the outer level of a list is opened
adds_lists_within : changed true (list (list (b ∷ []) ∷ [])) (Some (list (list (a ∷ []) ∷ [])))
    ≡ Some (list (list (a ∷ []) ∷ list (b ∷ []) ∷ []))
adds_lists_within = refl

adds_undef : changed true d.undef (Some a) ≡ Some (list (a ∷ d.undef ∷ []))
adds_undef = refl

adds_what_it_has : changed true a (Some a) ≡ Some (list (a ∷ a ∷ []))
adds_what_it_has = refl

-- ---- a declaration, and lines on it

abbrev place : ℕ → Place
place n = record { file = codes "manifests/site.pp"; line = n }

abbrev reference : List ℕ → List ℕ → Reference
reference kind title = record { kind = kind; title = title }

-- `file { 'x': mode => 'a' }` in class `web`, in scope 5
abbrev declared : List ℕ → List ℕ → List Setting → Declared
declared kind title settings =
    record {
      item = record { kind = kind; title = title; attributes = settings; tags = [] };
      at = place 1;
      scope = 5;
      container = None;
      class = codes "class web";
      known = codes "mode" ∷ codes "owner" ∷ [];
    }

abbrev row : List ℕ → List ℕ → List Setting → Mode → Option (List Setting) → Row
row kind title settings m bound =
    record { declared = declared kind title settings; mode = m; marked = false; bound = bound }

abbrev file_x : List Setting → Row
file_x settings = row (codes "file") (codes "x") settings mode.Plain None

abbrev web : Right
web = right.From (codes "class web") []

abbrev below_web : Right
below_web = right.From (codes "class web::tuned") (codes "class web" ∷ [])

abbrev other : Right
other = right.From (codes "class other") (codes "class base" ∷ [])

abbrev line : ℕ → List ℕ → List ℕ → Bool → Datum → Right → Line
line n title name append value r =
    record {
      target = reference (codes "file") title;
      name = name;
      append = append;
      value = value;
      at = place n;
      right = r;
    }

abbrev sets : ℕ → Datum → Line
sets n value = line n (codes "x") (codes "mode") false value right.Any

abbrev adds : ℕ → Datum → Line
adds n value = line n (codes "x") (codes "mode") true value right.Any

abbrev state : List Line → List Scope → List Default → State
state ls scopes ds = record { lines = ls; scopes = scopes; defaults = ds }

abbrev mode_of : State → Row → Option Datum
mode_of s r = attribute_at s (r ∷ []) 0 (codes "mode")

abbrev with_a : List Setting
with_a = (codes "mode", a) ∷ []

abbrev with_undef : List Setting
with_undef = (codes "mode", d.undef) ∷ []

no_line : mode_of (state [] [] []) (file_x with_a) ≡ Some a
unfolding after_lines nearest_within
no_line = refl

not_set : mode_of (state [] [] []) (file_x []) ≡ None
unfolding after_lines nearest_within
not_set = refl

undef_is_not_set : mode_of (state [] [] []) (file_x with_undef) ≡ None
unfolding after_lines nearest_within
undef_is_not_set = refl

adds_to_undef : mode_of (state (adds 2 b ∷ []) [] []) (file_x with_undef) ≡ Some b
unfolding after_lines nearest_within
adds_to_undef = refl

one_line : mode_of (state (sets 2 b ∷ []) [] []) (file_x with_a) ≡ Some b
unfolding after_lines nearest_within
one_line = refl

later_line_wins : mode_of (state (sets 2 b ∷ sets 3 c ∷ []) [] []) (file_x with_a) ≡ Some c
unfolding after_lines nearest_within
later_line_wins = refl

lines_in_order : mode_of (state (adds 2 b ∷ adds 3 c ∷ []) [] []) (file_x with_a) ≡ Some (list (a ∷ b ∷ c ∷ []))
unfolding after_lines nearest_within
lines_in_order = refl

set_after_add : mode_of (state (adds 2 b ∷ sets 3 c ∷ []) [] []) (file_x with_a) ≡ Some c
unfolding after_lines nearest_within
set_after_add = refl

add_after_unset : mode_of (state (sets 2 d.undef ∷ adds 3 c ∷ []) [] []) (file_x with_a) ≡ Some c
unfolding after_lines nearest_within
add_after_unset = refl

other_attribute : mode_of (state (line 2 (codes "x") (codes "owner") false b right.Any ∷ []) [] []) (file_x with_a)
    ≡ Some a
unfolding after_lines nearest_within
other_attribute = refl

other_resource : mode_of (state (line 2 (codes "y") (codes "mode") false b right.Any ∷ []) [] []) (file_x with_a)
    ≡ Some a
unfolding after_lines nearest_within
other_resource = refl

-- ---- defaults. Scope 5 was entered from 2, and that from 0.

abbrev scopes : List Scope
scopes = with_scope (with_scope (with_scope [] 0 None) 2 (Some 0)) 5 (Some 2)

abbrev file_mode : ℕ → Datum → List Default → List Default
file_mode scope value ds = with_default ds (default_key (codes "file") scope (codes "mode")) value

own_default : mode_of (state [] scopes (file_mode 5 b [])) (file_x []) ≡ Some b
unfolding after_lines nearest_within
own_default = refl

outer_default : mode_of (state [] scopes (file_mode 0 b [])) (file_x []) ≡ Some b
unfolding after_lines nearest_within
outer_default = refl

nearest_wins : mode_of (state [] scopes (file_mode 0 a (file_mode 2 b (file_mode 0 c [])))) (file_x []) ≡ Some b
unfolding after_lines nearest_within
nearest_wins = refl

undef_hides : mode_of (state [] scopes (file_mode 2 d.undef (file_mode 0 b []))) (file_x []) ≡ None
unfolding after_lines nearest_within
undef_hides = refl

declaration_wins : mode_of (state [] scopes (file_mode 5 b [])) (file_x with_a) ≡ Some a
unfolding after_lines nearest_within
declaration_wins = refl

default_after_undef : mode_of (state [] scopes (file_mode 5 b [])) (file_x with_undef) ≡ Some b
unfolding after_lines nearest_within
default_after_undef = refl

default_after_unset : mode_of (state (sets 2 d.undef ∷ []) scopes (file_mode 5 b [])) (file_x with_a) ≡ Some b
unfolding after_lines nearest_within
default_after_unset = refl

-- `+>` adds to what is set, not to a default
add_before_default : mode_of (state (adds 2 c ∷ []) scopes (file_mode 5 b [])) (file_x []) ≡ Some c
unfolding after_lines nearest_within
add_before_default = refl

other_kind : mode_of (state [] scopes (with_default [] (default_key (codes "exec") 5 (codes "mode")) b)) (file_x [])
    ≡ None
unfolding after_lines nearest_within
other_kind = refl

other_name : mode_of (state [] scopes (with_default [] (default_key (codes "file") 5 (codes "owner")) b)) (file_x [])
    ≡ None
unfolding after_lines nearest_within
other_name = refl

-- scope 7 stands aside
other_scope : mode_of (state [] (with_scope scopes 7 (Some 0)) (file_mode 7 b [])) (file_x []) ≡ None
unfolding after_lines nearest_within
other_scope = refl

-- scope 5 was opened already, and keeps its parent
opened_again : with_scope scopes 5 (Some 7) ≡ scopes
opened_again = refl

-- so it does where it has none
no_parent_again : with_scope (with_scope [] 5 None) 5 (Some 0) ≡ with_scope [] 5 None
no_parent_again = refl

in_order : with_scope (with_scope [] 5 (Some 2)) 2 None ≡ (2, None) ∷ (5, Some 2) ∷ []
in_order = refl

no_parent : mode_of (state [] (with_scope (with_scope [] 0 None) 5 None) (file_mode 0 b [])) (file_x []) ≡ None
unfolding after_lines nearest_within
no_parent = refl

never_opened : mode_of (state [] (with_scope [] 0 None) (file_mode 0 b [])) (file_x []) ≡ None
unfolding after_lines nearest_within
never_opened = refl

abbrev imported : Row
imported = row (codes "file") (codes "x") [] (mode.Imported (codes "n") 0) None

imports_take_none : mode_of (state [] scopes (file_mode 5 b [])) imported ≡ None
unfolding after_lines nearest_within
imports_take_none = refl

imports_take_lines : mode_of (state (sets 2 c ∷ []) scopes (file_mode 5 b [])) imported ≡ Some c
unfolding after_lines nearest_within
imports_take_lines = refl

-- ---- rights, where the resource's source is `class web`

any_changes : may right.Any (codes "class web") true ≡ true
any_changes = refl

own_sets : may web (codes "class web") false ≡ true
own_sets = refl

own_changes_not : may web (codes "class web") true ≡ false
own_changes_not = refl

below_sets : may below_web (codes "class web") false ≡ true
below_sets = refl

far_below_changes : may (right.From (codes "class c") (codes "class b" ∷ codes "class web" ∷ [])) (codes "class web") true
    ≡ true
far_below_changes = refl

far_below_sets : may (right.From (codes "class c") (codes "class b" ∷ codes "class web" ∷ [])) (codes "class web") false
    ≡ true
far_below_sets = refl

below_changes : may below_web (codes "class web") true ≡ true
below_changes = refl

other_sets_not : may other (codes "class web") false ≡ false
other_sets_not = refl

other_changes_not : may other (codes "class web") true ≡ false
other_changes_not = refl

-- ---- tests

abbrev empty : State
empty = state [] [] []

abbrev f10 : ℕ → List ℕ → Fault
f10 n name = fault (place n) (what.UnknownParameter (reference (codes "file") (codes "x")) name)

abbrev f15 : ℕ → List ℕ → Fault
f15 n name = fault (place n) (what.AlreadySet (subject.Reference (reference (codes "file") (codes "x"))) name)

abbrev owner : ℕ → Right → Line
owner n r = line n (codes "x") (codes "owner") false b r

abbrev changes_mode : ℕ → Right → Line
changes_mode n r = line n (codes "x") (codes "mode") false b r

abbrev size : ℕ → Right → Line
size n r = line n (codes "x") (codes "size") false b r

sets_owner : line_added (file_x with_a ∷ []) (owner 2 web) empty ≡ Ok (tt, state (owner 2 web ∷ []) [] [])
unfolding after_lines is_metaparameter
sets_owner = refl

changes_own_not : line_added (file_x with_a ∷ []) (changes_mode 2 web) empty ≡ Err (f15 2 (codes "mode"))
unfolding after_lines is_metaparameter
changes_own_not = refl

changes_below : line_added (file_x with_a ∷ []) (changes_mode 2 below_web) empty
    ≡ Ok (tt, state (changes_mode 2 below_web ∷ []) [] [])
unfolding after_lines is_metaparameter
changes_below = refl

sets_other_not : line_added (file_x with_a ∷ []) (owner 2 other) empty ≡ Err (f15 2 (codes "owner"))
unfolding after_lines is_metaparameter
sets_other_not = refl

-- what an earlier line set counts as set; what one unset counts as unset
set_by_line : line_added (file_x [] ∷ []) (changes_mode 3 web) (state (sets 2 a ∷ []) [] [])
    ≡ Err (f15 3 (codes "mode"))
unfolding after_lines is_metaparameter
set_by_line = refl

unset_by_line : line_added (file_x with_a ∷ []) (changes_mode 3 web) (state (sets 2 d.undef ∷ []) [] [])
    ≡ Ok (tt, state (sets 2 d.undef ∷ changes_mode 3 web ∷ []) [] [])
unfolding after_lines is_metaparameter
unset_by_line = refl

own_sets_undef : line_added (file_x with_undef ∷ []) (changes_mode 2 web) empty
    ≡ Ok (tt, state (changes_mode 2 web ∷ []) [] [])
unfolding after_lines is_metaparameter
own_sets_undef = refl

-- a default doesn't count
default_not_set : line_added (file_x [] ∷ []) (changes_mode 2 web) (state [] scopes (file_mode 5 a []))
    ≡ Ok (tt, state (changes_mode 2 web ∷ []) scopes (file_mode 5 a []))
unfolding after_lines is_metaparameter
default_not_set = refl

unknown_name : line_added (file_x [] ∷ []) (size 2 right.Any) empty ≡ Err (f10 2 (codes "size"))
unfolding after_lines is_metaparameter
unknown_name = refl

metaparameter : line_added (file_x [] ∷ []) (line 2 (codes "x") (codes "tag") false b web) empty
    ≡ Ok (tt, state (line 2 (codes "x") (codes "tag") false b web ∷ []) [] [])
unfolding after_lines is_metaparameter
metaparameter = refl

unknown_before_right : line_added (file_x [] ∷ []) (size 2 other) empty ≡ Err (f10 2 (codes "size"))
unfolding after_lines is_metaparameter
unknown_before_right = refl

abbrev evaluated : Row
evaluated = row (codes "file") (codes "x") [] mode.Plain (Some [])

evaluated_too_late : line_added (evaluated ∷ []) (owner 2 right.Any) empty ≡ Err (f15 2 (codes "owner"))
unfolding after_lines is_metaparameter
evaluated_too_late = refl

unknown_before_evaluated : line_added (evaluated ∷ []) (size 2 right.Any) empty ≡ Err (f10 2 (codes "size"))
unfolding after_lines is_metaparameter
unknown_before_evaluated = refl

not_there_yet : line_added [] (size 2 other) empty ≡ Ok (tt, state (size 2 other ∷ []) [] [])
unfolding after_lines is_metaparameter
not_there_yet = refl

abbrev class_web : Row
class_web = row (codes "class") (codes "web") [] mode.Plain (Some [])

abbrev on_class : ℕ → Line
on_class n =
    record {
      target = reference (codes "class") (codes "web");
      name = codes "size";
      append = false;
      value = b;
      at = place n;
      right = other;
    }

class_untested : line_added (class_web ∷ []) (on_class 2) empty ≡ Ok (tt, state (on_class 2 ∷ []) [] [])
unfolding after_lines is_metaparameter
class_untested = refl

-- ---- the earlier lines on a new declaration

none_waits : stands empty (file_x [] ∷ []) 0 ≡ Ok tt
unfolding line_tests
none_waits = refl

waiting_fits : stands (state (owner 2 web ∷ []) [] []) (file_x [] ∷ []) 0 ≡ Ok tt
unfolding line_tests after_lines is_metaparameter
waiting_fits = refl

first_of_two : stands (state (size 2 web ∷ owner 3 other ∷ []) [] []) (file_x [] ∷ []) 0 ≡ Err (f10 2 (codes "size"))
unfolding line_tests after_lines is_metaparameter
first_of_two = refl

first_of_two_turned : stands (state (owner 2 other ∷ size 3 web ∷ []) [] []) (file_x [] ∷ []) 0
    ≡ Err (f15 2 (codes "owner"))
unfolding line_tests after_lines is_metaparameter
first_of_two_turned = refl

second_sets_again : stands (state (owner 2 web ∷ owner 3 web ∷ []) [] []) (file_x [] ∷ []) 0
    ≡ Err (f15 3 (codes "owner"))
unfolding line_tests after_lines is_metaparameter
second_sets_again = refl

others_wait_on : stands (state (line 2 (codes "y") (codes "size") false b other ∷ []) [] []) (file_x [] ∷ []) 0
    ≡ Ok tt
unfolding line_tests after_lines is_metaparameter
others_wait_on = refl

-- by number, with what the declaration sets and a line unsets
waits_for_second : stands (state (changes_mode 2 web ∷ []) [] []) (class_web ∷ file_x with_a ∷ []) 1
    ≡ Err (f15 2 (codes "mode"))
unfolding line_tests after_lines is_metaparameter
waits_for_second = refl

not_for_first : stands (state (changes_mode 2 web ∷ []) [] []) (class_web ∷ file_x with_a ∷ []) 0 ≡ Ok tt
unfolding line_tests after_lines is_metaparameter
not_for_first = refl

unset_before : stands (state (sets 2 d.undef ∷ changes_mode 3 web ∷ []) [] []) (file_x with_a ∷ []) 0 ≡ Ok tt
unfolding line_tests after_lines is_metaparameter
unset_before = refl

class_waits_untested : stands (state (on_class 2 ∷ []) [] []) (class_web ∷ []) 0 ≡ Ok tt
unfolding line_tests after_lines is_metaparameter
class_waits_untested = refl

evaluated_is_told : stands (state (owner 2 right.Any ∷ []) [] []) (evaluated ∷ []) 0 ≡ Err (f15 2 (codes "owner"))
unfolding line_tests after_lines is_metaparameter
evaluated_is_told = refl

-- ---- lines without a target

no_orphan : orphan (file_x [] ∷ []) (state (owner 2 web ∷ []) [] []) ≡ None
no_orphan = refl

missing : orphan [] (state (owner 2 web ∷ []) [] []) ≡ Some (owner 2 web)
missing = refl

a_class : orphan (class_web ∷ []) (state (on_class 2 ∷ []) [] []) ≡ Some (on_class 2)
a_class = refl

first_orphan : orphan (file_x [] ∷ class_web ∷ [])
    (state (owner 2 web ∷ on_class 3 ∷ line 4 (codes "y") (codes "mode") false b web ∷ []) [] []) ≡ Some (on_class 3)
first_orphan = refl

-- ---- defaults that come twice

abbrev twice : ℕ → Fault
twice n = fault (place n) (what.AlreadySet (subject.Kind (codes "file")) (codes "mode"))

new_default : default_added (codes "file") 5 (codes "mode") a (place 2) (state [] scopes [])
    ≡ Ok (tt, state [] scopes (file_mode 5 a []))
new_default = refl

default_again : default_added (codes "file") 5 (codes "mode") a (place 3) (state [] scopes (file_mode 5 b []))
    ≡ Err (twice 3)
default_again = refl

default_elsewhere : default_added (codes "file") 2 (codes "mode") a (place 3) (state [] scopes (file_mode 5 b []))
    ≡ Ok (tt, state [] scopes (file_mode 2 a (file_mode 5 b [])))
default_elsewhere = refl

-- ---- all attributes, and how much concerns a declaration

abbrev much : State
much =
    state (owner 2 right.Any ∷ sets 3 d.undef ∷ line 4 (codes "y") (codes "mode") false b right.Any ∷ []) scopes
    (with_default (file_mode 0 c []) (default_key (codes "file") 5 (codes "group")) a)

names : names_of much (file_x with_a)
    ≡ codes "mode" ∷ codes "owner" ∷ codes "mode" ∷ codes "group" ∷ codes "mode" ∷ []
unfolding names_within
names = refl

two_lines_two_defaults : touched_by much (file_x with_a) ≡ 4
two_lines_two_defaults = refl

one_line_two_defaults : touched_by (state (owner 2 web ∷ []) scopes much.defaults) (file_x []) ≡ 3
one_line_two_defaults = refl

two_lines_no_default : touched_by (state (owner 2 web ∷ sets 3 a ∷ []) [] []) (file_x []) ≡ 2
two_lines_no_default = refl

other_kinds_count_not : touched_by much (row (codes "exec") (codes "x") [] mode.Plain None) ≡ 0
other_kinds_count_not = refl
