-- The definitions at worked examples. Each line holds by computing.
use Rattle.std.proofs.Common.{◌≡◌, ℕ, Bool, true, false, cond, List, [], ◌∷◌, map, ℤ, pos, negsuc, refl, codes, Result, Ok, Err}
use Rattle.std.specs.Prelude.{is_ok}
use Rattle.pp_values.specs.declared.bounds.Bounds.TheVariants as bounds
use Rattle.pp_values.specs.declared.fault.What.TheVariants as what
use Rattle.pp_values.specs.declared.place.Place.{Place}
use Rattle.pp_values.specs.declared.ptype.PType.TheVariants as v
use Rattle.pp_values.specs.Datum as d
use Rattle.pp_values.specs.Datum.{Datum, Pair, data_of, entries_of}
use Rattle.pp_values.specs.Faults.{fault}
use Rattle.pp_values.specs.PTypes.{sort}
use Rattle.pp_ops.specs.declared.op.Op.{Op}
use Rattle.pp_ops.specs.declared.op.Op.TheVariants as op
use Rattle.pp_ops.specs.declared.refusal.Refusal.{Refusal}
use Rattle.pp_ops.specs.declared.refusal.Refusal.TheVariants.{Operand, Range, Zero}
use Rattle.pp_ops.specs.Operators.{computed, applied, needs_types}
use Rattle.pp_ops.specs.Same.{same}

abbrev text : List ℕ → Datum
text t = d.text t

abbrev int : ℤ → Datum
int z = d.int z

abbrev list : List Datum → Datum
list ds = d.list (data_of ds)

abbrev hash : List Pair → Datum
hash ps = d.hash (entries_of ps)

abbrev a : Datum
a = text (codes "a")

abbrev b : Datum
b = text (codes "b")

abbrev big_a : Datum
big_a = text (codes "A")

abbrev one : Datum
one = int (pos 1)

abbrev two : Datum
two = int (pos 2)

abbrev three : Datum
three = int (pos 3)

abbrev least : Datum
least = int (negsuc 9223372036854775807)

abbrev greatest : Datum
greatest = int (pos 9223372036854775807)

abbrev file : List ℕ → Datum
file title = d.reference (record { kind = codes "file"; title = title })

abbrev integer : Datum
integer = d.kind (sort (v.Integer bounds.Omitted))

-- one value of each kind
abbrev samples : List Datum
samples = d.undef ∷ d.flag true ∷ two ∷ a ∷ list (one ∷ a ∷ []) ∷ hash ((a, one) ∷ []) ∷ file (codes "/a") ∷ integer ∷
    d.default ∷ []

-- which pairs of kinds an operator takes, `y` or `-`: a row for each kind on the left
abbrev taken : Op → List (List ℕ)
taken o = map (λ x. map (λ y. cond (is_ok (computed o x y)) 121 45) samples) samples

abbrev none : List ℕ
none = codes "---------"

abbrev each : List ℕ
each = codes "yyyyyyyyy"

abbrev integers : List (List ℕ)
integers = none ∷ none ∷ codes "--y------" ∷ none ∷ none ∷ none ∷ none ∷ none ∷ none ∷ []

abbrev all_kinds : List (List ℕ)
all_kinds = each ∷ each ∷ each ∷ each ∷ each ∷ each ∷ each ∷ each ∷ each ∷ []

abbrev ordered : List (List ℕ)
ordered = none ∷ none ∷ codes "--y------" ∷ codes "---y-----" ∷ none ∷ none ∷ none ∷ none ∷ none ∷ []

add_takes : taken op.Add ≡ none ∷ none ∷ codes "--y------" ∷ none ∷ each ∷ codes "-----y---" ∷ none ∷ none ∷ none ∷ []
add_takes = refl

subtract_takes : taken op.Subtract ≡ none ∷ none ∷ codes "--y------" ∷ none ∷ each ∷ each ∷ none ∷ none ∷ none ∷ []
subtract_takes = refl

multiply_takes : taken op.Multiply ≡ integers
multiply_takes = refl

divide_takes : taken op.Divide ≡ integers
divide_takes = refl

modulo_takes : taken op.Modulo ≡ integers
modulo_takes = refl

append_takes : taken op.Append ≡ none ∷ none ∷ none ∷ none ∷ each ∷ none ∷ none ∷ none ∷ none ∷ []
append_takes = refl

equal_takes : taken op.Equal ≡ all_kinds
equal_takes = refl

not_equal_takes : taken op.NotEqual ≡ all_kinds
not_equal_takes = refl

less_takes : taken op.Less ≡ ordered
less_takes = refl

greater_takes : taken op.Greater ≡ ordered
greater_takes = refl

at_most_takes : taken op.AtMost ≡ ordered
at_most_takes = refl

at_least_takes : taken op.AtLeast ≡ ordered
at_least_takes = refl

member_takes : taken op.Member ≡ all_kinds
member_takes = refl

negate_takes : taken op.Negate ≡ none ∷ none ∷ each ∷ none ∷ none ∷ none ∷ none ∷ none ∷ none ∷ []
negate_takes = refl

-- the arguments `[1, a]` fit nothing: a list takes two integers, a hash one key
access_takes : taken op.Access ≡ none ∷ none ∷ none ∷ none ∷ none ∷ none ∷ none ∷ none ∷ none ∷ []
access_takes = refl

-- `+`
add_integers : computed op.Add two three ≡ Ok (int (pos 5))
add_integers = refl

add_up_to_the_end : computed op.Add greatest (int (negsuc 0)) ≡ Ok (int (pos 9223372036854775806))
add_up_to_the_end = refl

add_past_the_end : computed op.Add greatest one ≡ Err Range
add_past_the_end = refl

add_past_the_beginning : computed op.Add least (int (negsuc 0)) ≡ Err Range
add_past_the_beginning = refl

add_lists : computed op.Add (list (one ∷ [])) (list (one ∷ list [] ∷ [])) ≡ Ok (list (one ∷ one ∷ list [] ∷ []))
add_lists = refl

add_hash_to_list : computed op.Add (list (one ∷ [])) (hash ((a, one) ∷ (two, b) ∷ []))
    ≡ Ok (list (one ∷ list (a ∷ one ∷ []) ∷ list (two ∷ b ∷ []) ∷ []))
add_hash_to_list = refl

add_value_to_list : computed op.Add (list (one ∷ [])) d.undef ≡ Ok (list (one ∷ d.undef ∷ []))
add_value_to_list = refl

add_type_to_list : computed op.Add (list []) integer ≡ Ok (list (integer ∷ []))
add_type_to_list = refl

right_wins : computed op.Add (hash ((a, one) ∷ (b, one) ∷ [])) (hash ((two, two) ∷ (a, three) ∷ []))
    ≡ Ok (hash ((a, three) ∷ (b, one) ∷ (two, two) ∷ []))
right_wins = refl

keys_are_exact : computed op.Add (hash ((a, one) ∷ [])) (hash ((big_a, two) ∷ []))
    ≡ Ok (hash ((a, one) ∷ (big_a, two) ∷ []))
keys_are_exact = refl

keys_of_two_kinds : computed op.Add (hash ((one, a) ∷ [])) (hash ((text (codes "1"), b) ∷ []))
    ≡ Ok (hash ((one, a) ∷ (text (codes "1"), b) ∷ []))
keys_of_two_kinds = refl

no_texts_added : computed op.Add a b ≡ Err Operand
no_texts_added = refl

no_list_to_hash : computed op.Add (hash []) (list (list (a ∷ one ∷ []) ∷ [])) ≡ Err Operand
no_list_to_hash = refl

-- `-`
subtract_integers : computed op.Subtract two three ≡ Ok (int (negsuc 0))
subtract_integers = refl

subtract_past_the_beginning : computed op.Subtract least one ≡ Err Range
subtract_past_the_beginning = refl

subtract_to_past_the_end : computed op.Subtract (int (pos 0)) least ≡ Err Range
subtract_to_past_the_end = refl

subtract_members : computed op.Subtract (list (a ∷ big_a ∷ a ∷ one ∷ [])) (list (a ∷ two ∷ []))
    ≡ Ok (list (big_a ∷ one ∷ []))
subtract_members = refl

subtract_value : computed op.Subtract (list (a ∷ one ∷ a ∷ [])) a ≡ Ok (list (one ∷ []))
subtract_value = refl

subtract_hash_as_value : computed op.Subtract (list (a ∷ hash ((a, one) ∷ []) ∷ [])) (hash ((a, one) ∷ []))
    ≡ Ok (list (a ∷ []))
subtract_hash_as_value = refl

order_of_pairs_counts : computed op.Subtract (list (hash ((a, one) ∷ (b, two) ∷ []) ∷ []))
    (list (hash ((b, two) ∷ (a, one) ∷ []) ∷ []))
    ≡ Ok (list (hash ((a, one) ∷ (b, two) ∷ []) ∷ []))
order_of_pairs_counts = refl

list_within_list : computed op.Subtract (list (list (a ∷ []) ∷ a ∷ [])) (list (list (a ∷ []) ∷ [])) ≡ Ok (list (a ∷ []))
list_within_list = refl

subtract_keys_of_hash : computed op.Subtract (hash ((a, one) ∷ (b, two) ∷ [])) (hash ((b, d.undef) ∷ (three, a) ∷ []))
    ≡ Ok (hash ((a, one) ∷ []))
subtract_keys_of_hash = refl

subtract_keys_of_list : computed op.Subtract (hash ((a, one) ∷ (two, b) ∷ (b, b) ∷ []))
    (list (big_a ∷ two ∷ d.undef ∷ b ∷ [])) ≡ Ok (hash ((a, one) ∷ []))
subtract_keys_of_list = refl

subtract_key : computed op.Subtract (hash ((a, one) ∷ (b, two) ∷ [])) a ≡ Ok (hash ((b, two) ∷ []))
subtract_key = refl

subtract_no_key : computed op.Subtract (hash ((a, one) ∷ [])) d.undef ≡ Ok (hash ((a, one) ∷ []))
subtract_no_key = refl

-- `*`, `/`, `%`
multiply_integers : computed op.Multiply (int (negsuc 1)) three ≡ Ok (int (negsuc 5))
multiply_integers = refl

multiply_past_the_end : computed op.Multiply greatest two ≡ Err Range
multiply_past_the_end = refl

multiply_least : computed op.Multiply least (int (negsuc 0)) ≡ Err Range
multiply_least = refl

abbrev divisions : Op → List (Result Datum Refusal)
divisions o = map (λ (p : ℤ × ℤ). computed o (int p.0) (int p.1))
    ((pos 7, pos 2) ∷ (negsuc 6, pos 2) ∷ (pos 7, negsuc 1) ∷ (negsuc 6, negsuc 1) ∷ (negsuc 5, pos 2) ∷
    (pos 6, negsuc 1) ∷ (pos 0, negsuc 1) ∷ [])

-- 7 / 2, -7 / 2, 7 / -2, -7 / -2, -6 / 2, 6 / -2, 0 / -2
division_rounds_down : divisions op.Divide ≡
    map (λ z. Ok (int z)) (pos 3 ∷ negsuc 3 ∷ negsuc 3 ∷ pos 3 ∷ negsuc 2 ∷ negsuc 2 ∷ pos 0 ∷ [])
division_rounds_down = refl

modulo_has_the_sign_of_the_divisor : divisions op.Modulo ≡
    map (λ z. Ok (int z)) (pos 1 ∷ pos 1 ∷ negsuc 0 ∷ negsuc 0 ∷ pos 0 ∷ pos 0 ∷ pos 0 ∷ [])
modulo_has_the_sign_of_the_divisor = refl

divide_least : computed op.Divide least (int (negsuc 0)) ≡ Err Range
divide_least = refl

divide_least_by_one : computed op.Divide least one ≡ Ok least
divide_least_by_one = refl

modulo_of_least : computed op.Modulo least (int (negsuc 0)) ≡ Ok (int (pos 0))
modulo_of_least = refl

divide_by_zero : computed op.Divide one (int (pos 0)) ≡ Err Zero
divide_by_zero = refl

modulo_by_zero : computed op.Modulo (int (pos 0)) (int (pos 0)) ≡ Err Zero
modulo_by_zero = refl

kinds_before_zero : computed op.Divide a (int (pos 0)) ≡ Err Operand
kinds_before_zero = refl

-- `<<`
append_list : computed op.Append (list (one ∷ [])) (list (two ∷ [])) ≡ Ok (list (one ∷ list (two ∷ []) ∷ []))
append_list = refl

append_hash : computed op.Append (list []) (hash ((a, one) ∷ [])) ≡ Ok (list (hash ((a, one) ∷ []) ∷ []))
append_hash = refl

no_append_to_hash : computed op.Append (hash []) one ≡ Err Operand
no_append_to_hash = refl

-- `==`, `!=` and the order
equal_folds : computed op.Equal a big_a ≡ Ok (d.flag true)
equal_folds = refl

unlike_kinds_are_unequal : computed op.Equal one (text (codes "1")) ≡ Ok (d.flag false)
unlike_kinds_are_unequal = refl

equal_as_maps : computed op.Equal (hash ((a, one) ∷ (b, two) ∷ [])) (hash ((b, two) ∷ (a, one) ∷ [])) ≡ Ok (d.flag true)
equal_as_maps = refl

not_equal_folds : computed op.NotEqual a big_a ≡ Ok (d.flag false)
not_equal_folds = refl

abbrev orders : Datum → Datum → List (Result Datum Refusal)
orders x y = computed op.Less x y ∷ computed op.Greater x y ∷ computed op.AtMost x y ∷ computed op.AtLeast x y ∷ []

abbrev flags : Bool → Bool → Bool → Bool → List (Result Datum Refusal)
flags s t u w = Ok (d.flag s) ∷ Ok (d.flag t) ∷ Ok (d.flag u) ∷ Ok (d.flag w) ∷ []

one_and_two : orders one two ≡ flags true false true false
one_and_two = refl

two_and_one : orders two one ≡ flags false true false true
two_and_one = refl

texts_fold : orders a big_a ≡ flags false false true true
texts_fold = refl

big_a_and_b : orders big_a b ≡ flags true false true false
big_a_and_b = refl

no_order : computed op.Less one a ≡ Err Operand
no_order = refl

-- `in`
text_in_text : computed op.Member (text (codes "BC")) (text (codes "abcd")) ≡ Ok (d.flag true)
text_in_text = refl

text_not_in_text : computed op.Member (text (codes "bd")) (text (codes "abcd")) ≡ Ok (d.flag false)
text_not_in_text = refl

text_at_the_end : computed op.Member (text (codes "cd")) (text (codes "abCD")) ≡ Ok (d.flag true)
text_at_the_end = refl

empty_text_in_empty : computed op.Member (text []) (text []) ≡ Ok (d.flag true)
empty_text_in_empty = refl

text_longer_than_whole : computed op.Member (text (codes "ab")) a ≡ Ok (d.flag false)
text_longer_than_whole = refl

number_in_text : computed op.Member one (text (codes "1")) ≡ Ok (d.flag false)
number_in_text = refl

member_folded : computed op.Member big_a (list (one ∷ a ∷ [])) ≡ Ok (d.flag true)
member_folded = refl

part_of_member : computed op.Member a (list (text (codes "ab") ∷ [])) ≡ Ok (d.flag false)
part_of_member = refl

list_in_list : computed op.Member (list (big_a ∷ [])) (list (list (a ∷ []) ∷ [])) ≡ Ok (d.flag true)
list_in_list = refl

key_folded : computed op.Member big_a (hash ((one, b) ∷ (a, b) ∷ [])) ≡ Ok (d.flag true)
key_folded = refl

integer_key : computed op.Member one (hash ((one, b) ∷ [])) ≡ Ok (d.flag true)
integer_key = refl

value_is_no_key : computed op.Member b (hash ((one, b) ∷ [])) ≡ Ok (d.flag false)
value_is_no_key = refl

in_a_number : computed op.Member one one ≡ Ok (d.flag false)
in_a_number = refl

-- unary `-`
negate_integer : computed op.Negate two d.undef ≡ Ok (int (negsuc 1))
negate_integer = refl

negate_zero : computed op.Negate (int (pos 0)) d.undef ≡ Ok (int (pos 0))
negate_zero = refl

negate_least : computed op.Negate least d.undef ≡ Err Range
negate_least = refl

-- `[]`
abbrev letters : Datum
letters = list (a ∷ b ∷ one ∷ two ∷ [])

abbrev at : List ℤ → Result Datum Refusal
at zs = computed op.Access letters (list (map (λ z. int z) zs))

first_member : at (pos 0 ∷ []) ≡ Ok a
first_member = refl

last_member : at (pos 3 ∷ []) ≡ Ok two
last_member = refl

past_the_last : at (pos 4 ∷ []) ≡ Ok d.undef
past_the_last = refl

last_from_the_end : at (negsuc 0 ∷ []) ≡ Ok two
last_from_the_end = refl

first_from_the_end : at (negsuc 3 ∷ []) ≡ Ok a
first_from_the_end = refl

before_the_first : at (negsuc 4 ∷ []) ≡ Ok d.undef
before_the_first = refl

from_and_count : at (pos 1 ∷ pos 2 ∷ []) ≡ Ok (list (b ∷ one ∷ []))
from_and_count = refl

count_past_the_end : at (pos 3 ∷ pos 9 ∷ []) ≡ Ok (list (two ∷ []))
count_past_the_end = refl

count_of_none : at (pos 1 ∷ pos 0 ∷ []) ≡ Ok (list [])
count_of_none = refl

from_behind_the_end : at (pos 9 ∷ pos 1 ∷ []) ≡ Ok (list [])
from_behind_the_end = refl

from_the_end_and_count : at (negsuc 1 ∷ pos 1 ∷ []) ≡ Ok (list (one ∷ []))
from_the_end_and_count = refl

-- from -5, one before the beginning: the count 2 is cut to 1
from_before_the_beginning : at (negsuc 4 ∷ pos 2 ∷ []) ≡ Ok (list (a ∷ []))
from_before_the_beginning = refl

from_far_before : at (negsuc 8 ∷ pos 2 ∷ []) ≡ Ok (list [])
from_far_before = refl

-- a negative count is the place of the last member
to_the_last : at (pos 1 ∷ negsuc 0 ∷ []) ≡ Ok (list (b ∷ one ∷ two ∷ []))
to_the_last = refl

to_the_last_but_one : at (pos 1 ∷ negsuc 1 ∷ []) ≡ Ok (list (b ∷ one ∷ []))
to_the_last_but_one = refl

to_a_place_before : at (pos 3 ∷ negsuc 2 ∷ []) ≡ Ok (list [])
to_a_place_before = refl

from_before_to_the_last_but_one : at (negsuc 5 ∷ negsuc 1 ∷ []) ≡ Ok (list (a ∷ b ∷ one ∷ []))
from_before_to_the_last_but_one = refl

no_arguments : at [] ≡ Err Operand
no_arguments = refl

three_arguments : at (pos 0 ∷ pos 1 ∷ pos 1 ∷ []) ≡ Err Operand
three_arguments = refl

text_as_place : computed op.Access letters (list (text (codes "0") ∷ [])) ≡ Err Operand
text_as_place = refl

abbrev looked_up : List Datum → Result Datum Refusal
looked_up ks = computed op.Access (hash ((a, one) ∷ (two, b) ∷ [])) (list ks)

key_of_hash : looked_up (a ∷ []) ≡ Ok one
key_of_hash = refl

integer_key_of_hash : looked_up (two ∷ []) ≡ Ok b
integer_key_of_hash = refl

missing_key : looked_up (big_a ∷ []) ≡ Ok d.undef
missing_key = refl

no_key : looked_up (d.undef ∷ []) ≡ Ok d.undef
no_key = refl

several_keys : looked_up (a ∷ two ∷ []) ≡ Err Operand
several_keys = refl

no_access_to_text : computed op.Access a (list (int (pos 0) ∷ [])) ≡ Err Operand
no_access_to_text = refl

no_access_to_reference : computed op.Access (file (codes "a")) (list (b ∷ [])) ≡ Err Operand
no_access_to_reference = refl

-- exact sameness
same_nothing_folded : same a big_a ≡ false
same_nothing_folded = refl

same_lists : same (list (a ∷ hash ((b, one) ∷ []) ∷ [])) (list (a ∷ hash ((b, one) ∷ []) ∷ [])) ≡ true
same_lists = refl

same_asks_the_order : same (hash ((a, one) ∷ (b, two) ∷ [])) (hash ((b, two) ∷ (a, one) ∷ [])) ≡ false
same_asks_the_order = refl

front_is_not_the_same : same (list (a ∷ [])) (list (a ∷ b ∷ [])) ≡ false
front_is_not_the_same = refl

same_titles : same (file (codes "a")) (file (codes "A")) ≡ false
same_titles = refl

-- `true` on the diagonal alone
sameness_of_kinds : map (λ x. map (λ y. cond (same x y) 121 45) samples) samples ≡
    codes "y--------" ∷ codes "-y-------" ∷ codes "--y------" ∷ codes "---y-----" ∷ codes "----y----" ∷
    codes "-----y---" ∷ codes "------y--" ∷ codes "-------y-" ∷ codes "--------y" ∷ []
sameness_of_kinds = refl

-- faults, with the operator as it is written
place : Place
place = record { file = codes "a.pp"; line = 3 }

bad_operand : applied op.Append one two place ≡ Err (fault place (what.BadOperand (codes "<<")))
bad_operand = refl

out_of_range : applied op.Negate least d.undef place ≡ Err (fault place (what.NumberRange (codes "-")))
out_of_range = refl

zero_divisor : applied op.Modulo one (int (pos 0)) place ≡ Err (fault place (what.ZeroDivisor (codes "%")))
zero_divisor = refl

bad_access : applied op.Access one (list (two ∷ [])) place ≡ Err (fault place (what.BadOperand (codes "[]")))
bad_access = refl

bad_order : applied op.AtMost one a place ≡ Err (fault place (what.BadOperand (codes "<=")))
bad_order = refl

five : applied op.Add two three place ≡ Ok (int (pos 5))
five = refl

-- what `apply_op` is not asked
types_in : needs_types op.Member integer ≡ true
types_in = refl

types_accessed : needs_types op.Access integer ≡ true
types_accessed = refl

types_compared : needs_types op.Equal integer ≡ false
types_compared = refl

types_on_the_right : needs_types op.Member (list (integer ∷ [])) ≡ false
types_on_the_right = refl
