-- The definitions at worked examples. Each line holds by computing.
use Rattle.std.proofs.Common.{◌≡◌, ℕ, true, false, cond, List, [], ◌∷◌, ◌++◌, map, ℤ, pos, negsuc, refl, codes, Result, Ok, Err}
use Rattle.std.specs.Fmt.{digits}
use Rattle.std.specs.List.{list_all, list_any}
use Rattle.std.specs.Prelude.{is_ok}
use Rattle.pp_values.specs.declared.bounds.Bounds.TheVariants as bounds
use Rattle.pp_values.specs.declared.fault.What.TheVariants as what
use Rattle.pp_values.specs.declared.place.Place.{Place}
use Rattle.pp_values.specs.declared.ptype.PType.TheVariants as v
use Rattle.pp_values.specs.Answers.{in_turn}
use Rattle.pp_values.specs.Datum as d
use Rattle.pp_values.specs.Datum.{Datum, Pair, data_of, entries_of}
use Rattle.pp_values.specs.Faults.{fault}
use Rattle.pp_values.specs.PTypes.{sort}
use Rattle.pp_funcs.specs.declared.function.Function.{Function}
use Rattle.pp_funcs.specs.declared.function.Function.TheVariants as f
use Rattle.pp_funcs.specs.declared.refusal.Refusal.{Refusal}
use Rattle.pp_funcs.specs.declared.refusal.Refusal.TheVariants.{Arguments, Range, Failed}
use Rattle.pp_funcs.specs.Functions.{computed, applied}
use Rattle.pp_funcs.specs.Names.{function_of, needs_evaluator}
use Rattle.pp_funcs.specs.Texts.{is_white}

abbrev text : List ℕ → Datum
text t = d.text t

abbrev int : ℤ → Datum
int z = d.int z

abbrev list : List Datum → Datum
list ds = d.list (data_of ds)

abbrev hash : List Pair → Datum
hash ps = d.hash (entries_of ps)

abbrev a : Datum
a = text (codes "a")

abbrev b : Datum
b = text (codes "b")

abbrev big_a : Datum
big_a = text (codes "A")

abbrev one : Datum
one = int (pos 1)

abbrev two : Datum
two = int (pos 2)

abbrev three : Datum
three = int (pos 3)

abbrev minus_two : Datum
minus_two = int (negsuc 1)

abbrev least : Datum
least = int (negsuc 9223372036854775807)

abbrev greatest : Datum
greatest = int (pos 9223372036854775807)

abbrev integer : Datum
integer = d.kind (sort (v.Integer bounds.Omitted))

-- e with an acute, of two bytes, small and large; an emoji, of four
abbrev small_e : List ℕ
small_e = 195 ∷ 169 ∷ []

abbrev large_e : List ℕ
large_e = 195 ∷ 137 ∷ []

abbrev emoji : List ℕ
emoji = 240 ∷ 159 ∷ 152 ∷ 128 ∷ []

-- one value of each kind
abbrev samples : List Datum
samples = d.undef ∷ d.flag true ∷ two ∷ a ∷ list (one ∷ a ∷ []) ∷ hash ((a, one) ∷ []) ∷
    d.reference (record { kind = codes "file"; title = codes "/a" }) ∷ integer ∷ d.default ∷ []

-- which kinds a function takes as its one argument, `y` or `-`
abbrev takes : Function → List ℕ
takes function = map (λ x. cond (is_ok (computed function (x ∷ []))) 121 45) samples

abbrev every_function : List Function
every_function = f.Fail ∷ f.Length ∷ f.Size ∷ f.Empty ∷ f.Keys ∷ f.Values ∷ f.Join ∷ f.Flatten ∷ f.Unique ∷ f.Upcase ∷
    f.Downcase ∷ f.Strip ∷ f.Dig ∷ f.Min ∷ f.Max ∷ f.Abs ∷ []

one_argument : map takes every_function ≡
    codes "---------" ∷ codes "---yyy---" ∷ codes "---yyy---" ∷ codes "y--yyy---" ∷ codes "-----y---" ∷
    codes "-----y---" ∷ codes "----y----" ∷ codes "----y----" ∷ codes "----y----" ∷ codes "---y-----" ∷
    codes "---y-----" ∷ codes "---y-----" ∷ codes "yyyyyyyyy" ∷ codes "--y------" ∷ codes "--y------" ∷
    codes "--y------" ∷ []
unfolding in_turn
one_argument = refl

abbrev answers : Function → List (List Datum) → List (Result Datum Refusal)
answers function calls = map (computed function) calls

-- with no argument only a failure has a meaning, and its message is empty
no_argument : map (λ function. computed function []) every_function ≡
    Err (Failed []) ∷ Err Arguments ∷ Err Arguments ∷ Err Arguments ∷ Err Arguments ∷ Err Arguments ∷ Err Arguments ∷
    Err Arguments ∷ Err Arguments ∷ Err Arguments ∷ Err Arguments ∷ Err Arguments ∷ Err Arguments ∷ Err Arguments ∷
    Err Arguments ∷ Err Arguments ∷ []
no_argument = refl

-- `fail`: the texts of all arguments, one space between each two
fail_texts :
    computed f.Fail (a ∷ one ∷ d.undef ∷ d.flag true ∷ list (a ∷ list (b ∷ []) ∷ []) ∷ hash ((a, one) ∷ []) ∷ [])
    ≡ Err (Failed (codes "a 1  true [a, [b]] {a => 1}"))
unfolding digits
fail_texts = refl

fail_once : computed f.Fail (text (codes "no way") ∷ []) ≡ Err (Failed (codes "no way"))
fail_once = refl

-- `length`, `size`: characters, members, pairs
abbrev counted : List (List Datum)
counted = (text [] ∷ []) ∷ (text (codes "a" ++ emoji ++ small_e) ∷ []) ∷ (list [] ∷ []) ∷
    (list (list (one ∷ two ∷ []) ∷ d.undef ∷ []) ∷ []) ∷ (hash [] ∷ []) ∷ (hash ((a, one) ∷ (b, two) ∷ []) ∷ []) ∷
    (a ∷ a ∷ []) ∷ []

abbrev counts : List (Result Datum Refusal)
counts = Ok (int (pos 0)) ∷ Ok three ∷ Ok (int (pos 0)) ∷ Ok two ∷ Ok (int (pos 0)) ∷ Ok two ∷ Err Arguments ∷ []

length_counts : answers f.Length counted ≡ counts
length_counts = refl

size_counts : answers f.Size counted ≡ counts
size_counts = refl

-- `empty`
emptiness : answers f.Empty (
    (text [] ∷ []) ∷ (text (codes " ") ∷ []) ∷ (list [] ∷ []) ∷ (list (d.undef ∷ []) ∷ []) ∷ (hash [] ∷ []) ∷
    (hash ((a, d.undef) ∷ []) ∷ []) ∷ (d.undef ∷ []) ∷ (int (pos 0) ∷ []) ∷ (d.undef ∷ d.undef ∷ []) ∷ []
    )
    ≡ Ok (d.flag true) ∷ Ok (d.flag false) ∷ Ok (d.flag true) ∷ Ok (d.flag false) ∷ Ok (d.flag true) ∷
    Ok (d.flag false) ∷ Ok (d.flag true) ∷ Err Arguments ∷ Err Arguments ∷ []
emptiness = refl

-- `keys`, `values`: in the hash's order
abbrev mixed : Datum
mixed = hash ((b, list (one ∷ [])) ∷ (two, d.undef) ∷ (a, list (one ∷ [])) ∷ [])

keys_in_order : answers f.Keys ((mixed ∷ []) ∷ (hash [] ∷ []) ∷ (mixed ∷ mixed ∷ []) ∷ [])
    ≡ Ok (list (b ∷ two ∷ a ∷ [])) ∷ Ok (list []) ∷ Err Arguments ∷ []
keys_in_order = refl

values_in_order : answers f.Values ((mixed ∷ []) ∷ (hash [] ∷ []) ∷ (mixed ∷ mixed ∷ []) ∷ [])
    ≡ Ok (list (list (one ∷ []) ∷ d.undef ∷ list (one ∷ []) ∷ [])) ∷ Ok (list []) ∷ Err Arguments ∷ []
values_in_order = refl

-- `flatten`: lists at every level, and no list within a hash
abbrev nested : Datum
nested = list (one ∷ list (a ∷ list (d.undef ∷ list [] ∷ d.flag true ∷ []) ∷ []) ∷ list [] ∷ [])

flattened : answers f.Flatten (
    (nested ∷ []) ∷ (list [] ∷ []) ∷ (list (list (list [] ∷ []) ∷ []) ∷ []) ∷
    (list (hash ((a, list (one ∷ [])) ∷ []) ∷ []) ∷ []) ∷ (nested ∷ nested ∷ []) ∷ []
    )
    ≡ Ok (list (one ∷ a ∷ d.undef ∷ d.flag true ∷ [])) ∷ Ok (list []) ∷ Ok (list []) ∷
    Ok (list (hash ((a, list (one ∷ [])) ∷ []) ∷ [])) ∷ Err Arguments ∷ []
flattened = refl

-- `join`
joined : answers f.Join (
    (nested ∷ []) ∷ (nested ∷ text (codes "--") ∷ []) ∷ (nested ∷ text [] ∷ []) ∷ (list [] ∷ text (codes ",") ∷ []) ∷
    (list (a ∷ []) ∷ text (codes ",") ∷ []) ∷
    (list (hash ((a, list (one ∷ two ∷ [])) ∷ []) ∷ d.default ∷ integer ∷ []) ∷ text (codes ";") ∷ []) ∷ []
    )
    ≡ Ok (text (codes "1atrue")) ∷ Ok (text (codes "1--a----true")) ∷ Ok (text (codes "1atrue")) ∷ Ok (text []) ∷
    Ok (text (codes "a")) ∷ Ok (text (codes "{a => [1, 2]};default;Integer")) ∷ []
unfolding digits
joined = refl

not_joined : answers f.Join (
    (nested ∷ one ∷ []) ∷ (nested ∷ d.undef ∷ []) ∷ (a ∷ a ∷ []) ∷ (hash ((a, one) ∷ []) ∷ a ∷ []) ∷
    (nested ∷ a ∷ a ∷ []) ∷ []
    )
    ≡ Err Arguments ∷ Err Arguments ∷ Err Arguments ∷ Err Arguments ∷ Err Arguments ∷ []
not_joined = refl

-- `unique`: letter by letter, kind by kind, and with the order of a hash's pairs
abbrev ab : Datum
ab = hash ((a, one) ∷ (b, two) ∷ [])

abbrev ba : Datum
ba = hash ((b, two) ∷ (a, one) ∷ [])

firsts : answers f.Unique (
    (list (a ∷ big_a ∷ b ∷ a ∷ big_a ∷ []) ∷ []) ∷ (list (one ∷ text (codes "1") ∷ one ∷ []) ∷ []) ∷
    (list (ab ∷ ba ∷ ab ∷ []) ∷ []) ∷ (list (list (a ∷ a ∷ []) ∷ list (a ∷ a ∷ []) ∷ list (big_a ∷ a ∷ []) ∷ []) ∷ []) ∷
    (list (d.undef ∷ d.default ∷ d.undef ∷ integer ∷ integer ∷ []) ∷ []) ∷ (list [] ∷ []) ∷
    (list (a ∷ []) ∷ list (a ∷ []) ∷ []) ∷ []
    )
    ≡ Ok (list (a ∷ big_a ∷ b ∷ [])) ∷ Ok (list (one ∷ text (codes "1") ∷ [])) ∷ Ok (list (ab ∷ ba ∷ [])) ∷
    Ok (list (list (a ∷ a ∷ []) ∷ list (big_a ∷ a ∷ []) ∷ [])) ∷
    Ok (list (d.undef ∷ d.default ∷ integer ∷ [])) ∷ Ok (list []) ∷ Err Arguments ∷ []
firsts = refl

-- `upcase`, `downcase`: the letters of ASCII alone
upcased : answers f.Upcase (
    (text (codes "aZ[`{1 ") ∷ []) ∷ (text (codes "x" ++ small_e) ∷ []) ∷ (text [] ∷ []) ∷ (a ∷ a ∷ []) ∷ []
    )
    ≡ Ok (text (codes "AZ[`{1 ")) ∷ Ok (text (codes "X" ++ small_e)) ∷ Ok (text []) ∷ Err Arguments ∷ []
upcased = refl

downcased : answers f.Downcase (
    (text (codes "aZ[@{1 ") ∷ []) ∷ (text (codes "X" ++ large_e) ∷ []) ∷ (text [] ∷ []) ∷ (a ∷ a ∷ []) ∷ []
    )
    ≡ Ok (text (codes "az[@{1 ")) ∷ Ok (text (codes "x" ++ large_e)) ∷ Ok (text []) ∷ Err Arguments ∷ []
downcased = refl

-- `strip`: white space is space, tab, line feed, vertical tab, form feed and carriage return
white : list_all is_white (9 ∷ 10 ∷ 11 ∷ 12 ∷ 13 ∷ 32 ∷ []) ≡ true
white = refl

not_white : list_any is_white (0 ∷ 8 ∷ 14 ∷ 28 ∷ 31 ∷ 33 ∷ 95 ∷ 127 ∷ 133 ∷ 160 ∷ []) ≡ false
not_white = refl

stripped : answers f.Strip (
    (text (32 ∷ 9 ∷ 10 ∷ 97 ∷ 32 ∷ 98 ∷ 11 ∷ 12 ∷ 13 ∷ []) ∷ []) ∷ (text (codes "   ") ∷ []) ∷ (text [] ∷ []) ∷
    (a ∷ []) ∷
    (text (32 ∷ 194 ∷ 160 ∷ 32 ∷ 226 ∷ 128 ∷ 131 ∷ 32 ∷ []) ∷ []) ∷ (a ∷ a ∷ []) ∷ []
    )
    ≡ Ok (text (codes "a b")) ∷ Ok (text []) ∷ Ok (text []) ∷ Ok a ∷
    Ok (text (194 ∷ 160 ∷ 32 ∷ 226 ∷ 128 ∷ 131 ∷ [])) ∷ Err Arguments ∷ []
stripped = refl

-- `dig`: through lists and hashes; what is missing is Undef, at which it stops
abbrev tree : Datum
tree = hash ((a, list (one ∷ hash ((b, two) ∷ (three, a) ∷ []) ∷ [])) ∷ (b, d.undef) ∷ [])

dug : answers f.Dig (
    (tree ∷ a ∷ one ∷ b ∷ []) ∷ (tree ∷ a ∷ one ∷ three ∷ []) ∷ (tree ∷ a ∷ minus_two ∷ []) ∷ (tree ∷ []) ∷ (two ∷ []) ∷
    (d.undef ∷ []) ∷ []
    )
    ≡ Ok two ∷ Ok a ∷ Ok one ∷ Ok tree ∷ Ok two ∷ Ok d.undef ∷ []
unfolding in_turn
dug = refl

dug_to_nothing : answers f.Dig (
    (tree ∷ a ∷ two ∷ []) ∷ (tree ∷ a ∷ int (negsuc 2) ∷ a ∷ []) ∷ (tree ∷ big_a ∷ b ∷ []) ∷
    (tree ∷ b ∷ one ∷ two ∷ []) ∷
    (d.undef ∷ list [] ∷ []) ∷ (tree ∷ list [] ∷ a ∷ []) ∷ (tree ∷ a ∷ one ∷ text (codes "3") ∷ []) ∷ []
    )
    ≡ Ok d.undef ∷ Ok d.undef ∷ Ok d.undef ∷ Ok d.undef ∷ Ok d.undef ∷ Ok d.undef ∷ Ok d.undef ∷ []
unfolding in_turn
dug_to_nothing = refl

not_dug : answers f.Dig (
    (tree ∷ a ∷ b ∷ []) ∷ (tree ∷ a ∷ d.undef ∷ []) ∷ (tree ∷ a ∷ one ∷ three ∷ one ∷ []) ∷ (two ∷ one ∷ []) ∷
    (a ∷ one ∷ []) ∷ (d.default ∷ a ∷ []) ∷ []
    )
    ≡ Err Arguments ∷ Err Arguments ∷ Err Arguments ∷ Err Arguments ∷ Err Arguments ∷ Err Arguments ∷ []
unfolding in_turn
not_dug = refl

-- `min`, `max`: one or more integers
leasts : answers f.Min (
    (two ∷ []) ∷ (three ∷ minus_two ∷ three ∷ one ∷ []) ∷ (greatest ∷ least ∷ []) ∷ (one ∷ one ∷ []) ∷ (one ∷ a ∷ []) ∷
    (a ∷ one ∷ []) ∷ (list (one ∷ two ∷ []) ∷ []) ∷ (one ∷ two ∷ d.undef ∷ []) ∷ []
    )
    ≡ Ok two ∷ Ok minus_two ∷ Ok least ∷ Ok one ∷ Err Arguments ∷ Err Arguments ∷ Err Arguments ∷ Err Arguments ∷ []
leasts = refl

greatests : answers f.Max (
    (two ∷ []) ∷ (three ∷ minus_two ∷ three ∷ one ∷ []) ∷ (greatest ∷ least ∷ []) ∷ (minus_two ∷ least ∷ []) ∷
    (one ∷ a ∷ []) ∷ (a ∷ one ∷ []) ∷ (list (one ∷ two ∷ []) ∷ []) ∷ (one ∷ two ∷ d.undef ∷ []) ∷ []
    )
    ≡ Ok two ∷ Ok three ∷ Ok greatest ∷ Ok minus_two ∷ Err Arguments ∷ Err Arguments ∷ Err Arguments ∷
    Err Arguments ∷ []
greatests = refl

-- `abs`: the least integer has no opposite of 64 bits
absolutes : answers f.Abs (
    (minus_two ∷ []) ∷ (two ∷ []) ∷ (int (pos 0) ∷ []) ∷ (int (negsuc 9223372036854775806) ∷ []) ∷ (least ∷ []) ∷
    (text (codes "-2") ∷ []) ∷ (one ∷ one ∷ []) ∷ []
    )
    ≡ Ok two ∷ Ok two ∷ Ok (int (pos 0)) ∷ Ok greatest ∷ Err Range ∷ Err Arguments ∷ Err Arguments ∷ []
absolutes = refl

-- faults, which name the function as it is written
place : Place
place = record { file = codes "a.pp"; line = 3 }

unknown :
    map (λ name. applied name (one ∷ []) place) (
    codes "foo" ∷ codes "Length" ∷ codes "::length" ∷ codes "len" ∷ [] ∷ []
    )
    ≡ Err (fault place (what.UnknownFunction (codes "foo"))) ∷
    Err (fault place (what.UnknownFunction (codes "Length"))) ∷
    Err (fault place (what.UnknownFunction (codes "::length"))) ∷
    Err (fault place (what.UnknownFunction (codes "len"))) ∷ Err (fault place (what.UnknownFunction [])) ∷ []
unfolding function_of
unknown = refl

wrong_arguments : map (λ name. applied name (one ∷ []) place) (codes "length" ∷ codes "size" ∷ [])
    ≡ Err (fault place (what.WrongArguments (codes "length"))) ∷
    Err (fault place (what.WrongArguments (codes "size"))) ∷ []
unfolding function_of
wrong_arguments = refl

out_of_range : applied (codes "abs") (least ∷ []) place ≡ Err (fault place (what.NumberRange (codes "abs")))
unfolding function_of
out_of_range = refl

failed : applied (codes "fail") (a ∷ b ∷ []) place ≡ Err (fault place (what.Failed (codes "a b")))
unfolding function_of
failed = refl

size_of_ab : applied (codes "size") (text (codes "ab") ∷ []) place ≡ Ok two
unfolding function_of
size_of_ab = refl

-- what `call_pure` is not asked, and what it is
asked_of_the_evaluator :
    list_all needs_evaluator (
    codes "include" ∷ codes "contain" ∷ codes "require" ∷ codes "realize" ∷ codes "lookup" ∷ codes "epp" ∷
    codes "inline_epp" ∷ codes "debug" ∷ codes "info" ∷ codes "notice" ∷ codes "warning" ∷ codes "err" ∷ codes "each" ∷ codes "map" ∷ codes "filter" ∷
    codes "reduce" ∷ codes "any" ∷ codes "all" ∷ codes "with" ∷ []
    )
    ≡ true
unfolding needs_evaluator
asked_of_the_evaluator = refl

not_asked_of_it :
    list_any needs_evaluator (
    codes "fail" ∷ codes "size" ∷ codes "foo" ∷ codes "Include" ∷ codes "maps" ∷ codes "war" ∷ [] ∷ []
    )
    ≡ false
unfolding needs_evaluator
not_asked_of_it = refl
