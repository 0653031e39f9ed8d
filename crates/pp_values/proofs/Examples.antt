-- The definitions at worked examples. Each line holds by computing.
use Rattle.std.proofs.Common.{◌≡◌, ℕ, true, false, List, [], ◌∷◌, ◌++◌, nat_lt, if◌then◌else◌, pos, negsuc, refl, codes, None, Some, Result, Ok, Err}
use Rattle.std.specs.Fmt.{digits}
use Rattle.std.specs.declared.cmp.Ordering.TheVariants.{Less, Equal, Greater}
use Rattle.pp_values.specs.declared.bounds.Bound.TheVariants.{Default, Number}
use Rattle.pp_values.specs.declared.bounds.Bounds.TheVariants as bounds
use Rattle.pp_values.specs.declared.ptype.PType.TheVariants as v
use Rattle.pp_values.specs.Datum as d
use Rattle.pp_values.specs.Datum.{Datum, Pair, data_of, entries_of}
use Rattle.pp_values.specs.Sort as n
use Rattle.pp_values.specs.Sort.{Sort, of, none, kind, bound, text, same_type}
use Rattle.pp_values.specs.PTypes.{sort}
use Rattle.pp_values.specs.SortText.{type_text}
use Rattle.pp_values.specs.Words.{kind_text, reference_text}
use Rattle.pp_values.specs.Depth.{depth, sort_depth}
use Rattle.pp_values.specs.Keys.{are_distinct, value_at, with_pair, without_key}
use Rattle.pp_values.specs.Equal.{equal}
use Rattle.pp_values.specs.Order.{order}
use Rattle.pp_values.specs.TextOf.{text_of}
use Rattle.pp_values.specs.Kinds.{is_kind, kind_of}
use Rattle.pp_values.specs.Rising.{is_rising, sorted}
use Rattle.pp_values.specs.Facts.{are_facts}
use Rattle.pp_values.specs.Faults.{fault}
use Rattle.pp_values.specs.Answers.{Answers, in_turn}
use Rattle.pp_values.specs.declared.fault.Fault.{Fault}
use Rattle.pp_values.specs.declared.fault.Stop.TheVariants as stop
use Rattle.pp_values.specs.declared.fault.What.TheVariants.{Syntax}
use Rattle.pp_values.specs.declared.place.TheConstants.{MAIN_MANIFEST}

abbrev a : Datum
a = d.text (codes "a")

abbrev b : Datum
b = d.text (codes "b")

abbrev big_a : Datum
big_a = d.text (codes "A")

abbrev one : Datum
one = d.int (pos 1)

abbrev two : Datum
two = d.int (pos 2)

abbrev list : List Datum → Datum
list ds = d.list (data_of ds)

abbrev hash : List Pair → Datum
hash ps = d.hash (entries_of ps)

abbrev file : List ℕ → Datum
file title = d.reference (record { kind = codes "file"; title = title })

abbrev integer_from_one : Sort
integer_from_one = of n.integer (bound (Number (pos 1)) none)

-- texts of values
list_text : text_of (list (one ∷ a ∷ [])) ≡ codes "[1, a]"
unfolding digits
list_text = refl

hash_text : text_of (hash ((a, one) ∷ (two, list []) ∷ [])) ≡ codes "{a => 1, 2 => []}"
unfolding digits
hash_text = refl

undef_text : text_of d.undef ≡ []
undef_text = refl

negative_text : text_of (d.int (negsuc 9)) ≡ codes "-10"
unfolding digits
negative_text = refl

default_text : text_of (list (d.default ∷ d.flag true ∷ d.undef ∷ [])) ≡ codes "[default, true, ]"
default_text = refl

escaped_text : text_of (file (codes "it's\\")) ≡ codes "File['it\\'s\\\\']"
escaped_text = refl

segments_text : reference_text (record { kind = codes "web::vhost"; title = codes "a" }) ≡ codes "Web::Vhost[a]"
segments_text = refl

bare_kind_text : kind_text (codes "file") ≡ codes "File"
bare_kind_text = refl

-- how deep values nest
text_depth : depth a ≡ 0
text_depth = refl

empty_list_depth : depth (list []) ≡ 1
empty_list_depth = refl

list_depth : depth (list (one ∷ list (list [] ∷ []) ∷ list (a ∷ []) ∷ [])) ≡ 3
list_depth = refl

hash_depth : depth (hash ((a, one) ∷ (b, list (hash [] ∷ [])) ∷ [])) ≡ 3
hash_depth = refl

abbrev integer_or_array : Sort
integer_or_array = sort (v.Variant (integer_from_one ∷ sort (v.Array (Some (record { of = integer_from_one; count = bounds.Omitted }))) ∷ []))

integer_depth : sort_depth integer_from_one ≡ 1
integer_depth = refl

variant_depth : sort_depth integer_or_array ≡ 3
variant_depth = refl

type_in_list_depth : depth (list (d.kind integer_or_array ∷ [])) ≡ 4
type_in_list_depth = refl

-- texts of types: the arguments as given
integer_text : type_text (sort (v.Integer bounds.Omitted)) ≡ codes "Integer"
integer_text = refl

integer_least_text : type_text (sort (v.Integer (bounds.Least (Number (pos 1))))) ≡ codes "Integer[1]"
unfolding digits
integer_least_text = refl

integer_default_text : type_text (sort (v.Integer (bounds.Both (Number (pos 1)) Default))) ≡ codes "Integer[1, default]"
unfolding digits
integer_default_text = refl

integer_greatest_text : type_text (sort (v.Integer (bounds.Both Default (Number (pos 5))))) ≡ codes "Integer[default, 5]"
unfolding digits
integer_greatest_text = refl

enum_text : type_text (sort (v.Enum (codes "a" ∷ codes "b'" ∷ []))) ≡ codes "Enum['a', 'b\\'']"
enum_text = refl

array_text : type_text (sort (v.Array (Some (record { of = integer_from_one; count = bounds.Least Default })))) ≡ codes "Array[Integer[1], default]"
unfolding digits
array_text = refl

hash_key_text : type_text (sort (v.Hash (Some (record { key = of n.string none; value = None })))) ≡ codes "Hash[String]"
hash_key_text = refl

hash_type_text : type_text (sort (v.Hash (Some (record { key = of n.string none; value = Some (record { of = of n.any none; count = bounds.Both (Number (pos 1)) (Number (pos 2)) }) }))))
    ≡ codes "Hash[String, Any, 1, 2]"
unfolding digits
hash_type_text = refl

variant_text : type_text (sort (v.Variant (of n.undef none ∷ integer_from_one ∷ []))) ≡ codes "Variant[Undef, Integer[1]]"
unfolding digits
variant_text = refl

class_text : type_text (sort (v.Class (Some (codes "web")))) ≡ codes "Class['web']"
class_text = refl

resource_text : type_text (sort v.ResourceKind) ≡ codes "Resource"
resource_text = refl

kind_title_text : type_text (sort (v.Resource (codes "web::vhost") (Some (codes "/a")))) ≡ codes "Web::Vhost['/a']"
kind_title_text = refl

-- sameness of types: `Integer[1]` is not `Integer[1, default]`
given_default : same_type integer_from_one (sort (v.Integer (bounds.Both (Number (pos 1)) Default))) ≡ false
given_default = refl

same_bounds : same_type integer_from_one (sort (v.Integer (bounds.Least (Number (pos 1))))) ≡ true
same_bounds = refl

enum_case : equal (d.kind (sort (v.Enum (codes "a" ∷ [])))) (d.kind (sort (v.Enum (codes "A" ∷ [])))) ≡ false
enum_case = refl

-- equality
folded : equal a big_a ≡ true
folded = refl

folded_members : equal (list (a ∷ one ∷ [])) (list (big_a ∷ one ∷ [])) ≡ true
folded_members = refl

shorter : equal (list (a ∷ [])) (list (a ∷ one ∷ [])) ≡ false
shorter = refl

as_maps : equal (hash ((a, one) ∷ (b, two) ∷ [])) (hash ((b, two) ∷ (a, one) ∷ [])) ≡ true
as_maps = refl

exact_keys : equal (hash ((a, one) ∷ [])) (hash ((big_a, one) ∷ [])) ≡ false
exact_keys = refl

folded_values : equal (hash ((one, a) ∷ [])) (hash ((one, big_a) ∷ [])) ≡ true
folded_values = refl

exact_titles : equal (file (codes "a")) (file (codes "A")) ≡ false
exact_titles = refl

unlike_kinds : equal one (d.text (codes "1")) ≡ false
unlike_kinds = refl

undef_flag : equal d.undef (d.flag false) ≡ false
undef_flag = refl

-- order
integers : order one two ≡ Some Less
integers = refl

negative : order (d.int (negsuc 0)) (d.int (negsuc 1)) ≡ Some Greater
negative = refl

texts : order b big_a ≡ Some Greater
texts = refl

same_texts : order a big_a ≡ Some Equal
same_texts = refl

prefix : order a (d.text (codes "ab")) ≡ Some Less
prefix = refl

no_order : order one a ≡ None
no_order = refl

no_order_of_lists : order (list []) (list []) ≡ None
no_order_of_lists = refl

-- keys
twice : are_distinct ((a, one) ∷ (b, two) ∷ (a, two) ∷ []) ≡ false
twice = refl

both_cases : are_distinct ((a, one) ∷ (big_a, two) ∷ []) ≡ true
both_cases = refl

no_key : are_distinct ((d.undef, one) ∷ []) ≡ false
no_key = refl

set_in_place : with_pair a two ((a, one) ∷ (b, one) ∷ []) ≡ (a, two) ∷ (b, one) ∷ []
set_in_place = refl

set_at_end : with_pair a two ((b, one) ∷ []) ≡ (b, one) ∷ (a, two) ∷ []
set_at_end = refl

taken_out : without_key a ((a, one) ∷ (b, one) ∷ []) ≡ (b, one) ∷ []
taken_out = refl

looked_up : value_at b ((a, one) ∷ (b, two) ∷ []) ≡ Some two
looked_up = refl

-- kinds
a_kind : kind_of (codes "web::vhost") ≡ Some (codes "web::vhost")
a_kind = refl

a_capital : is_kind (codes "File") ≡ false
a_capital = refl

a_bracket : is_kind (codes "a[b") ≡ false
a_bracket = refl

no_letter : kind_of [] ≡ None
no_letter = refl

other_letters : is_kind (codes "größe 2") ≡ true
other_letters = refl

-- the order of texts, and facts
in_order : sorted (codes "b" ∷ codes "B" ∷ codes "ab" ∷ codes "b" ∷ []) ≡ codes "B" ∷ codes "ab" ∷ codes "b" ∷ []
in_order = refl

stands_twice : is_rising (codes "a" ∷ codes "a" ∷ []) ≡ false
stands_twice = refl

facts : are_facts (hash ((a, list (one ∷ hash [] ∷ [])) ∷ (b, d.undef) ∷ [])) ≡ true
facts = refl

facts_out_of_order : are_facts (hash ((b, one) ∷ (a, one) ∷ [])) ≡ false
facts_out_of_order = refl

reference_in_facts : are_facts (hash ((a, list (file (codes "/a") ∷ [])) ∷ [])) ≡ false
reference_in_facts = refl

number_as_name : are_facts (hash ((one, a) ∷ [])) ≡ false
number_as_name = refl

-- the main manifest
main_manifest : MAIN_MANIFEST.now ≡ codes "manifests/site.pp"
main_manifest = refl

-- answers
abbrev syntax : Fault
syntax = fault (record { file = MAIN_MANIFEST.now; line = 3 }) Syntax

meant_number : Result ℕ Fault
meant_number = Ok 2

answered : Answers (Ok 2) meant_number ≡ (meant_number ≡ Ok 2)
answered = refl

refused : Answers (Err (stop.Fault syntax)) meant_number ≡ (meant_number ≡ Err syntax)
refused = refl

no_memory : Answers (Err stop.Memory) meant_number ≡ Unit {0}
no_memory = refl

-- a number at most 2 behind the others
abbrev with_small : List ℕ → ℕ → Result (List ℕ) ℕ
with_small ns n = if nat_lt n 3 then Ok (ns ++ n ∷ []) else Err n

all_small : in_turn with_small [] (1 ∷ 2 ∷ []) ≡ Ok (1 ∷ 2 ∷ [])
unfolding in_turn
all_small = refl

first_large : in_turn with_small [] (1 ∷ 7 ∷ 2 ∷ 8 ∷ []) ≡ Err 7
unfolding in_turn
first_large = refl
