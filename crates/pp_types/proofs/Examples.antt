-- The definitions at worked examples. Each line holds by computing.
use Rattle.std.proofs.Common.{◌≡◌, ℕ, Bool, true, false, not, List, [], ◌∷◌, pos, negsuc, refl, codes, map, Result, Ok, Err}
use Rattle.std.specs.List.{list_all, list_any}
use Rattle.std.specs.Str.{chars}
use Rattle.pp_values.specs.declared.bounds.Bound.{Bound}
use Rattle.pp_values.specs.declared.bounds.Bound.TheVariants.{Default, Number}
use Rattle.pp_values.specs.declared.fault.Fault.{Fault}
use Rattle.pp_values.specs.declared.fault.What.TheVariants.{WrongArguments}
use Rattle.pp_values.specs.declared.place.Place.{Place}
use Rattle.pp_values.specs.Faults.{fault}
use Rattle.pp_values.specs.Datum as d
use Rattle.pp_values.specs.Datum.{Datum, Pair, data_of, entries_of}
use Rattle.pp_values.specs.Sort as n
use Rattle.pp_values.specs.Sort.{Name, Sort, of, Arguments, none, kind, bound, text, types_arguments, texts_arguments}
use Rattle.pp_types.specs.declared.data_type.TheConstants.{DATA_TYPES}
use Rattle.pp_types.specs.Accepts.{type_accepts}
use Rattle.pp_types.specs.Arguments.{kind_of}
use Rattle.pp_types.specs.Includes.{includes_within, includes, type_includes}
use Rattle.pp_types.specs.Names.{is_type_name, data_type_named, type_named}

-- types
abbrev t : Name → Sort
t n = of n none

abbrev bounds : Bound → Bound → Arguments
bounds a b = bound a (bound b none)

abbrev least : ℕ → Arguments
least k = bound (Number (pos k)) none

abbrev from_to : ℕ → ℕ → Arguments
from_to a b = bounds (Number (pos a)) (Number (pos b))

abbrev integer : ℕ → ℕ → Sort
integer a b = of n.integer (from_to a b)

abbrev string : ℕ → ℕ → Sort
string a b = of n.string (from_to a b)

abbrev enum : List (List ℕ) → Sort
enum ts = of n.enum (texts_arguments ts)

abbrev array : Sort → Sort
array s = of n.array (kind s none)

abbrev hash : Sort → Sort → Sort
hash k v = of n.hash (kind k (kind v none))

abbrev optional : Sort → Sort
optional s = of n.optional (kind s none)

abbrev not_undef : Sort → Sort
not_undef s = of n.not_undef (kind s none)

abbrev type_ : Sort → Sort
type_ s = of n.type_ (kind s none)

abbrev variant : List Sort → Sort
variant ss = of n.variant (types_arguments ss)

abbrev tuple : List Sort → Sort
tuple ss = of n.tuple (types_arguments ss)

abbrev class : List ℕ → Sort
class c = of n.class (text c none)

abbrev file : Sort
file = t (n.kind_of_resource (codes "file"))

abbrev file_named : List ℕ → Sort
file_named title = of (n.kind_of_resource (codes "file")) (text title none)

abbrev notify : Sort
notify = t (n.kind_of_resource (codes "notify"))

-- an `e` with an accent, of two bytes
abbrev e_acute : List ℕ
e_acute = 195 ∷ 169 ∷ []

-- every pair is included, or none is
abbrev yes : List (Sort × Sort) → Bool
yes = list_all (λ p. type_includes p.0 p.1)

abbrev no : List (Sort × Sort) → Bool
no ps = not (list_any (λ p. type_includes p.0 p.1) ps)

-- both are the same, or the first is `Any`
same_or_any : yes ((t n.any, t n.default) ∷ (t n.any, t n.any) ∷ (t n.any, optional (t n.integer)) ∷ (t n.undef, t n.undef) ∷ (t n.default, t n.default)
    ∷ (t n.boolean, t n.boolean) ∷ (t n.data_, t n.data_) ∷ (t n.not_undef, t n.not_undef) ∷ (class (codes "a"), class (codes "a")) ∷ []) ≡ true
unfolding includes includes_within
same_or_any = refl

unlike : no ((t n.undef, t n.boolean) ∷ (t n.boolean, t n.any) ∷ (t n.integer, t n.string) ∷ (t n.default, t n.undef) ∷ (t n.array, t n.hash) ∷ []) ≡ true
unfolding includes includes_within
unlike = refl

-- what the names count as
counts_as : yes ((t n.numeric, t n.integer) ∷ (t n.integer, t n.numeric) ∷ (t n.scalar, t n.boolean) ∷ (t n.scalar, variant (t n.integer ∷ t n.string ∷ []))
    ∷ (variant (t n.boolean ∷ t n.integer ∷ t n.string ∷ []), t n.scalar) ∷ (t n.collection, t n.array) ∷ (t n.collection, hash (t n.string) (t n.integer))
    ∷ (t n.collection, tuple (t n.integer ∷ [])) ∷ (optional (t n.integer), variant (t n.undef ∷ t n.integer ∷ []))
    ∷ (variant (t n.undef ∷ t n.integer ∷ []), optional (t n.integer)) ∷ (t n.enum, t n.string) ∷ (t n.string, t n.enum) ∷ (t n.tuple, t n.array)
    ∷ (t n.array, t n.tuple) ∷ []) ≡ true
unfolding includes includes_within
counts_as = refl

not_counts_as : no ((t n.scalar, variant (t n.integer ∷ t n.undef ∷ [])) ∷ (t n.array, t n.collection) ∷ (t n.integer, optional (t n.integer))
    ∷ (t n.scalar, t n.undef) ∷ []) ≡ true
unfolding includes includes_within
not_counts_as = refl

-- what was left out is `Any`, no bound, or each text; but a bare `Variant` accepts nothing
left_out : yes ((t n.not_undef, not_undef (t n.any)) ∷ (not_undef (t n.any), t n.not_undef) ∷ (t n.type_, type_ (t n.any)) ∷ (t n.optional, t n.any)
    ∷ (t n.array, array (t n.integer)) ∷ (t n.hash, hash (t n.integer) (t n.undef)) ∷ (of n.hash (kind (t n.string) none), hash (t n.string) (t n.integer))
    ∷ (t n.undef, t n.variant) ∷ []) ≡ true
unfolding includes includes_within
left_out = refl

bare_variant : no ((t n.variant, t n.undef) ∷ (t n.variant, t n.any) ∷ (t n.variant, t n.data_) ∷ []) ≡ true
unfolding includes includes_within
bare_variant = refl

-- the second is a `NotUndef`: the first, made optional, includes its type
narrow_not_undef : yes ((t n.integer, not_undef (t n.integer)) ∷ (t n.integer, not_undef (optional (t n.integer))) ∷ (optional (t n.any), not_undef (t n.any))
    ∷ (not_undef (t n.integer), not_undef (t n.integer)) ∷ (t n.integer, not_undef (not_undef (optional (t n.integer)))) ∷ []) ≡ true
unfolding includes includes_within
narrow_not_undef = refl

narrow_not_undef_no : no ((t n.integer, t n.not_undef) ∷ (t n.string, not_undef (t n.integer)) ∷ []) ≡ true
unfolding includes includes_within
narrow_not_undef_no = refl

-- the first is a `Variant`: some type of it includes the second
wide_variant : yes ((variant (t n.integer ∷ t n.string ∷ []), string 1 2) ∷ (variant (t n.integer ∷ variant (t n.undef ∷ []) ∷ []), t n.undef) ∷ []) ≡ true
unfolding includes includes_within
wide_variant = refl

wide_variant_no : no ((variant (t n.integer ∷ t n.string ∷ []), t n.boolean) ∷ (variant (integer 1 5 ∷ integer 6 9 ∷ []), integer 1 9) ∷ []) ≡ true
unfolding includes includes_within
wide_variant_no = refl

-- the first is a `NotUndef`
wide_not_undef : yes ((not_undef (t n.integer), t n.integer) ∷ (t n.not_undef, t n.integer) ∷ (not_undef (optional (t n.integer)), t n.integer) ∷ []) ≡ true
unfolding includes includes_within
wide_not_undef = refl

wide_not_undef_no : no ((not_undef (t n.integer), optional (t n.integer)) ∷ (t n.not_undef, t n.undef) ∷ (t n.not_undef, t n.any) ∷ (not_undef (t n.integer), t n.string)
    ∷ (t n.not_undef, t n.data_) ∷ []) ≡ true
unfolding includes includes_within
wide_not_undef_no = refl

-- bounds within bounds
integers : yes ((integer 1 5, integer 2 4) ∷ (integer 1 5, integer 1 5) ∷ (of n.integer (least 1), of n.integer (bounds (Number (pos 2)) Default))
    ∷ (of n.integer (bounds Default (Number (pos 5))), of n.integer (bounds (Number (negsuc 8)) (Number (pos 5)))) ∷ (t n.integer, integer 0 9) ∷ []) ≡ true
unfolding includes includes_within
integers = refl

integers_no : no ((integer 1 5, integer 0 5) ∷ (integer 1 5, integer 1 6) ∷ (integer 1 5, t n.integer) ∷ (of n.integer (least 1), of n.integer (bounds Default (Number (pos 5)))) ∷ []) ≡ true
unfolding includes includes_within
integers_no = refl

strings : yes ((string 1 3, string 2 3) ∷ (t n.string, enum (codes "a" ∷ codes "bb" ∷ [])) ∷ (string 1 2, enum (codes "a" ∷ codes "bb" ∷ []))
    ∷ (string 1 1, enum (e_acute ∷ [])) ∷ (t n.string, string 0 9) ∷ []) ≡ true
unfolding includes includes_within chars
strings = refl

-- a text has at least no characters, so `String[-1]` takes no fewer than `String`
strings_no : no ((string 1 3, t n.string) ∷ (string 1 1, enum (codes "a" ∷ codes "bb" ∷ [])) ∷ (string 2 2, enum (e_acute ∷ [])) ∷ (enum (codes "a" ∷ []), t n.string)
    ∷ (t n.string, of n.string (bound (Number (negsuc 0)) none)) ∷ []) ≡ true
unfolding includes includes_within chars
strings_no = refl

enums : yes ((enum (codes "a" ∷ codes "b" ∷ []), enum (codes "a" ∷ [])) ∷ (enum (codes "a" ∷ codes "b" ∷ []), enum (codes "b" ∷ codes "a" ∷ [])) ∷ []) ≡ true
unfolding includes includes_within
enums = refl

enums_no : no ((enum (codes "a" ∷ []), enum (codes "a" ∷ codes "b" ∷ [])) ∷ (enum (codes "a" ∷ []), enum (codes "A" ∷ [])) ∷ []) ≡ true
unfolding includes includes_within
enums_no = refl

arrays : yes ((array (t n.integer), array (integer 1 2)) ∷ (of n.array (kind (t n.integer) (from_to 1 3)), of n.array (kind (t n.integer) (from_to 2 3)))
    ∷ (array (t n.integer), tuple (t n.integer ∷ t n.integer ∷ [])) ∷ (of n.array (kind (t n.integer) (from_to 2 2)), tuple (t n.integer ∷ t n.integer ∷ [])) ∷ []) ≡ true
unfolding includes includes_within
arrays = refl

arrays_no : no ((array (t n.integer), array (t n.string)) ∷ (of n.array (kind (t n.integer) (least 1)), array (t n.integer))
    ∷ (of n.array (kind (t n.integer) (least 3)), tuple (t n.integer ∷ t n.integer ∷ [])) ∷ (of n.array (kind (t n.integer) (from_to 0 1)), tuple (t n.integer ∷ t n.integer ∷ []))
    ∷ (array (t n.integer), tuple (t n.integer ∷ t n.string ∷ [])) ∷ []) ≡ true
unfolding includes includes_within
arrays_no = refl

tuples : yes ((tuple (t n.integer ∷ t n.any ∷ []), tuple (integer 1 2 ∷ t n.string ∷ [])) ∷ []) ≡ true
unfolding includes includes_within
tuples = refl

tuples_no : no ((tuple (t n.integer ∷ t n.any ∷ []), tuple (t n.integer ∷ [])) ∷ (tuple (t n.integer ∷ []), tuple (t n.integer ∷ t n.integer ∷ []))
    ∷ (tuple (t n.integer ∷ []), array (t n.integer)) ∷ (tuple (t n.integer ∷ t n.string ∷ []), tuple (t n.string ∷ t n.integer ∷ [])) ∷ []) ≡ true
unfolding includes includes_within
tuples_no = refl

hashes : yes ((hash (t n.string) (t n.integer), hash (enum (codes "a" ∷ [])) (integer 1 2))
    ∷ (of n.hash (kind (t n.string) (kind (t n.any) (from_to 1 3))), of n.hash (kind (t n.string) (kind (t n.integer) (from_to 1 2)))) ∷ []) ≡ true
unfolding includes includes_within chars
hashes = refl

hashes_no : no ((hash (t n.string) (t n.integer), t n.hash) ∷ (hash (t n.string) (t n.integer), hash (t n.integer) (t n.integer))
    ∷ (hash (t n.string) (t n.integer), hash (t n.string) (t n.string)) ∷ (of n.hash (kind (t n.string) (kind (t n.any) (least 1))), t n.hash)
    ∷ (of n.hash (kind (t n.any) (kind (t n.any) (least 1))), t n.hash) ∷ []) ≡ true
unfolding includes includes_within
hashes_no = refl

types : yes ((type_ (t n.scalar), type_ (t n.integer)) ∷ (t n.type_, type_ (type_ (t n.integer))) ∷ []) ≡ true
unfolding includes includes_within
types = refl

types_no : no ((type_ (t n.integer), type_ (t n.scalar)) ∷ (type_ (t n.integer), t n.integer) ∷ (type_ (t n.integer), t n.type_) ∷ []) ≡ true
unfolding includes includes_within
types_no = refl

-- `Data`, on both sides
data_includes : yes ((t n.data_, t n.undef) ∷ (t n.data_, t n.scalar) ∷ (t n.data_, array (t n.integer)) ∷ (t n.data_, array (t n.data_))
    ∷ (t n.data_, hash (t n.string) (array (t n.data_))) ∷ (t n.data_, tuple (t n.integer ∷ t n.undef ∷ [])) ∷ (t n.data_, not_undef (t n.data_))
    ∷ (t n.data_, enum (codes "a" ∷ [])) ∷ (array (t n.data_), array (array (t n.data_))) ∷ (optional (t n.data_), t n.data_)
    ∷ (variant (t n.undef ∷ t n.scalar ∷ array (t n.data_) ∷ hash (t n.string) (t n.data_) ∷ []), t n.data_) ∷ []) ≡ true
unfolding includes includes_within chars
data_includes = refl

data_includes_no : no ((t n.data_, t n.any) ∷ (t n.data_, t n.array) ∷ (t n.data_, hash (t n.integer) (t n.data_)) ∷ (t n.data_, t n.default) ∷ (t n.data_, t n.type_)
    ∷ (t n.data_, file) ∷ (t n.scalar, t n.data_) ∷ (array (t n.data_), t n.data_) ∷ (t n.undef, t n.data_)
    ∷ (variant (t n.undef ∷ t n.scalar ∷ array (t n.data_) ∷ []), t n.data_) ∷ []) ≡ true
unfolding includes includes_within
data_includes_no = refl

-- entries of the catalog
entries : yes ((t n.catalog_entry, t n.catalog_entry) ∷ (t n.catalog_entry, t n.class) ∷ (t n.catalog_entry, class (codes "a")) ∷ (t n.catalog_entry, t n.resource)
    ∷ (t n.catalog_entry, file) ∷ (t n.catalog_entry, file_named (codes "x")) ∷ (t n.class, class (codes "a")) ∷ (t n.resource, file)
    ∷ (t n.resource, file_named (codes "x")) ∷ (file, file) ∷ (file, file_named (codes "x")) ∷ (file_named (codes "x"), file_named (codes "x"))
    ∷ (t n.class, t (n.kind_of_resource (codes "class"))) ∷ (t n.catalog_entry, variant (t n.class ∷ file ∷ [])) ∷ []) ≡ true
unfolding includes includes_within
entries = refl

entries_no : no ((t n.class, t n.resource) ∷ (t n.resource, t n.class) ∷ (t n.resource, class (codes "a")) ∷ (t n.class, t n.catalog_entry) ∷ (t n.resource, t n.catalog_entry)
    ∷ (class (codes "a"), class (codes "b")) ∷ (class (codes "a"), t n.class) ∷ (file, notify) ∷ (file, t n.resource) ∷ (file_named (codes "x"), file)
    ∷ (file_named (codes "x"), file_named (codes "y")) ∷ (t n.integer, file) ∷ (file, t n.integer) ∷ []) ≡ true
unfolding includes includes_within
entries_no = refl

-- values
abbrev list : List Datum → Datum
list ds = d.list (data_of ds)

abbrev pairs : List Pair → Datum
pairs ps = d.hash (entries_of ps)

abbrev one : Datum
one = d.int (pos 1)

abbrev a : Datum
a = d.text (codes "a")

abbrev reference : List ℕ → List ℕ → Datum
reference k title = d.reference (record { kind = k; title = title })

abbrev taken : List (Sort × Datum) → Bool
taken = list_all (λ p. type_accepts p.0 p.1)

abbrev not_taken : List (Sort × Datum) → Bool
not_taken ps = not (list_any (λ p. type_accepts p.0 p.1) ps)

plain_taken : taken ((t n.any, d.undef) ∷ (t n.any, d.default) ∷ (t n.undef, d.undef) ∷ (t n.default, d.default) ∷ (t n.boolean, d.flag false) ∷ (t n.integer, one)
    ∷ (integer 1 5, d.int (pos 5)) ∷ (integer 1 5, one) ∷ (of n.integer (bounds Default (Number (pos 5))), d.int (negsuc 0)) ∷ (t n.numeric, one) ∷ (t n.string, a)
    ∷ (string 1 1, a) ∷ (string 1 1, d.text e_acute) ∷ (of n.string (bound (Number (negsuc 0)) none), d.text []) ∷ (enum (codes "a" ∷ codes "b" ∷ []), a)
    ∷ (t n.enum, d.text (codes "any")) ∷ (t n.scalar, one) ∷ (t n.scalar, a) ∷ (t n.scalar, d.flag true) ∷ []) ≡ true
unfolding chars
plain_taken = refl

plain_not_taken : not_taken ((t n.undef, d.flag false) ∷ (t n.default, d.undef) ∷ (t n.boolean, d.text (codes "true")) ∷ (t n.integer, a) ∷ (integer 1 5, d.int (pos 6))
    ∷ (integer 1 5, d.int (pos 0)) ∷ (t n.numeric, a) ∷ (t n.string, one) ∷ (string 2 3, a) ∷ (string 0 0, a) ∷ (string 2 2, d.text e_acute)
    ∷ (enum (codes "a" ∷ []), d.text (codes "A")) ∷ (enum (codes "a" ∷ []), one) ∷ (t n.enum, one) ∷ (t n.scalar, d.undef) ∷ (t n.scalar, list (one ∷ [])) ∷ []) ≡ true
unfolding chars
plain_not_taken = refl

data_taken : taken ((t n.data_, d.undef) ∷ (t n.data_, list (one ∷ list [] ∷ [])) ∷ (t n.data_, pairs ((a, list (d.undef ∷ [])) ∷ [])) ∷ []) ≡ true
data_taken = refl

data_not_taken : not_taken ((t n.data_, d.default) ∷ (t n.data_, pairs ((one, a) ∷ [])) ∷ (t n.data_, list (d.default ∷ [])) ∷ (t n.data_, d.kind (t n.any))
    ∷ (t n.data_, reference (codes "file") (codes "/x")) ∷ []) ≡ true
data_not_taken = refl

lists_taken : taken ((t n.array, list []) ∷ (t n.array, list (one ∷ a ∷ [])) ∷ (array (t n.integer), list (one ∷ [])) ∷ (of n.array (kind (t n.integer) (from_to 1 2)), list (one ∷ one ∷ []))
    ∷ (t n.tuple, list (one ∷ [])) ∷ (tuple (t n.integer ∷ t n.string ∷ []), list (one ∷ a ∷ [])) ∷ (array (optional (t n.integer)), list (one ∷ d.undef ∷ []))
    ∷ (t n.collection, list []) ∷ (t n.collection, pairs []) ∷ []) ≡ true
unfolding chars
lists_taken = refl

lists_not_taken : not_taken ((t n.array, pairs []) ∷ (array (t n.integer), list (one ∷ a ∷ [])) ∷ (of n.array (kind (t n.integer) (from_to 1 2)), list [])
    ∷ (of n.array (kind (t n.integer) (from_to 1 2)), list (one ∷ one ∷ one ∷ [])) ∷ (tuple (t n.integer ∷ t n.string ∷ []), list (one ∷ []))
    ∷ (tuple (t n.integer ∷ []), list (one ∷ one ∷ [])) ∷ (tuple (t n.integer ∷ t n.string ∷ []), list (a ∷ one ∷ [])) ∷ (t n.collection, a) ∷ []) ≡ true
unfolding chars
lists_not_taken = refl

hashes_taken : taken ((t n.hash, pairs []) ∷ (hash (t n.string) (t n.integer), pairs ((a, one) ∷ [])) ∷ (of n.hash (kind (t n.string) none), pairs ((a, d.default) ∷ []))
    ∷ (of n.hash (kind (t n.string) (kind (t n.integer) (from_to 0 1))), pairs ((a, one) ∷ [])) ∷ []) ≡ true
unfolding chars
hashes_taken = refl

hashes_not_taken : not_taken ((t n.hash, list []) ∷ (hash (t n.string) (t n.integer), pairs ((one, one) ∷ [])) ∷ (hash (t n.string) (t n.integer), pairs ((a, a) ∷ []))
    ∷ (of n.hash (kind (t n.string) (kind (t n.integer) (least 1))), pairs []) ∷ []) ≡ true
unfolding chars
hashes_not_taken = refl

others_taken : taken ((optional (t n.integer), d.undef) ∷ (optional (t n.integer), one) ∷ (t n.optional, a) ∷ (variant (t n.integer ∷ t n.undef ∷ []), one) ∷ (t n.not_undef, one)
    ∷ (not_undef (t n.string), a) ∷ []) ≡ true
unfolding chars
others_taken = refl

others_not_taken : not_taken ((optional (t n.integer), a) ∷ (t n.variant, one) ∷ (variant (t n.integer ∷ t n.undef ∷ []), a) ∷ (t n.not_undef, d.undef) ∷ (not_undef (t n.string), one)
    ∷ (not_undef (t n.any), d.undef) ∷ []) ≡ true
unfolding chars
others_not_taken = refl

-- a type, or a reference, which counts as the type of its kind and title
types_taken : taken ((t n.type_, d.kind (t n.integer)) ∷ (type_ (t n.scalar), d.kind (t n.integer)) ∷ (type_ file, reference (codes "file") (codes "/x"))
    ∷ (type_ (t n.resource), reference (codes "file") (codes "/x")) ∷ (type_ (t n.catalog_entry), reference (codes "class") (codes "a"))
    ∷ (type_ (t n.class), reference (codes "class") (codes "a")) ∷ (type_ (class (codes "a")), reference (codes "class") (codes "a")) ∷ []) ≡ true
unfolding includes includes_within
types_taken = refl

types_not_taken : not_taken ((t n.type_, one) ∷ (type_ (t n.integer), d.kind (t n.scalar)) ∷ (type_ notify, reference (codes "file") (codes "/x"))
    ∷ (type_ (t n.resource), reference (codes "class") (codes "a")) ∷ (type_ (class (codes "a")), reference (codes "class") (codes "b")) ∷ (t n.integer, d.kind (t n.integer)) ∷ []) ≡ true
unfolding includes includes_within
types_not_taken = refl

-- entries of the catalog accept no value
entries_not_taken : not_taken ((t n.catalog_entry, one) ∷ (t n.catalog_entry, reference (codes "file") (codes "/x")) ∷ (t n.resource, reference (codes "file") (codes "/x"))
    ∷ (t n.class, reference (codes "class") (codes "a")) ∷ (file, reference (codes "file") (codes "/x")) ∷ (class (codes "a"), reference (codes "class") (codes "a")) ∷ []) ≡ true
entries_not_taken = refl

-- names of types
names : list_all is_type_name (codes "Integer" ∷ codes "::Integer" ∷ codes "Web::Vhost" ∷ codes "INTEGER" ∷ codes "A-b_1::C" ∷ []) ≡ true
names = refl

no_names : list_any is_type_name (codes "" ∷ codes "::" ∷ codes "integer" ∷ codes "Web::vhost" ∷ codes "Web::" ∷ codes "Web:Vhost" ∷ codes "A-" ∷ codes "A--b" ∷ codes "A[" ∷ []) ≡ false
no_names = refl

abbrev type_words : List (List ℕ)
type_words =
    codes "Any" ∷ codes "Undef" ∷ codes "Default" ∷ codes "Boolean" ∷ codes "Integer" ∷ codes "Numeric"
    ∷ codes "String" ∷ codes "Enum" ∷ codes "Scalar" ∷ codes "Data" ∷ codes "Array" ∷ codes "Hash"
    ∷ codes "Collection" ∷ codes "Optional" ∷ codes "Variant" ∷ codes "NotUndef" ∷ codes "Tuple" ∷ codes "Type"
    ∷ codes "CatalogEntry" ∷ codes "Class" ∷ codes "Resource" ∷ []

-- the table has these words, and no other
words : map (λ w. w.0.now) DATA_TYPES ≡ type_words
words = refl

-- each of them is a data type
table : map type_named type_words
    ≡ n.any ∷ n.undef ∷ n.default ∷ n.boolean ∷ n.integer ∷ n.numeric ∷ n.string ∷ n.enum ∷ n.scalar ∷ n.data_
    ∷ n.array ∷ n.hash ∷ n.collection ∷ n.optional ∷ n.variant ∷ n.not_undef ∷ n.tuple ∷ n.type_ ∷ n.catalog_entry
    ∷ n.class ∷ n.resource ∷ []
unfolding data_type_named
table = refl

other_names : map type_named (codes "ANY" ∷ codes "Float" ∷ codes "Integer::A" ∷ codes "::Data" ∷ codes "CLASS" ∷ [])
    ≡ n.kind_of_resource (codes "any") ∷ n.kind_of_resource (codes "float") ∷ n.kind_of_resource (codes "integer::a") ∷ n.data_ ∷ n.kind_of_resource (codes "class") ∷ []
unfolding data_type_named
other_names = refl

-- types of names with arguments
abbrev here : Place
here = record { file = codes "manifests/site.pp"; line = 3 }

abbrev made : List ℕ → List Datum → Result Sort Fault
made name ds = kind_of name ds here

abbrev wrong : List ℕ → Result Sort Fault
wrong name = Err (fault here (WrongArguments name))

abbrev k : Sort → Datum
k s = d.kind s

integer_made : made (codes "Integer") (one ∷ d.int (pos 2) ∷ []) ≡ Ok (integer 1 2)
unfolding data_type_named
integer_made = refl

global_made : made (codes "::Integer") [] ≡ Ok (t n.integer)
unfolding data_type_named
global_made = refl

default_made : made (codes "Integer") (d.default ∷ d.int (pos 2) ∷ []) ≡ Ok (of n.integer (bounds Default (Number (pos 2))))
unfolding data_type_named
default_made = refl

negative_made : made (codes "String") (d.int (negsuc 0) ∷ []) ≡ Ok (of n.string (bound (Number (negsuc 0)) none))
unfolding data_type_named
negative_made = refl

equal_bounds_made : made (codes "Integer") (one ∷ one ∷ []) ≡ Ok (integer 1 1)
unfolding data_type_named
equal_bounds_made = refl

above_refused : made (codes "Integer") (d.int (pos 2) ∷ one ∷ []) ≡ wrong (codes "Integer")
unfolding data_type_named
above_refused = refl

-- what was left out is filled in before the bounds are compared: a count begins at 0
left_out_count_refused : made (codes "String") (d.default ∷ d.int (negsuc 0) ∷ []) ≡ wrong (codes "String")
unfolding data_type_named
left_out_count_refused = refl

left_out_bound_made : made (codes "Integer") (d.default ∷ d.int (negsuc 0) ∷ []) ≡ Ok (of n.integer (bounds Default (Number (negsuc 0))))
unfolding data_type_named
left_out_bound_made = refl

text_bound_refused : made (codes "Integer") (a ∷ []) ≡ wrong (codes "Integer")
unfolding data_type_named
text_bound_refused = refl

three_bounds_refused : made (codes "::Integer") (one ∷ one ∷ one ∷ []) ≡ wrong (codes "Integer")
unfolding data_type_named
three_bounds_refused = refl

string_type_refused : made (codes "String") (k (t n.string) ∷ []) ≡ wrong (codes "String")
unfolding data_type_named
string_type_refused = refl

enum_made : made (codes "Enum") (a ∷ d.text (codes "b") ∷ []) ≡ Ok (enum (codes "a" ∷ codes "b" ∷ []))
unfolding data_type_named
enum_made = refl

enum_refused : made (codes "Enum") (a ∷ one ∷ []) ≡ wrong (codes "Enum")
unfolding data_type_named
enum_refused = refl

bare_refused : made (codes "Any") (one ∷ []) ≡ wrong (codes "Any")
unfolding data_type_named
bare_refused = refl

numeric_refused : made (codes "Numeric") (one ∷ []) ≡ wrong (codes "Numeric")
unfolding data_type_named
numeric_refused = refl

resource_refused : made (codes "Resource") (a ∷ []) ≡ wrong (codes "Resource")
unfolding data_type_named
resource_refused = refl

array_made : made (codes "Array") (k (t n.integer) ∷ one ∷ d.default ∷ []) ≡ Ok (of n.array (kind (t n.integer) (bounds (Number (pos 1)) Default)))
unfolding data_type_named
array_made = refl

array_refused : made (codes "Array") (one ∷ []) ≡ wrong (codes "Array")
unfolding data_type_named
array_refused = refl

array_counts_refused : made (codes "Array") (k (t n.integer) ∷ d.int (pos 3) ∷ one ∷ []) ≡ wrong (codes "Array")
unfolding data_type_named
array_counts_refused = refl

hash_key_made : made (codes "Hash") (k (t n.string) ∷ []) ≡ Ok (of n.hash (kind (t n.string) none))
unfolding data_type_named
hash_key_made = refl

hash_made : made (codes "Hash") (k (t n.string) ∷ k (t n.any) ∷ one ∷ []) ≡ Ok (of n.hash (kind (t n.string) (kind (t n.any) (least 1))))
unfolding data_type_named
hash_made = refl

-- the order of arguments counts
hash_refused : made (codes "Hash") (k (t n.string) ∷ one ∷ k (t n.any) ∷ []) ≡ wrong (codes "Hash")
unfolding data_type_named
hash_refused = refl

variant_made : made (codes "Variant") (k (t n.string) ∷ reference (codes "file") (codes "/x") ∷ reference (codes "class") (codes "a") ∷ [])
    ≡ Ok (variant (t n.string ∷ file_named (codes "/x") ∷ class (codes "a") ∷ []))
unfolding data_type_named
variant_made = refl

variant_refused : made (codes "Variant") (k (t n.string) ∷ a ∷ []) ≡ wrong (codes "Variant")
unfolding data_type_named
variant_refused = refl

tuple_made : made (codes "Tuple") [] ≡ Ok (t n.tuple)
unfolding data_type_named
tuple_made = refl

optional_made : made (codes "Optional") (k (t n.string) ∷ []) ≡ Ok (optional (t n.string))
unfolding data_type_named
optional_made = refl

optional_refused : made (codes "Optional") (k (t n.string) ∷ k (t n.string) ∷ []) ≡ wrong (codes "Optional")
unfolding data_type_named
optional_refused = refl

not_undef_refused : made (codes "NotUndef") (a ∷ []) ≡ wrong (codes "NotUndef")
unfolding data_type_named
not_undef_refused = refl

type_made : made (codes "Type") (reference (codes "file") (codes "/x") ∷ []) ≡ Ok (type_ (file_named (codes "/x")))
unfolding data_type_named
type_made = refl

class_made : made (codes "Class") (d.text (codes "::Foo") ∷ []) ≡ Ok (class (codes "foo"))
unfolding data_type_named
class_made = refl

class_refused : made (codes "Class") (a ∷ a ∷ []) ≡ wrong (codes "Class")
unfolding data_type_named
class_refused = refl

kind_made : made (codes "::Web::Vhost") (d.text (codes "A") ∷ []) ≡ Ok (of (n.kind_of_resource (codes "web::vhost")) (text (codes "A") none))
unfolding data_type_named
kind_made = refl

bare_kind_made : made (codes "INTEGER") [] ≡ Ok (t (n.kind_of_resource (codes "integer")))
unfolding data_type_named
bare_kind_made = refl

empty_title_made : made (codes "Notify") (d.text [] ∷ []) ≡ Ok (of (n.kind_of_resource (codes "notify")) (text [] none))
unfolding data_type_named
empty_title_made = refl

two_titles_refused : made (codes "Notify") (a ∷ d.text (codes "b") ∷ []) ≡ wrong (codes "Notify")
unfolding data_type_named
two_titles_refused = refl

number_title_refused : made (codes "NOTIFY") (one ∷ []) ≡ wrong (codes "Notify")
unfolding data_type_named
number_title_refused = refl
