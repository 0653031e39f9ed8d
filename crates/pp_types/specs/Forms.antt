-- What a data type counts as, with all that was left out filled in. Five names count as other types: `Optional[T]` as
-- `Variant[Undef, T]`, `Numeric` as `Integer`, `Scalar` as `Variant[Boolean, Integer, String]`, `Collection` as
-- `Variant[Array, Hash]`; a bare `Enum` as `String`, and a bare `Tuple` as `Array`. Any other type left out is `Any`.
use Rattle.std.specs.Prelude.{ℕ, ◌+◌, if◌then◌else◌, List, [], ◌∷◌, Option, None, Some, codes}
use Rattle.std.specs.Str.{bytes_eq}
use Rattle.pp_values.specs.declared.reference.Reference.{Reference}
use Rattle.pp_values.specs.declared.bounds.Bound.{Bound}
use Rattle.pp_values.specs.declared.bounds.Bounds.{Bounds}
use Rattle.pp_values.specs.declared.bounds.Bounds.TheVariants as bounds
use Rattle.pp_values.specs.Sort as n
use Rattle.pp_values.specs.Sort.{Sort, of, Arguments, none, kind, bound, text}
use Rattle.pp_types.specs.declared.range.Range.{Range}
use Rattle.pp_types.specs.Ranges.{lowest, all_integers, any_count, range_from}
use Rattle.std.specs.Prelude.{pos}

mutual
  pub data Form : Type 0 where
    any : Form
    undef : Form
    default : Form
    boolean : Form
    integer : Range → Form
    string : Range → Form
    enum : List (List ℕ) → Form
    data_ : Form
    array : Form → Range → Form
    hash : Form → Form → Range → Form
    variant : Forms → Form
    not_undef : Form → Form
    tuple : Forms → Form
    type_ : Form → Form
    catalog_entry : Form
    class : Option (List ℕ) → Form
    resource : Form
    kind_of_resource : List ℕ → Option (List ℕ) → Form

  pub data Forms : Type 0 where
    no_forms : Forms
    and_form : Form → Forms → Forms

abbrev pub list_of : Forms → List Form
list_of no_forms = []
list_of (and_form t ts) = t ∷ list_of ts

abbrev pub forms_of : List Form → Forms
forms_of [] = no_forms
forms_of (t ∷ ts) = and_form t (forms_of ts)

abbrev pub one_of : List Form → Form
one_of ts = variant (forms_of ts)

abbrev pub optional : Form → Form
optional t = one_of (undef ∷ t ∷ [])

abbrev pub all_arrays : Form
all_arrays = array any any_count

abbrev pub all_hashes : Form
all_hashes = hash any any any_count

abbrev pub scalar : Form
scalar = one_of (boolean ∷ integer all_integers ∷ string any_count ∷ [])

abbrev pub collection : Form
collection = one_of (all_arrays ∷ all_hashes ∷ [])

-- the types as which `Data` counts
abbrev pub array_of_data : Form
array_of_data = array data_ any_count

abbrev pub hash_of_data : Form
hash_of_data = hash (string any_count) data_ any_count

abbrev pub data_types : List Form
data_types = undef ∷ boolean ∷ integer all_integers ∷ string any_count ∷ array_of_data ∷ hash_of_data ∷ []

-- a kind of resource with its title, or bare; the kind `class` is that of classes
abbrev pub kind_form : List ℕ → Option (List ℕ) → Form
kind_form k title = if bytes_eq k (codes "class") then class title else kind_of_resource k title

-- a reference counts as the type of its kind and title
abbrev pub reference_form : Reference → Form
reference_form r = kind_form r.kind (Some r.title)

abbrev pub enum_form : List (List ℕ) → Form
enum_form [] = string any_count
enum_form (t ∷ ts) = enum (t ∷ ts)

abbrev pub tuple_form : Forms → Form
tuple_form no_forms = all_arrays
tuple_form (and_form t ts) = tuple (and_form t ts)

-- the arguments behind the first
abbrev pub behind : Arguments → Arguments
behind none = none
behind (kind s xs) = xs
behind (bound b xs) = xs
behind (text t xs) = xs

-- the bounds that begin the arguments
abbrev pub bounds_after : Bound → Arguments → Bounds
bounds_after a (bound b xs) = bounds.Both a b
bounds_after a xs = bounds.Least a

abbrev pub given_bounds : Arguments → Bounds
given_bounds (bound a xs) = bounds_after a xs
given_bounds xs = bounds.Omitted

abbrev pub given_texts : Arguments → List (List ℕ)
given_texts (text t xs) = t ∷ given_texts xs
given_texts xs = []

abbrev pub given_title : Arguments → Option (List ℕ)
given_title (text t xs) = Some t
given_title xs = None

abbrev pub counts : Arguments → Range
counts xs = range_from (pos 0) (given_bounds xs)

abbrev mutual
  pub form : Sort → Form
  form (of n.any xs) = any
  form (of n.undef xs) = undef
  form (of n.default xs) = default
  form (of n.boolean xs) = boolean
  form (of n.integer xs) = integer (range_from lowest (given_bounds xs))
  form (of n.numeric xs) = integer all_integers
  form (of n.string xs) = string (counts xs)
  form (of n.enum xs) = enum_form (given_texts xs)
  form (of n.scalar xs) = scalar
  form (of n.data_ xs) = data_
  form (of n.array xs) = array (first_form xs) (counts (behind xs))
  form (of n.hash xs) = hash (first_form xs) (second_form xs) (counts (behind (behind xs)))
  form (of n.collection xs) = collection
  form (of n.optional xs) = optional (first_form xs)
  form (of n.variant xs) = variant (given_forms xs)
  form (of n.not_undef xs) = not_undef (first_form xs)
  form (of n.tuple xs) = tuple_form (given_forms xs)
  form (of n.type_ xs) = type_ (first_form xs)
  form (of n.catalog_entry xs) = catalog_entry
  form (of n.class xs) = class (given_title xs)
  form (of n.resource xs) = resource
  form (of (n.kind_of_resource k) xs) = kind_form k (given_title xs)

  -- the type that is the first argument, or `Any`
  pub first_form : Arguments → Form
  first_form none = any
  first_form (kind s xs) = form s
  first_form (bound b xs) = any
  first_form (text t xs) = any

  pub second_form : Arguments → Form
  second_form none = any
  second_form (kind s xs) = first_form xs
  second_form (bound b xs) = any
  second_form (text t xs) = any

  pub given_forms : Arguments → Forms
  given_forms none = no_forms
  given_forms (kind s xs) = and_form (form s) (given_forms xs)
  given_forms (bound b xs) = no_forms
  given_forms (text t xs) = no_forms

-- a size by which a recursion over a form ends; a `NotUndef` weighs more, since within it the other type is made
-- optional
abbrev mutual
  pub form_size : Form → ℕ
  form_size (array t r) = form_size t + 1
  form_size (hash k v r) = form_size k + form_size v + 1
  form_size (variant ts) = forms_size ts + 1
  form_size (not_undef t) = form_size t + 20
  form_size (tuple ts) = forms_size ts + 1
  form_size (type_ t) = form_size t + 1
  form_size t = 1

  pub forms_size : Forms → ℕ
  forms_size no_forms = 0
  forms_size (and_form t ts) = form_size t + forms_size ts + 1
