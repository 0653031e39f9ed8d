-- A data type as it was written: its name and its arguments, each as given.
use Rattle.std.specs.Prelude.{ℕ, ◌+◌, ◌==◌, Bool, true, false, ◌&&◌, List, [], ◌∷◌}
use Rattle.std.specs.Ordering.{int_eq}
use Rattle.std.specs.Str.{bytes_eq}
use Rattle.pp_values.specs.declared.bounds.Bound.{Bound}
use Rattle.pp_values.specs.declared.bounds.Bound.TheVariants.{Default, Number}

-- the names; `kind_of_resource` is a kind of resource, such as `file` or `web::vhost`, in lower case
pub data Name : Type 0 where
  any : Name
  undef : Name
  default : Name
  boolean : Name
  integer : Name
  numeric : Name
  string : Name
  enum : Name
  scalar : Name
  data_ : Name
  array : Name
  hash : Name
  collection : Name
  optional : Name
  variant : Name
  not_undef : Name
  tuple : Name
  type_ : Name
  catalog_entry : Name
  class : Name
  resource : Name
  kind_of_resource : List ℕ → Name

-- an argument is a data type, a bound (an integer or `default`), or a text
mutual
  pub data Sort : Type 0 where
    of : Name → Arguments → Sort

  pub data Arguments : Type 0 where
    none : Arguments
    kind : Sort → Arguments → Arguments
    bound : Bound → Arguments → Arguments
    text : List ℕ → Arguments → Arguments

abbrev pub texts_arguments : List (List ℕ) → Arguments
texts_arguments [] = none
texts_arguments (t ∷ ts) = text t (texts_arguments ts)

abbrev pub types_arguments : List Sort → Arguments
types_arguments [] = none
types_arguments (s ∷ ss) = kind s (types_arguments ss)

-- the place of a name in the list above
abbrev pub name_number : Name → ℕ
name_number any = 0
name_number undef = 1
name_number default = 2
name_number boolean = 3
name_number integer = 4
name_number numeric = 5
name_number string = 6
name_number enum = 7
name_number scalar = 8
name_number data_ = 9
name_number array = 10
name_number hash = 11
name_number collection = 12
name_number optional = 13
name_number variant = 14
name_number not_undef = 15
name_number tuple = 16
name_number type_ = 17
name_number catalog_entry = 18
name_number class = 19
name_number resource = 20
name_number (kind_of_resource k) = 21

-- the kind of resource that the name is, if it is one
abbrev pub named_kind : Name → List ℕ
named_kind (kind_of_resource k) = k
named_kind n = []

abbrev pub same_name : Name → Name → Bool
same_name m n = (name_number m == name_number n) && bytes_eq (named_kind m) (named_kind n)

abbrev pub same_bound : Bound → Bound → Bool
same_bound Default Default = true
same_bound (Number a) (Number b) = int_eq a b
same_bound a b = false

-- two data types are the same where names and arguments as given are, the letters' case included
abbrev mutual
  pub same_type : Sort → Sort → Bool
  same_type (of m xs) (of n ys) = same_name m n && same_arguments xs ys

  pub same_arguments : Arguments → Arguments → Bool
  same_arguments none none = true
  same_arguments (kind s xs) (kind t ys) = same_type s t && same_arguments xs ys
  same_arguments (bound a xs) (bound b ys) = same_bound a b && same_arguments xs ys
  same_arguments (text a xs) (text b ys) = bytes_eq a b && same_arguments xs ys
  same_arguments xs ys = false

-- a size by which a recursion over a data type ends: each type among the arguments is smaller than the whole
abbrev mutual
  pub sort_size : Sort → ℕ
  sort_size (of n xs) = arguments_size xs + 1

  pub arguments_size : Arguments → ℕ
  arguments_size none = 0
  arguments_size (kind s xs) = sort_size s + arguments_size xs + 1
  arguments_size (bound a xs) = arguments_size xs
  arguments_size (text a xs) = arguments_size xs

abbrev pub sorts_size : List Sort → ℕ
sorts_size [] = 0
sorts_size (s ∷ ss) = sort_size s + sorts_size ss + 1
