-- How a data type is printed: its name, with the arguments in brackets.
use Rattle.std.specs.Prelude.{ℕ, List, [], ◌++◌, codes}
use Rattle.std.specs.Fmt.{signed_decimal}
use Rattle.pp_values.specs.declared.bounds.Bound.{Bound}
use Rattle.pp_values.specs.declared.bounds.Bound.TheVariants.{Default, Number}
use Rattle.pp_values.specs.Sort.{Name, any, undef, default, boolean, integer, numeric, string, enum, scalar, data_}
use Rattle.pp_values.specs.Sort.{array, hash, collection, optional, variant, not_undef, tuple, type_, catalog_entry}
use Rattle.pp_values.specs.Sort.{class, resource, kind_of_resource, Sort, of, Arguments, none, kind, bound, text}
use Rattle.pp_values.specs.Words.{quoted, kind_text}

abbrev pub name_text : Name → List ℕ
name_text any = codes "Any"
name_text undef = codes "Undef"
name_text default = codes "Default"
name_text boolean = codes "Boolean"
name_text integer = codes "Integer"
name_text numeric = codes "Numeric"
name_text string = codes "String"
name_text enum = codes "Enum"
name_text scalar = codes "Scalar"
name_text data_ = codes "Data"
name_text array = codes "Array"
name_text hash = codes "Hash"
name_text collection = codes "Collection"
name_text optional = codes "Optional"
name_text variant = codes "Variant"
name_text not_undef = codes "NotUndef"
name_text tuple = codes "Tuple"
name_text type_ = codes "Type"
name_text catalog_entry = codes "CatalogEntry"
name_text class = codes "Class"
name_text resource = codes "Resource"
name_text (kind_of_resource k) = kind_text k

abbrev pub bound_text : Bound → List ℕ
bound_text Default = codes "default"
bound_text (Number z) = signed_decimal z

abbrev mutual
  pub type_text : Sort → List ℕ
  type_text (of n xs) = name_text n ++ bracketed xs

  -- nothing where there are no arguments
  pub bracketed : Arguments → List ℕ
  bracketed none = []
  bracketed (kind s xs) = codes "[" ++ type_text s ++ more_text xs ++ codes "]"
  bracketed (bound b xs) = codes "[" ++ bound_text b ++ more_text xs ++ codes "]"
  bracketed (text t xs) = codes "[" ++ quoted t ++ more_text xs ++ codes "]"

  -- the arguments after the first
  pub more_text : Arguments → List ℕ
  more_text none = []
  more_text (kind s xs) = codes ", " ++ type_text s ++ more_text xs
  more_text (bound b xs) = codes ", " ++ bound_text b ++ more_text xs
  more_text (text t xs) = codes ", " ++ quoted t ++ more_text xs
