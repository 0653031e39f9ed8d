-- What a `PType` says: its name and its arguments as given.
use Rattle.std.specs.Prelude.{ℕ, List, map, Option, None, Some}
use Rattle.pp_values.specs.declared.bounds.Bounds.{Bounds}
use Rattle.pp_values.specs.declared.bounds.Bounds.TheVariants as bounds
use Rattle.pp_values.specs.declared.ptype.PType.{PType}
use Rattle.pp_values.specs.declared.ptype.PType.TheVariants as v
use Rattle.pp_values.specs.declared.ptype.MemberType.{MemberType}
use Rattle.pp_values.specs.declared.ptype.EntryType.{EntryType}
use Rattle.pp_values.specs.Sort.{Sort, Arguments, of, none, kind, bound, text, texts_arguments, types_arguments}
use Rattle.pp_values.specs.Sort as n

abbrev pub bounds_arguments : Bounds → Arguments
bounds_arguments bounds.Omitted = none
bounds_arguments (bounds.Least a) = bound a none
bounds_arguments (bounds.Both a b) = bound a (bound b none)

abbrev pub type_argument : Option Sort → Arguments
type_argument None = none
type_argument (Some s) = kind s none

abbrev pub text_argument : Option (List ℕ) → Arguments
text_argument None = none
text_argument (Some t) = text t none

abbrev pub member_arguments : Option MemberType → Arguments
member_arguments None = none
member_arguments (Some m) = kind m.of (bounds_arguments m.count)

abbrev pub entry_arguments : Option EntryType → Arguments
entry_arguments None = none
entry_arguments (Some e) = kind e.key (member_arguments e.value)

abbrev pub sort : PType → Sort
sort v.Any = of n.any none
sort v.Undef = of n.undef none
sort v.Default = of n.default none
sort v.Boolean = of n.boolean none
sort (v.Integer b) = of n.integer (bounds_arguments b)
sort v.Numeric = of n.numeric none
sort (v.String b) = of n.string (bounds_arguments b)
sort (v.Enum ts) = of n.enum (texts_arguments ts)
sort v.Scalar = of n.scalar none
sort v.Data = of n.data_ none
sort (v.Array m) = of n.array (member_arguments m)
sort (v.Hash e) = of n.hash (entry_arguments e)
sort v.Collection = of n.collection none
sort (v.Optional t) = of n.optional (type_argument t)
sort (v.Variant ts) = of n.variant (types_arguments ts)
sort (v.NotUndef t) = of n.not_undef (type_argument t)
sort (v.Tuple ts) = of n.tuple (types_arguments ts)
sort (v.KindOf t) = of n.type_ (type_argument t)
sort v.CatalogEntry = of n.catalog_entry none
sort (v.Class c) = of n.class (text_argument c)
sort v.ResourceKind = of n.resource none
sort (v.Resource k t) = of (n.kind_of_resource k) (text_argument t)

abbrev pub sorts : List PType → List Sort
sorts = map sort
