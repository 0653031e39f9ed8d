-- Each type within a type, and each type of a list, is smaller than the whole.
use Rattle.std.specs.Prelude.{◌+◌, ◌≤◌, ◌≡◌, List, [], ◌∷◌, Option, None, Some, max, refl}
use Rattle.std.proofs.Common.{arith}
use denote.Param.Weighed.{most}
use Rattle.pp_values.specs.declared.ptype.PType.{PType}
use Rattle.pp_values.specs.declared.ptype.PType.TheVariants as v
use Rattle.pp_values.specs.declared.ptype.TypeBox.TheDeep.{deep-PType, deep-EntryType}
use Rattle.pp_values.specs.declared.ptype.MemberType.{MemberType}
use Rattle.pp_values.specs.Sort.{Sort, sort_size, sorts_size, arguments_size, types_arguments}
use Rattle.pp_values.specs.PTypes.{sort, sorts, member_arguments}

pub arguments_size-types_arguments : (ts : List Sort) → arguments_size (types_arguments ts) ≡ sorts_size ts
arguments_size-types_arguments [] = refl
arguments_size-types_arguments (t ∷ ts) = omega (arith, arguments_size-types_arguments ts)

pub deep_le-entry_arguments : (key : Sort) (value : Option MemberType)
    → deep-EntryType (record { key = key; value = value }) ≤ sort_size key + arguments_size (member_arguments value) + 2
deep_le-entry_arguments key None = omega arith
deep_le-entry_arguments key (Some m) = omega arith

pub deep_le-sort_size : (x : PType) → deep-PType x ≤ sort_size (sort x)
deep_le-sort_size v.Any = omega arith
deep_le-sort_size v.Undef = omega arith
deep_le-sort_size v.Default = omega arith
deep_le-sort_size v.Boolean = omega arith
deep_le-sort_size (v.Integer b) = omega arith
deep_le-sort_size v.Numeric = omega arith
deep_le-sort_size (v.String b) = omega arith
deep_le-sort_size (v.Enum ts) = omega arith
deep_le-sort_size v.Scalar = omega arith
deep_le-sort_size v.Data = omega arith
deep_le-sort_size (v.Array None) = omega arith
deep_le-sort_size (v.Array (Some m)) = omega arith
deep_le-sort_size (v.Hash None) = omega arith
deep_le-sort_size (v.Hash (Some e)) = omega (arith, deep_le-entry_arguments e.key e.value)
deep_le-sort_size v.Collection = omega arith
deep_le-sort_size (v.Optional None) = omega arith
deep_le-sort_size (v.Optional (Some t)) = omega arith
deep_le-sort_size (v.Variant ts) = omega (arith, arguments_size-types_arguments ts)
deep_le-sort_size (v.NotUndef None) = omega arith
deep_le-sort_size (v.NotUndef (Some t)) = omega arith
deep_le-sort_size (v.Tuple ts) = omega (arith, arguments_size-types_arguments ts)
deep_le-sort_size (v.KindOf None) = omega arith
deep_le-sort_size (v.KindOf (Some t)) = omega arith
deep_le-sort_size v.CatalogEntry = omega arith
deep_le-sort_size (v.Class c) = omega arith
deep_le-sort_size v.ResourceKind = omega arith
deep_le-sort_size (v.Resource k t) = omega arith

pub types_fall : (xs : List PType) → max (most deep-PType xs) 0 ≤ sorts_size (sorts xs)
types_fall [] = omega arith
types_fall (x ∷ xs) = omega (arith, deep_le-sort_size x, types_fall xs)
