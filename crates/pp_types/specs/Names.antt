-- The names of types: segments joined by `::`, each of which begins with a capital and goes on with letters, digits and
-- `_`; `-` may stand between two of these. A leading `::` is dropped. All letters are ASCII.
use Rattle.std.specs.Prelude.{ℕ, ◌==◌, Bool, true, false, ◌||◌, if◌then◌else◌, Option, None, Some, List, [], ◌∷◌, codes}
use Rattle.std.specs.Prelude.{map, take, drop}
use Rattle.std.specs.Char.{is_ascii_alphanumeric, is_ascii_uppercase}
use Rattle.std.specs.Str.{bytes_eq, str_to_ascii_lowercase}
use Rattle.pp_types.specs.declared.data_type.DataType.{DataType}
use Rattle.pp_types.specs.declared.data_type.DataType.TheVariants as t
use Rattle.pp_types.specs.declared.data_type.TheConstants.{DATA_TYPES}
use Rattle.pp_types.specs.declared.naming.Read.{Read}
use Rattle.pp_types.specs.declared.naming.Read.TheVariants as read
use Rattle.pp_values.specs.Sort as n
use Rattle.pp_values.specs.Sort.{Name}

abbrev pub is_word : ℕ → Bool
is_word b = is_ascii_alphanumeric b || b == 95

abbrev pub read_next : Read → ℕ → Option Read
read_next read.Nothing b = if is_ascii_uppercase b then Some read.Word else None
read_next read.Word b = if is_word b then Some read.Word
    else (if b == 45 then Some read.Dash else (if b == 58 then Some read.Colon else None))
read_next read.Dash b = if is_word b then Some read.Word else None
read_next read.Colon b = if b == 58 then Some read.Nothing else None

abbrev pub may_end : Read → Bool
may_end read.Word = true
may_end r = false

abbrev pub is_read : Option Read → List ℕ → Bool
is_read None bs = false
is_read (Some r) [] = may_end r
is_read (Some r) (b ∷ bs) = is_read (read_next r b) bs

-- without a leading `::`
abbrev pub bare_name : List ℕ → List ℕ
bare_name t = if bytes_eq (take 2 t) (codes "::") then drop 2 t else t

abbrev pub is_type_name : List ℕ → Bool
is_type_name t = is_read (Some read.Nothing) (bare_name t)

-- what the name is called where it names a kind of resource, or a class
abbrev pub normal_name : List ℕ → List ℕ
normal_name t = str_to_ascii_lowercase (bare_name t)

abbrev pub named_in : List (List ℕ × DataType) → List ℕ → Option DataType
named_in [] t = None
named_in (w ∷ ws) t = if bytes_eq t w.0 then Some w.1 else named_in ws t

-- the data type that is spelled exactly so
unfoldable pub data_type_named : List ℕ → Option DataType
data_type_named = named_in (map (λ w. (w.0.now, w.1)) DATA_TYPES)

abbrev pub name_of : DataType → Name
name_of t.Any = n.any
name_of t.Undef = n.undef
name_of t.Default = n.default
name_of t.Boolean = n.boolean
name_of t.Integer = n.integer
name_of t.Numeric = n.numeric
name_of t.String = n.string
name_of t.Enum = n.enum
name_of t.Scalar = n.scalar
name_of t.Data = n.data_
name_of t.Array = n.array
name_of t.Hash = n.hash
name_of t.Collection = n.collection
name_of t.Optional = n.optional
name_of t.Variant = n.variant
name_of t.NotUndef = n.not_undef
name_of t.Tuple = n.tuple
name_of t.Type = n.type_
name_of t.CatalogEntry = n.catalog_entry
name_of t.Class = n.class
name_of t.Resource = n.resource

-- any other name is a kind of resource
abbrev pub named_or_kind : List ℕ → Option DataType → Name
named_or_kind k None = n.kind_of_resource k
named_or_kind k (Some t) = name_of t

abbrev pub type_named : List ℕ → Name
type_named t = named_or_kind (normal_name t) (data_type_named (bare_name t))
