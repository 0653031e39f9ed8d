-- The integers, and the counts of characters and members, that a data type takes.
use Rattle.std.specs.Prelude.{◌&&◌, Bool, not, ℤ, pos, negsuc, int_lt}
use Rattle.std.specs.Ordering.{int_eq}
use Rattle.pp_values.specs.declared.bounds.Bound.{Bound}
use Rattle.pp_values.specs.declared.bounds.Bound.TheVariants.{Default, Number}
use Rattle.pp_values.specs.declared.bounds.Bounds.{Bounds}
use Rattle.pp_values.specs.declared.bounds.Bounds.TheVariants as bounds
use Rattle.pp_types.specs.declared.range.Range.{Range}

abbrev pub range : ℤ → ℤ → Range
range a b = record { least = a; greatest = b }

-- the least and the greatest 64-bit integer
abbrev pub lowest : ℤ
lowest = negsuc 9223372036854775807

abbrev pub highest : ℤ
highest = pos 9223372036854775807

abbrev pub all_integers : Range
all_integers = range lowest highest

-- a count begins at 0
abbrev pub any_count : Range
any_count = range (pos 0) highest

-- a bound as given; `default` is none, for which this one stands
abbrev pub bound_or : ℤ → Bound → ℤ
bound_or z Default = z
bound_or z (Number n) = n

-- bounds as given; what was left out is filled in: the least is this one, the greatest that of 64 bits
abbrev pub range_from : ℤ → Bounds → Range
range_from z bounds.Omitted = range z highest
range_from z (bounds.Least a) = range (bound_or z a) highest
range_from z (bounds.Both a b) = range (bound_or z a) (bound_or highest b)

abbrev pub is_in_range : Range → ℤ → Bool
is_in_range r z = not (int_lt z r.least) && not (int_lt r.greatest z)

-- the bounds of the second are within those of the first
abbrev pub is_within : Range → Range → Bool
is_within r s = not (int_lt s.least r.least) && not (int_lt r.greatest s.greatest)

abbrev pub same_range : Range → Range → Bool
same_range r s = int_eq r.least s.least && int_eq r.greatest s.greatest
