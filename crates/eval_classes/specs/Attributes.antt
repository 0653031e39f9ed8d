-- Attributes by name, and the tags that they give.
use Rattle.std.specs.Prelude.{ℕ, Bool, true, false, List, [], map, Option, None, Some, slice_get, codes}
use Rattle.pp_funcs.specs.Lists.{flat}
use Rattle.pp_values.specs.Datum as d
use Rattle.pp_values.specs.Datum.{Datum}
use Rattle.pp_values.specs.Settings.{Setting}
use Rattle.pp_values.specs.TextOf.{text_of}
use Rattle.res_book.specs.declared.row.Row.{Row}
use Rattle.res_core.specs.AttributeViews.{set_in}

abbrev pub is_value : Datum → Bool
is_value d.undef = false
is_value _ = true

-- ---- tags

-- the texts in a value: lists are flattened, and what is no text counts by its text
abbrev pub texts_in : Datum → List (List ℕ)
texts_in value = map text_of (flat value)

abbrev pub texts_where : Option Datum → List (List ℕ)
texts_where None = []
texts_where (Some value) = texts_in value

-- those of the attribute `tag`
abbrev pub given_tags : List Setting → List (List ℕ)
given_tags ss = texts_where (set_in ss (codes "tag"))

abbrev pub row_tags : Option Row → List (List ℕ)
row_tags None = []
row_tags (Some r) = r.declared.item.tags

-- the tags of a declaration
abbrev pub tags_in : Option ℕ → List Row → List (List ℕ)
tags_in None book = []
tags_in (Some n) book = row_tags (slice_get book n)
