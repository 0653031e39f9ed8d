-- Which resources a query matches: of a title, with these tags, and with these attributes.
use Rattle.std.specs.Prelude.{ℕ, Bool, true, false, ◌&&◌, ◌||◌, not, List, Option, None, Some}
use Rattle.std.specs.List.{list_any}
use Rattle.pp_values.specs.Datum.{Datum, undef, text, list, members_of}
use Rattle.pp_values.specs.Equal.{equal}
use Rattle.pp_values.specs.Settings.{Setting}
use Rattle.res_core.specs.AttributeViews.{set_in}
use Rattle.res_core.specs.Criteria.{Criterion, Criteria, all, by_title, by_tag, by_attribute, negation, conjunction}
use Rattle.res_core.specs.Criteria.{disjunction, no_criteria, one_more}
use Rattle.res_core.specs.TagNames.{is_tagged}

-- a tag is a text, in letters of either case; no other value is one
abbrev pub is_tagged_by : List (List ℕ) → Datum → Bool
is_tagged_by tags (text t) = is_tagged tags t
is_tagged_by tags d = false

-- an attribute that is not set is Undef
abbrev pub or_undef : Option Datum → Datum
or_undef None = undef
or_undef (Some d) = d

-- by `==`; of a list some member, and not the list as a whole
abbrev pub is_or_has : Datum → Datum → Bool
is_or_has (list ds) d = list_any (λ m. equal m d) (members_of ds)
is_or_has setting d = equal setting d

-- a title is compared by `==` too
abbrev mutual
  pub matches : Criterion → List ℕ → List (List ℕ) → List Setting → Bool
  matches all title tags settings = true
  matches (by_title d) title tags settings = equal d (text title)
  matches (by_tag d) title tags settings = is_tagged_by tags d
  matches (by_attribute name d) title tags settings = is_or_has (or_undef (set_in settings name)) d
  matches (negation c) title tags settings = not (matches c title tags settings)
  matches (conjunction cs) title tags settings = match_all cs title tags settings
  matches (disjunction cs) title tags settings = match_some cs title tags settings

  pub match_all : Criteria → List ℕ → List (List ℕ) → List Setting → Bool
  match_all no_criteria title tags settings = true
  match_all (one_more c cs) title tags settings = matches c title tags settings && match_all cs title tags settings

  pub match_some : Criteria → List ℕ → List (List ℕ) → List Setting → Bool
  match_some no_criteria title tags settings = false
  match_some (one_more c cs) title tags settings = matches c title tags settings || match_some cs title tags settings
