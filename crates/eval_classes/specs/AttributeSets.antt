-- Attributes that are put together one by one, as the code holds them.
use Rattle.std.specs.Prelude.{ℕ, suc, List, [], ◌∷◌, Result, Ok, Err}
use Rattle.std.specs.Ordering.{match_ordering}
use Rattle.pp_values.specs.Rising.{text_cmp}
use Rattle.pp_values.specs.Settings.{Setting}
use Rattle.res_core.specs.AttributeViews.{settings}
use Rattle.eval_classes.specs.declared.attribute_set.SetForm.{SetForm}
use Rattle.eval_classes.specs.declared.attribute_set.SetForm.TheVariants as form

-- those of a list or of a map
abbrev pub form_settings : SetForm → List Setting
form_settings (form.Few items) = settings items.items
form_settings (form.Many map) = map.entries

-- one place further on
abbrev pub one_on : Result ℕ ℕ → Result ℕ ℕ
one_on (Ok place) = Ok (suc place)
one_on (Err place) = Err (suc place)

-- where the attribute of a name stands, or else where it would
unfoldable pub place_in : List ℕ → List Setting → Result ℕ ℕ
place_in name [] = Err 0
place_in name (s ∷ ss) = match_ordering (text_cmp name s.0) (Err 0) (Ok 0) (one_on (place_in name ss))
