-- The names of what was read of an object rise.
use Rattle.std.proofs.Common.{◌≡◌, true, List, [], ◌∷◌, Some, String, string_bytes, refl, ap, subst, ◌∙◌, Less, append-nil}
use Rattle.std.specs.declared.alloc.Global.{Global}
use Rattle.std.specs.Cmp.Derive.{both_true}
use Rattle.std.specs.List.{AllByRecursion}
use Rattle.std.specs.List.Sorted.{IsStrictlySortedBy}
use Rattle.std.specs.Map.{keys_of}
use Rattle.std.specs.Ordering.{is_lt}
use Rattle.std.specs.Prelude.{◌++◌, option_map}
use Rattle.std.specs.String.{string_cmp}
use Rattle.serde_json.specs.View.{members_view}
use Rattle.pp_values.specs.Rising.{precedes, is_rising}
use Rattle.pp_values.specs.Settings.{Setting, setting_names}
use Rattle.res_core.specs.AttributeViews.{settings}
use Rattle.res_core.specs.declared.attribute.Attribute.{Attribute}
use Rattle.json_values.proofs.Items.{Entry}
use Rattle.json_documents.specs.ExactData.{names}
use Rattle.catalog_reading.specs.CatalogParts.{settings_said}
use Rattle.agent_docs.proofs.ReportsRead.{Holds}
use Rattle.catalog_reading.proofs.CatalogsRead.{all_named}

-- the first name, if there is one, is above this one
first_above : (k : String Global) (es : List Entry) → AllByRecursion (λ y. string_cmp k y ≡ Less) (keys_of es) →
    precedes (string_bytes k) (names (members_view es)) ≡ true
first_above k [] above = refl
first_above k (e ∷ es) above = ap is_lt above.0

names_rise : (es : List Entry) → IsStrictlySortedBy string_cmp (keys_of es) → is_rising (names (members_view es)) ≡ true
unfolding IsStrictlySortedBy
names_rise [] sorted = refl
names_rise (e ∷ es) sorted = both_true (first_above e.0 es sorted.0) (names_rise es sorted.1)

pub attributes_rise : (es : List Entry) (ss : List Setting) → settings_said (members_view es) ≡ Some ss →
    IsStrictlySortedBy string_cmp (keys_of es) → is_rising (setting_names ss) ≡ true
attributes_rise es ss said sorted =
    ap is_rising (subst (Holds (λ xs. setting_names xs ≡ names (members_view es))) said (all_named (members_view es)))
    ∙ names_rise es sorted

pub none_left : (attributes : List Attribute) (es : List Entry) → es ≡ [] →
    option_map (λ after. settings attributes ++ after) (settings_said (members_view es)) ≡ Some (settings attributes)
none_left attributes es is = rw is (ap Some (append-nil (settings attributes)))
