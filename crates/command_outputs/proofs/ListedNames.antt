-- The names of the nodes that a site lists.
use Rattle.std.proofs.Common.{◌≡◌, ℕ, Bool, true, false, ◌||◌, List, [], ◌∷◌, map, refl, sym, ap, ◌∙◌, subst, is_some}
use Rattle.std.specs.Prelude.{IsTrue, cond, Some, Result, Ok, Err, IfOk}
use Rattle.std.specs.Cmp.{first_so, second_so}
use Rattle.std.specs.Cmp.Derive.{both_true}
use Rattle.std.specs.FinMap.{find, is_sorted}
use Rattle.std.specs.FinMap.Entries.{below_all}
use Rattle.std.specs.Ordering.{is_eq}
use Rattle.std.proofs.lemmas.Map.Text.{is_eq-slice_cmp}
use Rattle.compile_core.specs.Puppet.{listed}
use Rattle.history_tools.specs.Settles.{AreListed}
use Rattle.pp_values.specs.declared.memory.Memory.{Memory}
use Rattle.pp_values.specs.declared.value.Value.{Value}
use Rattle.pp_values.specs.Rising.{text_cmp, precedes, is_rising, has_text}
use Rattle.pp_values.specs.Settings.{setting_names}
use Rattle.site_bundle.specs.Listing as kept
use Rattle.site_bundle.specs.SiteView.{Listed, SiteView, are_rising}

precedes_all : (x : List ℕ) (es : List Listed) → below_all text_cmp x es ≡ true → precedes x (setting_names es) ≡ true
precedes_all x [] below = refl
precedes_all x (e ∷ es) below = first_so _ _ below

names_rise : (es : List Listed) → is_sorted text_cmp es ≡ true → is_rising (setting_names es) ≡ true
names_rise [] sorted = refl
names_rise (e ∷ es) sorted =
    both_true (precedes_all e.0 es (first_so _ _ sorted)) (names_rise es (second_so _ _ sorted))

names_found : (node : List ℕ) (es : List Listed) → has_text (setting_names es) node ≡ is_some (find text_cmp node es)
names_found node [] = refl
names_found node (e ∷ es) =
    sym (ap (λ b. b || has_text (setting_names es) node) (is_eq-slice_cmp node e.0))
    ∙ elim (is_eq (text_cmp node e.0)) as (λ b. (b || has_text (setting_names es) node)
    ≡ is_some (cond b (Some e.1) (find text_cmp node es))) [
      | true ↦ refl
      | false ↦ names_found node es
    ]

-- they are all of them, by name
pub names_are_listed : (s : SiteView) → are_rising s.nodes ≡ true → AreListed listed s (setting_names s.nodes)
names_are_listed s rising =
    record { by_name = names_rise s.nodes rising; all = λ node. names_found node s.nodes }

-- the names that are kept are those that a contract sees
pub names_kept : (es : List (List ℕ × Value)) → map (λ e. e.0) es ≡ setting_names (kept.listed es)
names_kept [] = refl
names_kept (e ∷ es) = ap (λ names. e.0 ∷ names) (names_kept es)

pub if_names : (found : Result (List (List ℕ)) Memory) (s : SiteView) → are_rising s.nodes ≡ true →
    IfOk found (λ names. names ≡ setting_names s.nodes) → IfOk found (λ names. AreListed listed s names)
if_names (Ok names) s rising is = subst (AreListed listed s) (sym is) (names_are_listed s rising)
if_names (Err memory) s rising is = tt
