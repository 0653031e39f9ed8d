-- Declarations that no metaparameter relates to others.
use Rattle.std.proofs.Common.{◌≡◌, ℕ, Bool, true, false, not, ◌||◌, ◌==◌, cond, IsTrue, List, [], ◌∷◌, filter, find, None, Some, option_map, Result, Ok, refl, sym, ap, ◌∙◌}
use Rattle.std.specs.Cmp.Lexicographic.{bytes_decides}
use Rattle.std.specs.List.{list_any}
use Rattle.std.specs.Str.{bytes_eq}
use Rattle.pp_values.specs.Answers.{and_then}
use Rattle.pp_values.specs.Rising.{is_rising}
use Rattle.pp_values.specs.Settings.{Setting, setting_names}
use Rattle.pp_values.specs.declared.fault.Fault.{Fault}
use Rattle.pp_values.specs.declared.place.Place.{Place}
use Rattle.res_core.specs.AttributeViews.{set_in, settings}
use Rattle.res_core.specs.Metaparameters.{is_relation_name}
use Rattle.res_core.specs.declared.attribute.Attribute.{Attribute}
use Rattle.res_book.specs.declared.row.Row.{Row}
use Rattle.override_rules.proofs.Alone.{told_untouched}
use Rattle.override_rules.specs.Meaning.{State, touched_by}
use Rattle.override_rules.specs.Names.{attributes_of, is_set}
use Rattle.catalog_finish.specs.EdgeTables.{Entry, edges_from, joined}
use Rattle.catalog_finish.specs.RelationParameters.{does_relate, joined_by, name_of}
use Rattle.catalog_finish.specs.Relating.{metaparameter_step, row_related, set_targets}
use Rattle.catalog_finish.specs.Sources.{Sources}
use Rattle.catalog_finish.specs.declared.relating.Metaparameter.{Metaparameter}
use Rattle.catalog_finish.specs.declared.relating.Metaparameter.TheVariants as parameter

neither : (a b : Bool) → (a || b) ≡ false → (a ≡ false) × (b ≡ false)
neither true b e = absurd cc
neither false b e = (refl, e)

neither_back : (a b : Bool) → a ≡ false → b ≡ false → (a || b) ≡ false
neither_back true b e f = absurd cc
neither_back false b e f = f

-- ---- of the attributes that are set

seen : (attributes : List Attribute) → does_relate (settings attributes) ≡ list_any (λ a. is_relation_name a.name) attributes
seen [] = refl
seen (a ∷ rest) = ap (λ b. is_relation_name a.name || b) (seen rest)

fewer : (ss : List Setting) → does_relate ss ≡ false → does_relate (filter is_set ss) ≡ false
fewer [] e = refl
fewer (s ∷ ss) e =
    let parts = neither (is_relation_name s.0) (does_relate ss) e in
    elim (is_set s) as (λ b. does_relate (cond b (s ∷ filter is_set ss) (filter is_set ss)) ≡ false) [
      | true ↦ neither_back (is_relation_name s.0) (does_relate (filter is_set ss)) parts.0 (fewer ss parts.1)
      | false ↦ fewer ss parts.1
    ]

-- of a declaration that nothing else concerns
pub untouched_apart : (s : State) (r : Row) (b : Bool) (attributes : List Attribute) → b ≡ (touched_by s r == 0) → b ≡ true →
    settings attributes ≡ r.declared.item.attributes → IsTrue (is_rising (setting_names r.declared.item.attributes)) →
    list_any (λ a. is_relation_name a.name) attributes ≡ false → does_relate (attributes_of s r) ≡ false
untouched_apart s r b attributes told holds is rises none =
    ap does_relate (told_untouched s r b told holds rises)
    ∙ fewer r.declared.item.attributes (sym (ap does_relate is) ∙ seen attributes ∙ none)

-- as the declaration tells by itself
pub told_alone : (s : State) (r : Row) (b c : Bool) (attributes : List Attribute) → b ≡ (touched_by s r == 0) →
    b ≡ true → settings attributes ≡ r.declared.item.attributes →
    c ≡ list_any (λ a. is_relation_name a.name) attributes →
    c ≡ (not (touched_by s r == 0) || does_relate r.declared.item.attributes)
told_alone s r b c attributes told holds is some =
    some ∙ sym (seen attributes) ∙ ap does_relate is
    ∙ ap (λ t. not t || does_relate r.declared.item.attributes) (sym holds ∙ told)

pub told_touched : (s : State) (r : Row) (b : Bool) → b ≡ (touched_by s r == 0) → b ≡ false →
    true ≡ (not (touched_by s r == 0) || does_relate r.declared.item.attributes)
told_touched s r b told holds = ap (λ t. not t || does_relate r.declared.item.attributes) (sym holds ∙ told)

-- ---- and so of what they relate

known : (m : Metaparameter) → is_relation_name (name_of m) ≡ true
unfolding is_relation_name
known parameter.Before = refl
known parameter.Require = refl
known parameter.Notify = refl
known parameter.Subscribe = refl

both_ways : {A : Type 0} (b : Bool) → b ≡ true → b ≡ false → A
both_ways b is is_not = cc

none_named : (m : Metaparameter) (ss : List Setting) → does_relate ss ≡ false → set_in ss (name_of m) ≡ None
none_named m [] e = refl
none_named m (s ∷ ss) e =
    let parts = neither (is_relation_name s.0) (does_relate ss) e in
    elim (bytes_eq s.0 (name_of m)) as (λ b. bytes_eq s.0 (name_of m) ≡ b → option_map (λ x. x.1) (cond b (Some s) (find (λ x. bytes_eq x.0 (name_of m)) ss)) ≡ None) [
      | true ↦ λ same. both_ways (is_relation_name s.0) (ap is_relation_name ((bytes_decides s.0 (name_of m)).0 same) ∙ known m) parts.0
      | false ↦ λ other. none_named m ss parts.1
    ] refl

no_join : (m : Metaparameter) (i : ℕ) (es : List Entry) → joined_by m i [] es ≡ es
unfolding edges_from joined
no_join parameter.Before i es = refl
no_join parameter.Require i es = refl
no_join parameter.Notify i es = refl
no_join parameter.Subscribe i es = refl

step_none : (t : Sources) (at : Place) (i : ℕ) (ss : List Setting) (m : Metaparameter) (es : List Entry) →
    does_relate ss ≡ false → metaparameter_step t at i ss m es ≡ Ok es
step_none t at i ss m es e =
    ap (λ o. and_then (set_targets t at (name_of m) o) (λ others. Ok (joined_by m i others es))) (none_named m ss e)
    ∙ ap Ok (no_join m i es)

pub unrelated : (t : Sources) (i : ℕ) (r : Row) (es : List Entry) → does_relate (attributes_of t.state r) ≡ false →
    row_related t i r es ≡ Ok es
unrelated t i r es e =
    ap (λ m. and_then m first) (step parameter.Before)
    ∙ ap (λ m. and_then m second) (step parameter.Require)
    ∙ ap (λ m. and_then m third) (step parameter.Notify)
    ∙ step parameter.Subscribe where
      ss : List Setting
      ss = attributes_of t.state r

      step : (m : Metaparameter) → metaparameter_step t r.declared.at i ss m es ≡ Ok es
      step m = step_none t r.declared.at i ss m es e

      third : List Entry → Result (List Entry) Fault
      third xs = metaparameter_step t r.declared.at i ss parameter.Subscribe xs

      second : List Entry → Result (List Entry) Fault
      second xs = and_then (metaparameter_step t r.declared.at i ss parameter.Notify xs) third

      first : List Entry → Result (List Entry) Fault
      first xs = and_then (metaparameter_step t r.declared.at i ss parameter.Require xs) second
