-- What is set where no line and no default concerns a declaration.
use Rattle.std.proofs.Common.{◌≡◌, ℕ, Bool, true, false, ◌||◌, ◌==◌, cond, if◌then◌else◌, List, [], ◌∷◌, ◌++◌, length, filter, find, Option, None, Some, is_some, Result, Ok, Err, IfOk, OnOk, IsTrue, option_map, refl, sym, ap, ◌∙◌, arith}
use Rattle.std.proofs.lemmas.Bool.{eqb-true}
use Rattle.std.proofs.lemmas.List.{append-nil}
use Rattle.std.proofs.lemmas.Map.Text.{is_eq-slice_cmp}
use Rattle.std.specs.Cmp.{first_so, second_so, tied_itself}
use Rattle.std.specs.Cmp.Derive.{both_true}
use Rattle.std.specs.Cmp.Lexicographic.{bytes_decides, nat_list_cmp_total}
use Rattle.std.specs.declared.cmp.Ordering.{Ordering}
use Rattle.std.specs.declared.cmp.Ordering.TheVariants.{Less, Equal, Greater}
use Rattle.std.specs.List.{list_all}
use Rattle.std.specs.Ordering.{is_lt, is_eq}
use Rattle.std.specs.Prelude.{option_to_list}
use Rattle.std.specs.Str.{bytes_eq}
use Rattle.pp_values.proofs.RisingLemmas.{is_rising-with_texts, has_text-with_texts, same_rising}
use Rattle.pp_values.specs.Datum.{Datum, undef, flag, int, text, list, hash, reference, kind, default}
use Rattle.pp_values.specs.Rising.{text_cmp, precedes, is_rising, has_text, sorted}
use Rattle.pp_values.specs.Settings.{Setting, setting_names}
use Rattle.res_book.specs.Rows.{is_imported, reference_of}
use Rattle.res_book.specs.declared.row.Row.{Row}
use Rattle.res_core.specs.AttributeViews.{set_in}
use Rattle.override_rules.proofs.Among.{rising_all}
use Rattle.override_rules.proofs.NoDefaults.{no_names, no_nearest}
use Rattle.override_rules.specs.Changes.{set_to, set_by}
use Rattle.override_rules.specs.Defaults.{defaults_for, nearest, or_else}
use Rattle.override_rules.specs.Fold.{declared, after_lines}
use Rattle.override_rules.specs.Lines.{Line, lines_on}
use Rattle.override_rules.specs.Meaning.{State, defaulted, attribute_of, touched_by}
use Rattle.override_rules.specs.Names.{attributes_of, default_names, is_set, line_names, names_of, names_within, settings_among}

-- ---- names that rise stand once each

less : (o : Ordering) → is_lt o ≡ true → is_eq o ≡ false
less Less e = refl
less Equal e = absurd cc
less Greater e = absurd cc

not_first : (t name : List ℕ) (us : List (List ℕ)) → list_all (λ v. is_lt (text_cmp t v)) us ≡ true →
    has_text us name ≡ true → bytes_eq t name ≡ false
not_first t name [] above there = absurd cc
not_first t name (u ∷ us) above there =
    elim (bytes_eq name u) as (λ b. bytes_eq name u ≡ b → (b || has_text us name) ≡ true → bytes_eq t name ≡ false) [
      | true ↦ λ same more. ap (bytes_eq t) ((bytes_decides name u).0 same)
          ∙ sym (is_eq-slice_cmp t u) ∙ less (text_cmp t u) (first_so _ _ above)
      | false ↦ λ other more. not_first t name us (second_so (is_lt (text_cmp t u)) _ above) more
    ] refl there

itself : (t : List ℕ) → bytes_eq t t ≡ true
itself t = sym (is_eq-slice_cmp t t) ∙ ap is_eq (tied_itself nat_list_cmp_total t)

or_right : (a b : Bool) → b ≡ true → (a || b) ≡ true
or_right true b e = refl
or_right false b e = e

no_more : (a : Bool) → (a || false) ≡ a
no_more true = refl
no_more false = refl

in_order : (ts : List (List ℕ)) → is_rising ts ≡ true → sorted ts ≡ ts
in_order ts rises =
    same_rising (sorted ts) ts (is_rising-with_texts ts [] refl) rises
    (λ q. has_text-with_texts ts [] q ∙ no_more (has_text ts q))

-- ---- one setting after another

set_same : (d e : Datum) → set_to d ≡ Some e → d ≡ e
set_same undef e h = absurd cc
set_same (flag b) e h = cc
set_same (int n) e h = cc
set_same (text t) e h = cc
set_same (list ds) e h = cc
set_same (hash es) e h = cc
set_same (reference q) e h = cc
set_same (kind k) e h = cc
set_same default e h = cc

one_set : (s : Setting) (ss : List Setting) →
    option_to_list (option_map (λ d. (s.0, d)) (set_to s.1)) ++ ss ≡ cond (is_set s) (s ∷ ss) ss
one_set s ss =
    elim (set_to s.1) as (λ o. set_to s.1 ≡ o → option_to_list (option_map (λ d. (s.0, d)) o) ++ ss ≡ cond (is_some o) (s ∷ ss) ss) [
      | None ↦ λ e. refl
      | Some d ↦ λ e. ap (λ x. (s.0, x) ∷ ss) (sym (set_same s.1 d e))
    ] refl

own_among : (value : List ℕ → Option Datum) (ss : List Setting) → is_rising (setting_names ss) ≡ true →
    ((name : List ℕ) → has_text (setting_names ss) name ≡ true → value name ≡ set_by (set_in ss name)) →
    settings_among value (setting_names ss) ≡ filter is_set ss
own_among value [] rises own = refl
own_among value (s ∷ ss) rises own =
    ap (λ o. option_to_list (option_map (λ d. (s.0, d)) o) ++ settings_among value (setting_names ss)) first
    ∙ one_set s (settings_among value (setting_names ss))
    ∙ ap (λ xs. cond (is_set s) (s ∷ xs) xs) (own_among value ss (second_so _ _ rises) others) where
      found : Bool → List ℕ → Option Datum
      found b name = set_by (option_map (λ x. x.1) (cond b (Some s) (find (λ x. bytes_eq x.0 name) ss)))

      first : value s.0 ≡ set_to s.1
      first = own s.0 (ap (λ b. b || has_text (setting_names ss) s.0) (itself s.0)) ∙ ap (λ b. found b s.0) (itself s.0)

      others : (name : List ℕ) → has_text (setting_names ss) name ≡ true → value name ≡ set_by (set_in ss name)
      others name there =
          own name (or_right (bytes_eq name s.0) _ there)
          ∙ ap (λ b. found b name) (not_first s.0 name (setting_names ss) (rising_all s.0 (setting_names ss) rises) there)

-- ---- what sets something rises as all do

above_set : (t : List ℕ) (ss : List Setting) → list_all (λ v. is_lt (text_cmp t v)) (setting_names ss) ≡ true →
    precedes t (setting_names (filter is_set ss)) ≡ true
above_set t [] above = refl
above_set t (s ∷ ss) above =
    elim (is_set s) as (λ b. precedes t (setting_names (cond b (s ∷ filter is_set ss) (filter is_set ss))) ≡ true)
    [ true ↦ first_so _ _ above | false ↦ above_set t ss (second_so (is_lt (text_cmp t s.0)) _ above) ]

pub set_rising : (ss : List Setting) → is_rising (setting_names ss) ≡ true →
    is_rising (setting_names (filter is_set ss)) ≡ true
set_rising [] rises = refl
set_rising (s ∷ ss) rises =
    let rest = set_rising ss (second_so (precedes s.0 (setting_names ss)) _ rises) in
    elim (is_set s) as (λ b. is_rising (setting_names (cond b (s ∷ filter is_set ss) (filter is_set ss))) ≡ true) [
      | true ↦ both_true (above_set s.0 ss (rising_all s.0 (setting_names ss) rises)) rest
      | false ↦ rest
    ]

-- ---- a declaration that nothing else concerns

empty : {A : Type 0} (xs : List A) → length xs ≡ 0 → xs ≡ []
empty [] e = refl
empty (x ∷ xs) e = absurd cc

or_none : (o : Option Datum) → or_else o None ≡ o
or_none None = refl
or_none (Some d) = refl

no_lines : (name : List ℕ) (ls : List Line) (v : Option Datum) → ls ≡ [] → after_lines name ls v ≡ v
unfolding after_lines
no_lines name ls v none = ap (λ xs. after_lines name xs v) none

pub untouched : (s : State) (r : Row) → touched_by s r ≡ 0 →
    is_rising (setting_names r.declared.item.attributes) ≡ true →
    attributes_of s r ≡ filter is_set r.declared.item.attributes
unfolding attributes_of
untouched s r none rises =
    ap (settings_among (attribute_of s r)) (ap sorted names ∙ in_order own rises)
    ∙ own_among (attribute_of s r) r.declared.item.attributes rises (λ name there. value name) where
      own : List (List ℕ)
      own = setting_names r.declared.item.attributes

      lines : length (lines_on (reference_of r.declared) s.lines) ≡ 0
      lines = omega (arith, none)

      defaults : length (defaults_for r.declared.item.kind s.defaults) ≡ 0
      defaults = omega (arith, none)

      none_on : lines_on (reference_of r.declared) s.lines ≡ []
      none_on = empty _ lines

      none_named : default_names s r ≡ []
      none_named =
          elim (is_imported r.mode) as (λ b. (if b then [] else names_within (length s.scopes) s.scopes s.defaults r.declared.item.kind (Some r.declared.scope)) ≡ [])
          [ true ↦ refl | false ↦ no_names _ s.scopes s.defaults r.declared.item.kind _ defaults ]

      names : names_of s r ≡ own
      names = ap (λ ls. own ++ (line_names ls ++ default_names s r)) none_on ∙ ap (λ ts. own ++ ts) none_named ∙ append-nil own

      none_defaulted : (name : List ℕ) → defaulted s r name ≡ None
      none_defaulted name =
          elim (is_imported r.mode) as (λ b. (if b then None else set_by (nearest s.scopes s.defaults r.declared.item.kind name r.declared.scope)) ≡ None)
          [ true ↦ refl | false ↦ ap set_by (no_nearest _ s.scopes s.defaults r.declared.item.kind name _ defaults) ]

      value : (name : List ℕ) → attribute_of s r name ≡ set_by (set_in r.declared.item.attributes name)
      value name =
          ap (λ o. or_else (after_lines name (lines_on (reference_of r.declared) s.lines) (declared r.declared name)) o) (none_defaulted name)
          ∙ or_none _
          ∙ no_lines name _ (declared r.declared name) none_on

-- and so where a test says that nothing concerns it
pub told_untouched : (s : State) (r : Row) (b : Bool) → b ≡ (touched_by s r == 0) → b ≡ true →
    is_rising (setting_names r.declared.item.attributes) ≡ true →
    attributes_of s r ≡ filter is_set r.declared.item.attributes
told_untouched s r b is holds = untouched s r (eqb-true (touched_by s r) 0 (sym is ∙ holds))

-- what a copy of what sets something is
pub copied : {E : Type 0} (s : State) (r : Row) (b : Bool) → b ≡ (touched_by s r == 0) → b ≡ true →
    (result : Result (List Setting) E) → IfOk result (λ a. a ≡ filter is_set r.declared.item.attributes) →
    OnOk result (IsTrue (is_rising (setting_names r.declared.item.attributes))) →
    IfOk result (λ a. a ≡ attributes_of s r)
copied s r b is holds (Ok a) set rises = set ∙ sym (told_untouched s r b is holds rises)
copied s r b is holds (Err e) set rises = tt
