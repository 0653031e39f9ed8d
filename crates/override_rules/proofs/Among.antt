-- The attributes that are set, in the order of their names.
use Rattle.std.proofs.Common.{◌≡◌, ℕ, zero, suc, Bool, true, false, ◌&&◌, ◌||◌, ◌==◌, cond, if◌then◌else◌, List, [], ◌∷◌, ◌++◌, length, map, filter, find, Option, None, Some, option_map, refl, sym, ap, ◌∙◌}
use Rattle.std.proofs.lemmas.List.Folds.{list_any-append}
use Rattle.std.specs.Cmp.Lexicographic.{bytes_decides, nat_list_cmp_total, nat_list_eq_equiv}
use Rattle.std.specs.declared.cmp.Ordering.{Ordering}
use Rattle.std.specs.declared.cmp.Ordering.TheVariants.{Less, Equal, Greater}
use Rattle.std.specs.List.{list_all}
use Rattle.std.specs.Ordering.{is_lt}
use Rattle.std.specs.Prelude.{option_to_list}
use Rattle.std.specs.Str.{bytes_eq}
use Rattle.pp_values.proofs.RisingLemmas.{is_rising-with_texts, has_text-with_texts}
use Rattle.pp_values.specs.Datum.{Datum}
use Rattle.pp_values.specs.Rising.{text_cmp, precedes, is_rising, has_text, sorted}
use Rattle.pp_values.specs.Settings.{Setting, setting_names}
use Rattle.res_book.specs.Rows.{is_imported, reference_of}
use Rattle.res_book.specs.declared.row.Row.{Row}
use Rattle.res_core.specs.AttributeViews.{set_in}
use Rattle.override_rules.specs.Changes.{changed, set_by}
use Rattle.override_rules.specs.Defaults.{Default, Scope, parent_of, default_in, from_scope, or_else, nearest, nearest_within}
use Rattle.override_rules.specs.Fold.{declared, after_lines}
use Rattle.override_rules.specs.Lines.{Line, lines_on}
use Rattle.override_rules.specs.Meaning.{State, defaulted, attribute_of}
use Rattle.override_rules.specs.Names.{attributes_of, is_for, names_in, names_from, names_within, line_names, default_names, names_of, settings_among}

-- ---- they rise

both : (a b : Bool) → (a && b) ≡ true → (a ≡ true) × (b ≡ true)
both true true e = (refl, refl)
both true false e = absurd cc
both false b e = absurd cc

lt_is : (o : Ordering) → is_lt o ≡ true → o ≡ Less
lt_is Less e = refl
lt_is Equal e = absurd cc
lt_is Greater e = absurd cc

lt_trans : (t u v : List ℕ) → is_lt (text_cmp t u) ≡ true → is_lt (text_cmp u v) ≡ true → is_lt (text_cmp t v) ≡ true
lt_trans t u v p q = ap is_lt (nat_list_cmp_total.trans t u v (lt_is (text_cmp t u) p) (lt_is (text_cmp u v) q))

above_all : (t u : List ℕ) (us : List (List ℕ)) → is_lt (text_cmp t u) ≡ true →
    list_all (λ v. is_lt (text_cmp u v)) us ≡ true →
    list_all (λ v. is_lt (text_cmp t v)) us ≡ true
above_all t u [] p all = refl
above_all t u (v ∷ vs) p all =
    let parts = both (is_lt (text_cmp u v)) (list_all (λ w. is_lt (text_cmp u w)) vs) all in
    let first = lt_trans t u v p parts.0 in
    rw (first, above_all t u vs p parts.1) refl

pub rising_all : (t : List ℕ) (us : List (List ℕ)) → is_rising (t ∷ us) ≡ true →
    list_all (λ v. is_lt (text_cmp t v)) us ≡ true
rising_all t [] e = refl
rising_all t (u ∷ us) e =
    let parts = both (is_lt (text_cmp t u)) (is_rising (u ∷ us)) e in
    let rest = above_all t u us parts.0 (rising_all u us parts.1) in
    rw (parts.0, rest) refl

precedes_among : (value : List ℕ → Option Datum) (t : List ℕ) (us : List (List ℕ)) →
    list_all (λ v. is_lt (text_cmp t v)) us ≡ true → precedes t (setting_names (settings_among value us)) ≡ true
precedes_among value t [] e = refl
precedes_among value t (u ∷ us) e =
    let parts = both (is_lt (text_cmp t u)) (list_all (λ v. is_lt (text_cmp t v)) us) e in
    elim (value u) as (λ o. precedes t (setting_names (option_to_list (option_map (λ d. (u, d)) o)
    ++ settings_among value us)) ≡ true)
    [ None ↦ precedes_among value t us parts.1 | Some d ↦ parts.0 ]

pub rising_among : (value : List ℕ → Option Datum) (ts : List (List ℕ)) → is_rising ts ≡ true →
    is_rising (setting_names (settings_among value ts)) ≡ true
rising_among value [] e = refl
rising_among value (t ∷ ts) e =
    let parts = both (precedes t ts) (is_rising ts) e in
    let rest = rising_among value ts parts.1 in
    let first = precedes_among value t ts (rising_all t ts e) in
    elim (value t) as (λ o. is_rising (setting_names (option_to_list (option_map (λ d. (t, d)) o)
    ++ settings_among value ts)) ≡ true)
    [ None ↦ rest | Some d ↦ rw (first, rest) refl ]

-- ---- what they have for a name

either_none : (b : Bool) (o : Option Datum) → o ≡ None → (if b then o else None) ≡ None
either_none true o e = e
either_none false o e = refl

hit : (value : List ℕ → Option Datum) (t name : List ℕ) (ts : List (List ℕ)) (o : Option Datum) → value t ≡ o →
    set_in (settings_among value ts) name ≡ (if has_text ts name then value name else None) →
    set_in (option_to_list (option_map (λ d. (t, d)) o) ++ settings_among value ts) name
    ≡ (if bytes_eq name t || has_text ts name then value name else None)
hit value t name ts None e more =
    elim (bytes_eq name t) as (λ b. bytes_eq name t ≡ b → set_in (settings_among value ts) name
    ≡ (if b || has_text ts name then value name else None)) [
      | true ↦ λ same. let none : value name ≡ None = ap value ((bytes_decides name t).0 same) ∙ e in
          more ∙ either_none (has_text ts name) (value name) none ∙ sym none
      | false ↦ λ other. more
    ] refl
hit value t name ts (Some d) e more =
    elim (bytes_eq name t) as (λ b. bytes_eq name t ≡ b →
    option_map (λ s. s.1) (cond (bytes_eq t name) (Some (t, d)) (find (λ s. bytes_eq s.0 name)
    (settings_among value ts))) ≡ (if b || has_text ts name then value name else None)) [
      | true ↦ λ same. let flipped : bytes_eq t name ≡ true = nat_list_eq_equiv.symm t name ∙ same in
          ap (λ b. option_map (λ s. s.1) (cond b (Some (t, d))
          (find (λ s. bytes_eq s.0 name) (settings_among value ts)))) flipped
          ∙ sym (ap value ((bytes_decides name t).0 same) ∙ e)
      | false ↦ λ other. let flipped : bytes_eq t name ≡ false = nat_list_eq_equiv.symm t name ∙ other in
          ap (λ b. option_map (λ s. s.1) (cond b (Some (t, d))
          (find (λ s. bytes_eq s.0 name) (settings_among value ts)))) flipped
          ∙ more
    ] refl

pub found_among : (value : List ℕ → Option Datum) (ts : List (List ℕ)) (name : List ℕ) →
    set_in (settings_among value ts) name ≡ (if has_text ts name then value name else None)
found_among value [] name = refl
found_among value (t ∷ ts) name = hit value t name ts (value t) refl (found_among value ts name)

-- ---- a name that isn't among them has no value

neither : (a b : Bool) → (a || b) ≡ false → (a ≡ false) × (b ≡ false)
neither true b e = absurd cc
neither false b e = (refl, e)

parted : (xs ys : List (List ℕ)) (name : List ℕ) → has_text (xs ++ ys) name ≡ false →
    (has_text xs name ≡ false) × (has_text ys name ≡ false)
parted xs ys name e = neither (has_text xs name) (has_text ys name) (sym (list_any-append (bytes_eq name) xs ys) ∙ e)

not_set_in : (ss : List Setting) (name : List ℕ) → has_text (setting_names ss) name ≡ false → set_in ss name ≡ None
not_set_in [] name e = refl
not_set_in (s ∷ ss) name e =
    let parts = neither (bytes_eq name s.0) (has_text (setting_names ss) name) e in
    ap (λ b. option_map (λ x. x.1) (cond b (Some s) (find (λ x. bytes_eq x.0 name) ss)))
    (nat_list_eq_equiv.symm s.0 name ∙ parts.0)
    ∙ not_set_in ss name parts.1

not_changed : (ls : List Line) (name : List ℕ) (v : Option Datum) → has_text (line_names ls) name ≡ false →
    after_lines name ls v ≡ v
unfolding after_lines
not_changed [] name v e = refl
not_changed (l ∷ ls) name v e =
    let parts = neither (bytes_eq name l.name) (has_text (line_names ls) name) e in
    ap (λ b. after_lines name ls (if b then changed l.append l.value v else v)) (nat_list_eq_equiv.symm l.name name
    ∙ parts.0)
    ∙ not_changed ls name v parts.1

no_default_there : (a b c : Bool) (d : Datum) (name x : List ℕ) (xs : List (List ℕ)) (o : Option Datum) →
    c ≡ bytes_eq name x → has_text (cond (a && b) (x ∷ xs) xs) name ≡ false →
    (has_text xs name ≡ false → o ≡ None) → cond (a && (b && c)) (Some d) o ≡ None
no_default_there true true true d name x xs o is e rest =
    let parts = neither (bytes_eq name x) (has_text xs name) e in
    absurd cc
no_default_there true true false d name x xs o is e rest = rest (neither (bytes_eq name x) (has_text xs name) e).1
no_default_there true false c d name x xs o is e rest = rest e
no_default_there false b c d name x xs o is e rest = rest e

names_there : (b : Bool) (x : Default) (xs : List Default) →
    map (λ d. d.0.name) (cond b (x ∷ xs) xs) ≡ cond b (x.0.name ∷ map (λ d. d.0.name) xs) (map (λ d. d.0.name) xs)
names_there true x xs = refl
names_there false x xs = refl

no_default : (ds : List Default) (kind : List ℕ) (scope : ℕ) (name : List ℕ) →
    has_text (names_in ds kind scope) name ≡ false →
    default_in ds kind scope name ≡ None
no_default [] kind scope name e = refl
no_default (x ∷ xs) kind scope name e =
    no_default_there (bytes_eq kind x.0.kind) (scope == x.0.scope) (bytes_eq name x.0.name) x.1 name x.0.name
    (names_in xs kind scope)
    (default_in xs kind scope name) refl
    (sym (ap (λ ts. has_text ts name)
    (names_there (is_for kind scope x.0) x (filter (λ d. is_for kind scope d.0) xs))) ∙ e)
    (no_default xs kind scope name)

outer_none : (p : Option (Option ℕ)) (own : Option Datum) (outer : Option ℕ → Option Datum) (names : List (List ℕ))
    (further : Option ℕ → List (List ℕ)) (name : List ℕ) →
    has_text (names_from p names further) name ≡ false → (has_text names name ≡ false → own ≡ None) →
    ((q : Option ℕ) → has_text (further q) name ≡ false → outer q ≡ None) → from_scope p own outer ≡ None
outer_none None own outer names further name e first rest = refl
outer_none (Some q) own outer names further name e first rest =
    let parts = parted names (further q) name e in
    ap (λ o. or_else o (outer q)) (first parts.0) ∙ rest q parts.1

not_nearest : (left : ℕ) (scopes : List Scope) (ds : List Default) (kind name : List ℕ) (from : Option ℕ) →
    has_text (names_within left scopes ds kind from) name ≡ false →
    nearest_within left scopes ds kind name from ≡ None
unfolding nearest_within names_within
not_nearest zero scopes ds kind name from e = refl
not_nearest (suc left) scopes ds kind name None e = refl
not_nearest (suc left) scopes ds kind name (Some s) e =
    outer_none (parent_of scopes s) (default_in ds kind s name) (nearest_within left scopes ds kind name)
    (names_in ds kind s)
    (names_within left scopes ds kind) name e (no_default ds kind s name)
    (λ q. not_nearest left scopes ds kind name q)

not_defaulted : (b : Bool) (o : Option Datum) (name : List ℕ) (ts : List (List ℕ)) →
    (has_text ts name ≡ false → o ≡ None) →
    has_text (if b then [] else ts) name ≡ false → (if b then None else set_by o) ≡ None
not_defaulted true o name ts h e = refl
not_defaulted false o name ts h e = ap set_by (h e)

pub not_among : (s : State) (r : Row) (name : List ℕ) → has_text (names_of s r) name ≡ false →
    attribute_of s r name ≡ None
not_among s r name e =
    let ls = lines_on (reference_of r.declared) s.lines in
    let own = setting_names r.declared.item.attributes in
    let p = parted own (line_names ls ++ default_names s r) name e in
    let q = parted (line_names ls) (default_names s r) name p.1 in
    ap (λ o. or_else o (defaulted s r name))
    (not_changed ls name (declared r.declared name) q.0 ∙ ap set_by (not_set_in r.declared.item.attributes name p.0))
    ∙ not_defaulted (is_imported r.mode) (nearest s.scopes s.defaults r.declared.item.kind name r.declared.scope) name
    (names_within (length s.scopes) s.scopes s.defaults r.declared.item.kind (Some r.declared.scope))
    (not_nearest (length s.scopes) s.scopes s.defaults r.declared.item.kind name (Some r.declared.scope)) q.1

-- ---- all together

no_more : (a : Bool) → (a || false) ≡ a
no_more true = refl
no_more false = refl

pub all_found : (s : State) (r : Row) (name : List ℕ) →
    set_in (settings_among (attribute_of s r) (sorted (names_of s r))) name ≡ attribute_of s r name
all_found s r name =
    found_among (attribute_of s r) (sorted (names_of s r)) name
    ∙ ap (λ b. if b then attribute_of s r name else None)
    (has_text-with_texts (names_of s r) [] name ∙ no_more (has_text (names_of s r) name))
    ∙ elim (has_text (names_of s r) name) as (λ b. has_text (names_of s r) name ≡ b →
    (if b then attribute_of s r name else None) ≡ attribute_of s r name)
    [ true ↦ λ e. refl | false ↦ λ e. sym (not_among s r name e) ] refl

pub all_rising : (s : State) (r : Row) →
    is_rising (setting_names (settings_among (attribute_of s r) (sorted (names_of s r)))) ≡ true
all_rising s r = rising_among (attribute_of s r) (sorted (names_of s r)) (is_rising-with_texts (names_of s r) [] refl)

pub each_found : (s : State) (r : Row) (name : List ℕ) → set_in (attributes_of s r) name ≡ attribute_of s r name
unfolding attributes_of
each_found s r name = all_found s r name
