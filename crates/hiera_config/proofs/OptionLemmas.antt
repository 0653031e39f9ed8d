-- Tables of options: put one over another, from the lowest up, they say what the highest that has a key says.
use Rattle.std.proofs.Common.{◌≡◌, Bor, ℕ, Bool, true, false, ◌&&◌, cond, None, Some, Option, IsTrue, List, [], ◌∷◌, ◌++◌, refl, sym, ap, ◌∙◌, true≢false}
use Rattle.std.specs.Prelude.{option_map, option_copied}
use Rattle.std.specs.BTreeMap.{is_at}
use Rattle.std.specs.Map.{lookup}
use Rattle.std.specs.Str.{bytes_eq}
use Rattle.std.proofs.lemmas.List.{map-append}
use Rattle.std.proofs.lemmas.Map.Text.{is_eq-slice_cmp}
use Rattle.std.proofs.lemmas.Slice.Eq.{bytes_eq-Decides}
use Rattle.pp_values.specs.Datum.{Datum, undef, flag, int, text, list, hash, reference, kind, default, Pair, entries_of, pairs_of}
use Rattle.pp_values.specs.Keys.{same_key, are_distinct, value_at}
use Rattle.pp_values.specs.Rising.{text_cmp}
use Rattle.pp_values.specs.Views.{view, pair_view, pair_views}
use Rattle.pp_values.specs.declared.value.Value.{Value}
use Rattle.pp_values.proofs.Lists.{pairs_of-entries_of}
use Rattle.hiera_merge.specs.Digging.{member}
use Rattle.hiera_merge.specs.Merges.{pairs_in}
use Rattle.hiera_config.specs.declared.searching.Source as declared
use Rattle.hiera_config.specs.Found.{source_view, source_views}
use Rattle.hiera_config.specs.FileOptions.{is_table, option_among}
use Rattle.hiera_config.specs.OptionTables.{are_tables, first_options, PutsOver}
use Rattle.hiera_config.specs.Sound.{or_else}
use Rattle.hiera_config.specs.Sources.{Source}
use Rattle.hiera_config.proofs.Booleans.{both_left, both_right}

-- what a hash of the code's own says of its keys
pub with_distinct : (b : Bool) (ps : List Pair) → IsTrue (are_distinct ps)
    → b ≡ (b && are_distinct (pairs_of (entries_of ps)))
with_distinct true ps distinct = sym (ap are_distinct (pairs_of-entries_of ps) ∙ distinct)
with_distinct false ps distinct = refl

-- a table has no places, but keys
pub table_member : (d : Datum) (root : List ℕ) → is_table d ≡ true → member root d ≡ value_at (text root) (pairs_in d)
table_member undef root is = absurd (cc is)
table_member (flag b) root is = absurd (cc is)
table_member (int z) root is = absurd (cc is)
table_member (text t) root is = absurd (cc is)
table_member (list ds) root is = absurd (cc is)
table_member (hash es) root is = refl
table_member (reference r) root is = absurd (cc is)
table_member (kind s) root is = absurd (cc is)
table_member default root is = absurd (cc is)

-- ---- the first that is there, of some and then of others

or_or : (a b c : Option Datum) → or_else (or_else a b) c ≡ or_else a (or_else b c)
or_or None b c = refl
or_or (Some d) b c = refl

value_apart : (k : Datum) (ps qs : List Pair) → value_at k (ps ++ qs) ≡ or_else (value_at k ps) (value_at k qs)
value_apart k [] qs = refl
value_apart k (p ∷ ps) qs =
    elim (same_key k p.0) as (λ b. cond b (Some p.1) (value_at k (ps ++ qs))
    ≡ or_else (cond b (Some p.1) (value_at k ps)) (value_at k qs)) [
      | true ↦ refl
      | false ↦ value_apart k ps qs
    ]

first_apart : (root : List ℕ) (ss ts : List Source)
    → first_options root (ss ++ ts) ≡ or_else (first_options root ss) (first_options root ts)
first_apart root [] ts = refl
first_apart root (s ∷ ss) ts =
    ap (or_else (member root s.0)) (first_apart root ss ts)
    ∙ sym (or_or (member root s.0) (first_options root ss) (first_options root ts))

all_of : (a b : Bool) → a ≡ true → b ≡ true → (a && b) ≡ true
all_of a b left right = rw (left, right) refl

last_table : (ss : List Source) (s : Source) → are_tables (ss ++ s ∷ []) ≡ true → is_table s.0 ≡ true
last_table [] s are = both_left (is_table s.0) true are
last_table (x ∷ ss) s are = last_table ss s (both_right (is_table x.0) (are_tables (ss ++ s ∷ [])) are)

others_tables : (ss : List Source) (s : Source) → are_tables (ss ++ s ∷ []) ≡ true → are_tables ss ≡ true
others_tables [] s are = refl
others_tables (x ∷ ss) s are =
    all_of (is_table x.0) (are_tables ss) (both_left (is_table x.0) (are_tables (ss ++ s ∷ [])) are)
    (others_tables ss s (both_right (is_table x.0) (are_tables (ss ++ s ∷ [])) are))

-- ---- one pair

turned : (a b : List ℕ) → bytes_eq a b ≡ true → bytes_eq b a ≡ true
turned a b is = (bytes_eq-Decides b a).1 (sym ((bytes_eq-Decides a b).0 is))

by_turns : (x y : Bool) → (x ≡ true → y ≡ true) → (y ≡ true → x ≡ true) → x ≡ y
by_turns true true f g = refl
by_turns false false f g = refl
by_turns true false f g = absurd (true≢false (sym (f refl)))
by_turns false true f g = absurd (true≢false (sym (g refl)))

same_text : (key root : List ℕ) → is_at (text_cmp key) root ≡ bytes_eq root key
same_text key root =
    is_eq-slice_cmp key root ∙ by_turns (bytes_eq key root) (bytes_eq root key) (turned key root) (turned root key)

abbrev Kept : Type 0
Kept = List (List ℕ × Value)

chosen : (b : Bool) (v : Value) (o : Option Value)
    → option_map view (cond b (Some v) o) ≡ or_else (cond b (Some (view v)) None) (option_map view o)
chosen true v o = refl
chosen false v o = refl

pub put_one : (old new : Kept) (key : List ℕ) (v : Value) → ((q : List ℕ)
    → lookup (is_at (text_cmp q)) new ≡ cond (is_at (text_cmp key) q) (Some v) (lookup (is_at (text_cmp q)) old))
    → PutsOver ((text key, view v) ∷ []) old new
put_one old new key v updates = λ root.
    ap (option_map view) (updates root)
    ∙ chosen (is_at (text_cmp key) root) v (lookup (is_at (text_cmp root)) old)
    ∙ ap (λ b. or_else (cond b (Some (view v)) None) (option_among old root)) (same_text key root)

-- ---- pairs, the last first

pairs_apart : (root : List ℕ) (rest : List (Value × Value)) (p : Value × Value)
    → value_at (text root) (pair_views (rest ++ p ∷ []))
    ≡ or_else (value_at (text root) (pair_views rest)) (value_at (text root) (pair_view p ∷ []))
pairs_apart root rest p =
    ap (value_at (text root)) (map-append pair_view rest (p ∷ []))
    ∙ value_apart (text root) (pair_views rest) (pair_view p ∷ [])

pub one_less : (root : List ℕ) (left rest : List (Value × Value)) (p : Value × Value) (old new : Kept)
    (whole : Option Datum) → left ≡ rest ++ p ∷ [] → PutsOver (pair_view p ∷ []) old new
    → or_else (value_at (text root) (pair_views left)) (option_among old root) ≡ whole
    → or_else (value_at (text root) (pair_views rest)) (option_among new root) ≡ whole
one_less root left rest p old new whole parts puts held =
    let here = value_at (text root) (pair_view p ∷ []) in
    ap (or_else (value_at (text root) (pair_views rest))) (puts root)
    ∙ sym (or_or (value_at (text root) (pair_views rest)) here (option_among old root))
    ∙ ap (λ o. or_else o (option_among old root)) (sym (pairs_apart root rest p))
    ∙ ap (λ ps. or_else (value_at (text root) (pair_views ps)) (option_among old root)) (sym parts)
    ∙ held

-- ---- tables, the lowest first

alone : (o : Option Datum) → o ≡ or_else o None
alone None = refl
alone (Some d) = refl

first_alone : (root : List ℕ) (s : Source) → member root s.0 ≡ first_options root (s ∷ [])
first_alone root s = alone (member root s.0)

pub tables_left : (left rest : List declared.Source) (s : declared.Source) → left ≡ rest ++ s ∷ []
    → are_tables (source_views left) ≡ true → are_tables (source_views rest) ≡ true
tables_left left rest s parts are =
    others_tables (source_views rest) (source_view s)
    (ap are_tables (sym (map-append source_view rest (s ∷ []))) ∙ ap (λ ss. are_tables (source_views ss)) (sym parts)
    ∙ are)

pub one_higher : (root : List ℕ) (left rest : List declared.Source) (s : declared.Source) (old new : Kept)
    (whole : Option Datum) → left ≡ rest ++ s ∷ [] → are_tables (source_views left) ≡ true
    → PutsOver (pairs_in (view s.value)) old new
    → or_else (first_options root (source_views left)) (option_among old root) ≡ whole
    → or_else (first_options root (source_views rest)) (option_among new root) ≡ whole
one_higher root left rest s old new whole parts are puts held =
    let apart : source_views left ≡ source_views rest ++ source_view s ∷ [] =
    ap source_views parts ∙ map-append source_view rest (s ∷ []) in
    let table : is_table (view s.value) ≡ true =
    last_table (source_views rest) (source_view s) (ap are_tables (sym apart) ∙ are) in
    let lower = option_among old root in
    ap (or_else (first_options root (source_views rest)))
    (puts root ∙ ap (λ o. or_else o lower) (sym (table_member (view s.value) root table)))
    ∙ ap (λ o. or_else (first_options root (source_views rest)) (or_else o lower))
    (first_alone root (source_view s))
    ∙ sym (or_or (first_options root (source_views rest)) (first_options root (source_view s ∷ [])) lower)
    ∙ ap (λ o. or_else o lower) (sym (first_apart root (source_views rest) (source_view s ∷ [])))
    ∙ ap (λ ss. or_else (first_options root ss) lower) (sym apart)
    ∙ held

-- ---- what is kept

pub lent_option : (o : Option (Bor Value)) (p : Option Value) → option_copied o ≡ p
    → option_map (λ (v : Bor Value). view v.now) o ≡ option_map view p
lent_option None p is = ap (option_map view) is
lent_option (Some v) p is = ap (option_map view) is
