-- Options that interpolate nothing: what the merged tables say of a root key.
use Rattle.std.proofs.Common.{◌≡◌, ◌≢◌, ℕ, Bool, true, false, cond, ◌&&◌, ◌-◌, None, Some, Option, IsTrue, List, [], ◌∷◌, ◌++◌, map, Ok, refl, sym, ap, ◌∙◌, true≢false}
use Rattle.std.specs.Prelude.{◌||◌, ◌==◌, Err, option_and_then}
use Rattle.std.specs.Str.{bytes_eq}
use Rattle.std.proofs.lemmas.Bool.Decides.{Decides-eqb}
use Rattle.pp_values.specs.Datum.{Datum, undef, flag, int, text, list, hash, reference, kind, default, Pair, entries_of, pairs_of}
use Rattle.pp_values.specs.Keys.{same_key, are_distinct, value_at, with_pair}
use Rattle.pp_values.proofs.Lists.{pairs_of-entries_of, entries_of-pairs_of}
use Rattle.hiera_config.specs.Literals.{is_literal, are_literal_pairs}
use Rattle.hiera_config.specs.Meant.{Meant, go_on}
use Rattle.hiera_config.specs.FileOptions.{is_table}
use Rattle.hiera_config.specs.OptionTables.{are_tables, first_options, option_by}
use Rattle.hiera_config.specs.Sound.{or_else}
use Rattle.hiera_config.specs.Sources.{Source}
use Rattle.hiera_config.proofs.OptionLemmas.{table_member}
use Rattle.hiera_config.proofs.Booleans.{both_left, both_right}
use Rattle.hiera_merge.specs.declared.merge.Merge.{Merge}
use Rattle.hiera_merge.specs.declared.merge.Merge.TheVariants as by
use Rattle.hiera_merge.specs.DeepSteps.{AreKeyed}
use Rattle.hiera_merge.specs.Merges.{pairs_in, with_pairs, is_hash, takes}
use Rattle.hiera_merge.proofs.HashLemmas.{none_put, value_put, hash_distinct}
use Rattle.hiera_lookup.specs.Found.{found, found_in, dug_or_refused}
use Rattle.hiera_lookup.specs.Look.{Looks, is_busy, look, look_within, merge_for, option_for, interpolated}
use Rattle.hiera_lookup.specs.Options.{options_key, option_in, of_options, or_bad}
use Rattle.hiera_lookup.specs.Plain.{joined_tables, merge_by, plain_merge}
use Rattle.hiera_lookup.specs.World.{World}
use Rattle.hiera_lookup.proofs.LiteralValues.{literal_whole}
use Rattle.hiera_lookup.proofs.Steps.{look_free, option_looked}

-- ---- a table is a hash with each key once, in which nothing is interpolated

all_of : (a b : Bool) → a ≡ true → b ≡ true → (a && b) ≡ true
all_of a b left right = rw (left, right) refl

table_distinct : (d : Datum) → is_table d ≡ true → IsTrue (are_distinct (pairs_in d))
table_distinct undef is = absurd (cc is)
table_distinct (flag b) is = absurd (cc is)
table_distinct (int z) is = absurd (cc is)
table_distinct (text t) is = absurd (cc is)
table_distinct (list ds) is = absurd (cc is)
table_distinct (hash es) is = both_right (are_literal_pairs es) (are_distinct (pairs_of es)) is
table_distinct (reference r) is = absurd (cc is)
table_distinct (kind s) is = absurd (cc is)
table_distinct default is = absurd (cc is)

table_literal : (d : Datum) → is_table d ≡ true → are_literal_pairs (entries_of (pairs_in d)) ≡ true
table_literal undef is = absurd (cc is)
table_literal (flag b) is = absurd (cc is)
table_literal (int z) is = absurd (cc is)
table_literal (text t) is = absurd (cc is)
table_literal (list ds) is = absurd (cc is)
table_literal (hash es) is =
    ap are_literal_pairs (entries_of-pairs_of es) ∙ both_left (are_literal_pairs es) (are_distinct (pairs_of es)) is
table_literal (reference r) is = absurd (cc is)
table_literal (kind s) is = absurd (cc is)
table_literal default is = absurd (cc is)

-- ---- tables joined are such a table

tables_distinct : (ss : List Source) → are_tables ss ≡ true → AreKeyed (map (λ s. s.0) ss)
tables_distinct [] are = tt
tables_distinct (s ∷ ss) are = (
  table_distinct s.0 (both_left (is_table s.0) (are_tables ss) are),
  tables_distinct ss (both_right (is_table s.0) (are_tables ss) are),
)

pair_literal : (k v : Datum) (ps : List Pair) → is_literal k ≡ true → is_literal v ≡ true
    → are_literal_pairs (entries_of ps) ≡ true → are_literal_pairs (entries_of (with_pair k v ps)) ≡ true
pair_literal k v [] key value is = rw (key, value) refl
pair_literal k v (p ∷ ps) key value is =
    let rest : (is_literal p.1 && are_literal_pairs (entries_of ps)) ≡ true =
    both_right (is_literal p.0) (is_literal p.1 && are_literal_pairs (entries_of ps)) is in
    let first : is_literal p.0 ≡ true =
    both_left (is_literal p.0) (is_literal p.1 && are_literal_pairs (entries_of ps)) is in
    let later : are_literal_pairs (entries_of ps) ≡ true =
    both_right (is_literal p.1) (are_literal_pairs (entries_of ps)) rest in
    elim (same_key k p.0) as (λ b.
    are_literal_pairs (entries_of (cond b ((p.0, v) ∷ ps) (p ∷ with_pair k v ps))) ≡ true) [
      | true ↦ all_of (is_literal p.0) _ first (all_of (is_literal v) _ value later)
      | false ↦
          all_of (is_literal p.0) _ first
          (all_of (is_literal p.1) _ (both_left (is_literal p.1) (are_literal_pairs (entries_of ps)) rest)
          (pair_literal k v ps key value later))
    ]

pairs_literal : (ps out : List Pair) → are_literal_pairs (entries_of ps) ≡ true
    → are_literal_pairs (entries_of out) ≡ true → are_literal_pairs (entries_of (with_pairs ps out)) ≡ true
pairs_literal [] out is there = there
pairs_literal (p ∷ ps) out is there =
    let rest : (is_literal p.1 && are_literal_pairs (entries_of ps)) ≡ true =
    both_right (is_literal p.0) (is_literal p.1 && are_literal_pairs (entries_of ps)) is in
    pairs_literal ps (with_pair p.0 p.1 out) (both_right (is_literal p.1) (are_literal_pairs (entries_of ps)) rest)
    (pair_literal p.0 p.1 out (both_left (is_literal p.0) (is_literal p.1 && are_literal_pairs (entries_of ps)) is)
    (both_left (is_literal p.1) (are_literal_pairs (entries_of ps)) rest) there)

tables_literal : (ss : List Source) → are_tables ss ≡ true → are_literal_pairs (entries_of (joined_tables ss)) ≡ true
tables_literal [] are = refl
tables_literal (s ∷ ss) are =
    pairs_literal (pairs_in s.0) (joined_tables ss) (table_literal s.0 (both_left (is_table s.0) (are_tables ss) are))
    (tables_literal ss (both_right (is_table s.0) (are_tables ss) are))

joined_literal : (ss : List Source) → are_tables ss ≡ true → is_literal (hash (entries_of (joined_tables ss))) ≡ true
joined_literal ss are =
    all_of (are_literal_pairs (entries_of (joined_tables ss))) (are_distinct (pairs_of (entries_of (joined_tables ss))))
    (tables_literal ss are)
    (ap are_distinct (pairs_of-entries_of (joined_tables ss))
    ∙ hash_distinct (map (λ s. s.0) ss) (tables_distinct ss are))

are_hashes : (ss : List Source) → are_tables ss ≡ true → takes by.Hash (map (λ s. s.0) ss) ≡ true
are_hashes [] are = refl
are_hashes (s ∷ ss) are =
    all_of (is_hash s.0) (takes by.Hash (map (λ (x : Source). x.0) ss))
    (both_left (is_hash s.0) (is_literal s.0) (both_left (is_table s.0) (are_tables ss) are))
    (are_hashes ss (both_right (is_table s.0) (are_tables ss) are))

-- ---- the value of a key is that of the highest table which has it

over_lower : (k : Datum) (ps out : List Pair) (o : Option Datum) → IsTrue (are_distinct ps) → value_at k ps ≡ o
    → or_else o (value_at k out) ≡ value_at k (with_pairs ps out)
over_lower k ps out None distinct is = sym (none_put k ps out is)
over_lower k ps out (Some v) distinct is = sym (value_put k v ps out distinct is)

pub first_of_tables : (root : List ℕ) (ss : List Source) → are_tables ss ≡ true
    → first_options root ss ≡ value_at (text root) (joined_tables ss)
first_of_tables root [] are = refl
first_of_tables root (s ∷ ss) are =
    let table : is_table s.0 ≡ true = both_left (is_table s.0) (are_tables ss) are in
    ap (λ o. or_else o (first_options root ss)) (table_member s.0 root table)
    ∙ ap (or_else (value_at (text root) (pairs_in s.0)))
    (first_of_tables root ss (both_right (is_table s.0) (are_tables ss) are))
    ∙ over_lower (text root) (pairs_in s.0) (joined_tables ss) (value_at (text root) (pairs_in s.0))
    (table_distinct s.0 table) refl

-- ---- the look-up of the options gives the joined tables as they are

found_none : (w : World) (m : Option (List ℕ)) → w.had m options_key ≡ Ok [] → found w m options_key by.Hash ≡ Ok None
unfolding found found_in go_on
found_none w m none = ap (λ o. go_on o (found_in options_key by.Hash)) none

within_none : (w : World) (f : Looks) (busy : List (List ℕ)) (m : Option (List ℕ)) → w.had m options_key ≡ Ok []
    → look_within w f busy m options_key (Some by.Hash) ≡ Ok (None, [])
unfolding look_within merge_for interpolated go_on
within_none w f busy m none = ap (λ o. go_on o (interpolated w f busy)) (found_none w m none)

found_tables : (w : World) (m : Option (List ℕ)) (s : Source) (ss : List Source) → w.had m options_key ≡ Ok (s ∷ ss)
    → are_tables (s ∷ ss) ≡ true
    → found w m options_key by.Hash ≡ Ok (Some (hash (entries_of (joined_tables (s ∷ ss)))))
unfolding found found_in go_on
found_tables w m s ss told are =
    ap (λ o. go_on o (found_in options_key by.Hash)) told
    ∙ ap (λ b. dug_or_refused options_key (cond b (Some (hash (entries_of (joined_tables (s ∷ ss))))) None))
    (are_hashes (s ∷ ss) are)

within_tables : (w : World) (f : Looks) (busy : List (List ℕ)) (m : Option (List ℕ)) (s : Source) (ss : List Source)
    → w.had m options_key ≡ Ok (s ∷ ss) → are_tables (s ∷ ss) ≡ true
    → look_within w f busy m options_key (Some by.Hash)
    ≡ Ok (Some (hash (entries_of (joined_tables (s ∷ ss)))), [])
unfolding look_within merge_for go_on
within_tables w f busy m s ss told are =
    ap (λ o. go_on o (interpolated w f busy)) (found_tables w m s ss told are)
    ∙ literal_whole w f busy (hash (entries_of (joined_tables (s ∷ ss)))) (joined_literal (s ∷ ss) are)

options_say : (w : World) (m : Option (List ℕ)) (root : List ℕ) (merge : Merge) (o : Option Datum)
    → merge_by o ≡ Some merge → of_options w m [] root o ≡ Ok merge
options_say w m root merge None is = ap Ok (cc is)
options_say w m root merge (Some d) is = ap (or_bad w m [] root) is

by_sources : (w : World) (f : Looks) (busy : List (List ℕ)) (m : Option (List ℕ)) (root : List ℕ) (merge : Merge)
    (ss : List Source) → w.had m options_key ≡ Ok ss → are_tables ss ≡ true
    → merge_by (value_at (text root) (joined_tables ss)) ≡ Some merge
    → go_on (look_within w f busy m options_key (Some by.Hash)) (option_in w m root) ≡ Ok merge
unfolding go_on option_in
by_sources w f busy m root merge [] told are is =
    ap (λ o. go_on o (option_in w m root)) (within_none w f busy m told) ∙ ap Ok (cc is)
by_sources w f busy m root merge (s ∷ ss) told are is =
    let ps = joined_tables (s ∷ ss) in
    ap (λ o. go_on o (option_in w m root)) (within_tables w f busy m s ss told are)
    ∙ ap (λ qs. of_options w m [] root (value_at (text root) qs)) (pairs_of-entries_of ps)
    ∙ options_say w m root merge (value_at (text root) ps) is

-- ---- where it is plain

from_tables : (root : List ℕ) (ss : List Source) (merge : Merge) (b : Bool) → are_tables ss ≡ b
    → Some merge ≡ option_and_then merge_by (cond b (Some (first_options root ss)) None)
    → (are_tables ss ≡ true) × (merge_by (value_at (text root) (joined_tables ss)) ≡ Some merge)
from_tables root ss merge true are is = (are, ap merge_by (sym (first_of_tables root ss are)) ∙ sym is)
from_tables root ss merge false are is = absurd (cc is)

by_told : (w : World) (f : Looks) (busy : List (List ℕ)) (m : Option (List ℕ)) (root : List ℕ) (merge : Merge)
    (o : Meant (List Source)) → w.had m options_key ≡ o → Some merge ≡ option_and_then merge_by (option_by root o)
    → go_on (look_within w f busy m options_key (Some by.Hash)) (option_in w m root) ≡ Ok merge
by_told w f busy m root merge (Ok ss) told is =
    let tables = from_tables root ss merge (are_tables ss) refl is in
    by_sources w f busy m root merge ss told tables.0 tables.1
by_told w f busy m root merge (Err e) told is = absurd (cc is)

left_false : (a b : Bool) → (a || b) ≡ false → a ≡ false
left_false true b is = absurd (cc is)
left_false false b is = refl

right_false : (a b : Bool) → (a || b) ≡ false → b ≡ false
right_false true b is = absurd (cc is)
right_false false b is = is

plain_by : (w : World) (n : ℕ) (busy : List (List ℕ)) (m : Option (List ℕ)) (root : List ℕ) (merge : Merge) (b : Bool)
    → ((n == 0) || is_busy busy options_key) ≡ b
    → Some merge ≡ cond b None (option_and_then merge_by (option_by root (w.had m options_key)))
    → bytes_eq root options_key ≡ false → option_for w (look w n) busy m root ≡ Ok merge
plain_by w n busy m root merge true begins is other = absurd (cc is)
plain_by w n busy m root merge false begins is other =
    let none = left_false (n == 0) (is_busy busy options_key) begins in
    let more : n ≢ 0 = λ zero. true≢false (sym ((Decides-eqb n 0).1 zero) ∙ none) in
    option_looked w (look w n) busy m root other
    ∙ ap (λ o. go_on o (option_in w m root))
    (look_free w n busy m options_key (Some by.Hash) (right_false (n == 0) (is_busy busy options_key) begins) more)
    ∙ by_told w (look w (n - 1)) (busy ++ options_key ∷ []) m root merge (w.had m options_key) refl is

pub plain_is : (w : World) (n : ℕ) (busy : List (List ℕ)) (m : Option (List ℕ)) (root : List ℕ) (merge : Merge)
    → Some merge ≡ plain_merge w n busy m root → bytes_eq root options_key ≡ false
    → option_for w (look w n) busy m root ≡ Ok merge
plain_is w n busy m root merge is other =
    plain_by w n busy m root merge ((n == 0) || is_busy busy options_key) refl is other
