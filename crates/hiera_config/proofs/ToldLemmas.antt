-- The options of a key, file by file, are those of its sources.
use Rattle.std.proofs.Common.{◌≡◌, ℕ, zero, suc, ◌+◌, ◌<◌, Bool, true, false, ◌&&◌, ◌||◌, cond, None, Some, Option, List, [], ◌∷◌, ◌++◌, length, drop, get_or, map, Ok, Err, refl, sym, ap, ◌∙◌, arith}
use Rattle.std.specs.Prelude.{option_map, option_and_then}
use Rattle.serde_json.specs.Data.{Data}
use Rattle.serde_json.specs.Find.{get}
use Rattle.json_values.specs.FromData.{both}
use Rattle.pp_values.specs.Datum.{Datum}
use Rattle.pp_values.specs.declared.fault.What.{What}
use Rattle.pp_values.specs.declared.fault.What.TheVariants as what
use Rattle.hiera_merge.specs.Digging.{member}
use Rattle.hiera_config.specs.Documents.{File, is_document, strict}
use Rattle.hiera_config.specs.FileOptions.{options_key, is_table, is_plain_value, is_plain_member}
use Rattle.hiera_config.specs.Meant.{Meant, go_on, in_turn}
use Rattle.hiera_config.specs.OptionTables.{are_tables, first_options, option_by, Told, told_if, told_one, over, told_all, told_or}
use Rattle.hiera_config.specs.Reached.{Reached, file, broken, reach, reach_default, read_from, read_all, or_default}
use Rattle.hiera_config.specs.Sound.{or_else}
use Rattle.hiera_config.specs.Sources as s
use Rattle.hiera_config.specs.Variables.{Variables}
use Rattle.hiera_config.proofs.ReachLemmas.{sources_read}

-- ---- what sources tell

some_source : List s.Source → Bool
some_source [] = false
some_source (x ∷ xs) = true

abbrev told_of : List ℕ → List s.Source → Told
told_of root ss = (some_source ss, first_options root ss)

abbrev told_meant : List ℕ → Meant (List s.Source) → Option Told
told_meant root (Ok ss) = cond (are_tables ss) (Some (told_of root ss)) None
told_meant root (Err w) = None

-- ---- what the higher one says counts

or_or : (a b c : Option Datum) → or_else a (or_else b c) ≡ or_else (or_else a b) c
or_or None b c = refl
or_or (Some d) b c = refl

either_either : (a b c : Bool) → (a || (b || c)) ≡ ((a || b) || c)
either_either true b c = refl
either_either false b c = refl

over_over : (a b : Told) (o : Option Told) → option_map (over a) (option_map (over b) o) ≡ option_map (over (over a b)) o
over_over a b None = refl
over_over a b (Some c) =
    ap (λ (x : Bool). Some (x, or_else a.1 (or_else b.1 c.1))) (either_either a.0 b.0 c.0)
    ∙ ap (λ (x : Option Datum). Some ((a.0 || b.0) || c.0, x)) (or_or a.1 b.1 c.1)

pub over_none : (o : Option Told) → option_map (over (false, None)) o ≡ o
over_none None = refl
over_none (Some t) = refl

or_false : (a : Bool) → (a || false) ≡ a
or_false true = refl
or_false false = refl

or_none : (o : Option Datum) → or_else o None ≡ o
or_none None = refl
or_none (Some d) = refl

over_last : (t : Told) → over t (false, None) ≡ t
over_last t =
    ap (λ (b : Bool). (b, or_else t.1 None)) (or_false t.0) ∙ ap (λ (o : Option Datum). (t.0, o)) (or_none t.1)

-- ---- one more source

some_more : (ss : List s.Source) (x : s.Source) → some_source (ss ++ x ∷ []) ≡ true
unfolding some_source
some_more [] x = refl
some_more (y ∷ ss) x = refl

some_or_true : (ss : List s.Source) → true ≡ (some_source ss || true)
unfolding some_source
some_or_true [] = refl
some_or_true (y ∷ ss) = refl

first_more : (root : List ℕ) (ss : List s.Source) (x : s.Source)
    → first_options root (ss ++ x ∷ []) ≡ or_else (first_options root ss) (member root x.0)
first_more root [] x = or_none (member root x.0)
first_more root (y ∷ ss) x =
    ap (or_else (member root y.0)) (first_more root ss x)
    ∙ or_or (member root y.0) (first_options root ss) (member root x.0)

told_more : (root : List ℕ) (ss : List s.Source) (x : s.Source)
    → told_of root (ss ++ x ∷ []) ≡ over (told_of root ss) (true, member root x.0)
told_more root ss x =
    ap (λ (b : Bool). (b, first_options root (ss ++ x ∷ []))) (some_more ss x ∙ some_or_true ss)
    ∙ ap (λ (o : Option Datum). (some_source ss || true, o)) (first_more root ss x)

and_true : (a : Bool) → (a && true) ≡ a
and_true true = refl
and_true false = refl

and_and : (a b c : Bool) → (a && (b && c)) ≡ ((a && b) && c)
and_and true b c = refl
and_and false b c = refl

tables_more : (ss : List s.Source) (x : s.Source) → are_tables (ss ++ x ∷ []) ≡ (are_tables ss && is_table x.0)
tables_more [] x = and_true (is_table x.0)
tables_more (y ∷ ss) x =
    ap (λ b. is_table y.0 && b) (tables_more ss x) ∙ and_and (is_table y.0) (are_tables ss) (is_table x.0)

-- ---- what one file adds, and what it tells

-- nothing; a table; another value; a fault
data Step (root : List ℕ) (found : List s.Source) (meant : Meant (List s.Source)) (told : Option Told) : Type 0 where
  same : meant ≡ Ok found → told ≡ Some (false, None) → Step root found meant told
  more : (x : s.Source) → is_table x.0 ≡ true → meant ≡ Ok (found ++ x ∷ []) → told ≡ Some (true, member root x.0)
      → Step root found meant told
  other : (x : s.Source) → is_table x.0 ≡ false → meant ≡ Ok (found ++ x ∷ []) → told ≡ None
      → Step root found meant told
  fault : (w : What) → meant ≡ Err w → told ≡ None → Step root found meant told

module _ (root : List ℕ) where
  table_step : (found : List s.Source) (path : List ℕ) (d : Datum) (b : Bool) → is_table d ≡ b
      → Step root found (Ok (found ++ (d, path) ∷ [])) (told_if root b (Some d))
  table_step found path d true is = more (d, path) is refl refl
  table_step found path d false is = other (d, path) is refl refl

  value_step : (found : List s.Source) (path : List ℕ) (o : Option Datum)
      → Step root found (s.value_or_fault found path o) (told_if root (is_plain_value o) o)
  value_step found path None = fault (what.BadData path) refl refl
  value_step found path (Some d) = table_step found path d (is_table d) refl

  member_step : (found : List s.Source) (path : List ℕ) (o : Option Data)
      → Step root found (s.in_member found path o) (told_if root (is_plain_member o) (option_and_then strict o))
  member_step found path None = same refl refl
  member_step found path (Some d) = value_step found path (strict d)

  document_step : (found : List s.Source) (path : List ℕ) (b : Bool) (o : Option Data)
      → Step root found (cond b (s.in_member found path o) (Err (what.BadData path)))
      (told_if root (b && is_plain_member o) (option_and_then strict o))
  document_step found path true o = member_step found path o
  document_step found path false o = fault (what.BadData path) refl refl

  one_step : (found : List s.Source) (r : Reached) → Step root found (read_from options_key found r) (told_one root r)
  one_step found (file path None) = fault (what.BadData path) refl refl
  one_step found (file path (Some d)) = document_step found path (is_document d) (get options_key d)
  one_step found (broken w) = fault w refl refl

  -- ---- all of them

  -- once a source is no table, nothing is told
  never_step : (found : List s.Source) (meant : Meant (List s.Source)) (t : Option Told)
      (k : List s.Source → Meant (List s.Source)) → are_tables found ≡ false
      → ((b : List s.Source) → are_tables b ≡ false → told_meant root (k b) ≡ None) → Step root found meant t
      → told_meant root (go_on meant k) ≡ None
  unfolding go_on
  never_step found meant t k not rest (same is tells) = ap (λ o. told_meant root (go_on o k)) is ∙ rest found not
  never_step found meant t k not rest (more x table is tells) =
      ap (λ o. told_meant root (go_on o k)) is
      ∙ rest (found ++ x ∷ []) (tables_more found x ∙ ap (λ b. b && is_table x.0) not)
  never_step found meant t k not rest (other x table is tells) =
      ap (λ o. told_meant root (go_on o k)) is
      ∙ rest (found ++ x ∷ []) (tables_more found x ∙ ap (λ b. b && is_table x.0) not)
  never_step found meant t k not rest (fault w is tells) = ap (λ o. told_meant root (go_on o k)) is

  never : (rs : List Reached) (found : List s.Source) → are_tables found ≡ false
      → told_meant root (in_turn (read_from options_key) found rs) ≡ None
  unfolding in_turn
  never [] found not = ap (λ b. cond b (Some (told_of root found)) None) not
  never (r ∷ rs) found not =
      never_step found (read_from options_key found r) (told_one root r) (λ b. in_turn (read_from options_key) b rs) not
      (never rs) (one_step found r)

  told_step : (found : List s.Source) (meant : Meant (List s.Source)) (t rest : Option Told)
      (k : List s.Source → Meant (List s.Source)) → are_tables found ≡ true
      → ((b : List s.Source) → are_tables b ≡ true
      → told_meant root (k b) ≡ option_map (over (told_of root b)) rest)
      → ((b : List s.Source) → are_tables b ≡ false → told_meant root (k b) ≡ None) → Step root found meant t
      → told_meant root (go_on meant k) ≡ option_map (over (told_of root found)) (both over t rest)
  unfolding go_on
  told_step found meant t rest k are next none (same is tells) =
      ap (λ o. told_meant root (go_on o k)) is ∙ next found are
      ∙ ap (option_map (over (told_of root found))) (sym (over_none rest))
      ∙ ap (λ o. option_map (over (told_of root found)) (both over o rest)) (sym tells)
  told_step found meant t rest k are next none (more x table is tells) =
      ap (λ o. told_meant root (go_on o k)) is
      ∙ next (found ++ x ∷ [])
      (tables_more found x ∙ ap (λ b. b && is_table x.0) are ∙ table)
      ∙ ap (λ a. option_map (over a) rest) (told_more root found x)
      ∙ sym (over_over (told_of root found) (true, member root x.0) rest)
      ∙ ap (λ o. option_map (over (told_of root found)) (both over o rest)) (sym tells)
  told_step found meant t rest k are next none (other x table is tells) =
      ap (λ o. told_meant root (go_on o k)) is
      ∙ none (found ++ x ∷ [])
      (tables_more found x ∙ ap (λ b. b && is_table x.0) are ∙ table)
      ∙ ap (λ o. option_map (over (told_of root found)) (both over o rest)) (sym tells)
  told_step found meant t rest k are next none (fault w is tells) =
      ap (λ o. told_meant root (go_on o k)) is
      ∙ ap (λ o. option_map (over (told_of root found)) (both over o rest)) (sym tells)

  all_told : (rs : List Reached) (found : List s.Source) → are_tables found ≡ true
      → told_meant root (in_turn (read_from options_key) found rs)
      ≡ option_map (over (told_of root found)) (told_all root rs)
  unfolding in_turn
  all_told [] found are =
      ap (λ b. cond b (Some (told_of root found)) None) are ∙ ap Some (sym (over_last (told_of root found)))
  all_told (r ∷ rs) found are =
      told_step found (read_from options_key found r) (told_one root r) (told_all root rs)
      (λ b. in_turn (read_from options_key) b rs) are (all_told rs) (never rs) (one_step found r)

  from_none : (rs : List Reached) → told_meant root (in_turn (read_from options_key) [] rs) ≡ told_all root rs
  unfolding some_source
  from_none rs = all_told rs [] refl ∙ over_none (told_all root rs)

  -- ---- with the default levels

  option_told : (o : Meant (List s.Source)) → option_by root o ≡ option_map (λ t. t.1) (told_meant root o)
  option_told (Ok ss) = elim (are_tables ss) as (λ b. cond b (Some (first_options root ss)) None
      ≡ option_map (λ (t : Told). t.1) (cond b (Some (told_of root ss)) None)) [
        | true ↦ refl
        | false ↦ refl
      ]
  option_told (Err w) = refl

  or_told : (o : Meant (List s.Source)) (ds : List Reached)
      → option_by root (go_on o (or_default options_key ds)) ≡ told_or (told_meant root o) (told_all root ds)
  unfolding go_on some_source
  or_told (Ok []) ds =
      option_told (in_turn (read_from options_key) [] ds) ∙ ap (option_map (λ (t : Told). t.1)) (from_none ds)
  or_told (Ok (x ∷ xs)) ds = elim (are_tables (x ∷ xs)) as (λ b. cond b (Some (first_options root (x ∷ xs))) None
      ≡ told_or (cond b (Some (told_of root (x ∷ xs))) None) (told_all root ds)) [
        | true ↦ refl
        | false ↦ refl
      ]
  or_told (Err w) ds = refl

  pub option_read : (rs ds : List Reached)
      → option_by root (read_all options_key rs ds) ≡ told_or (told_all root rs) (told_all root ds)
  option_read rs ds =
      or_told (in_turn (read_from options_key) [] rs) ds ∙ ap (λ o. told_or o (told_all root ds)) (from_none rs)

  -- ---- one after another

  pub told_at : {X : Type 0} (of : X → Reached) (xs : List X) (i : ℕ) (x : X) → i < length xs → x ≡ get_or xs i x
      → told_all root (map of (drop i xs))
      ≡ both over (told_one root (of x)) (told_all root (map of (drop (i + 1) xs)))
  told_at of [] i x h at = absurd (omega arith)
  told_at of (y ∷ xs) zero x h at = rw at refl
  told_at of (y ∷ xs) (suc i) x h at =
      let h' : i < length xs = omega arith in
      let e : suc i + 1 ≡ suc (i + 1) = omega arith in
      rw e (told_at of xs i x h' at)

pub one_told : (here left rest whole : Option Told) (now this next : Told) → left ≡ both over here rest
    → Some this ≡ here → next ≡ over now this → both over (Some now) left ≡ whole → both over (Some next) rest ≡ whole
one_told here left rest whole now this next split tells is held =
    ap (λ t. option_map (over t) rest) is ∙ sym (over_over now this rest)
    ∙ ap (λ o. option_map (over now) (both over o rest)) tells ∙ ap (option_map (over now)) (sym split) ∙ held

pub none_told : (here left rest whole : Option Told) (now : Told) → left ≡ both over here rest → None ≡ here
    → both over (Some now) left ≡ whole → None ≡ whole
none_told here left rest whole now split tells held =
    ap (λ o. option_map (over now) (both over o rest)) tells ∙ ap (option_map (over now)) (sym split) ∙ held

pub end_told : (t : Told) (rest whole : Option Told) → rest ≡ Some (false, None) → both over (Some t) rest ≡ whole
    → Some t ≡ whole
end_told t rest whole none held =
    ap Some (sym (over_last t)) ∙ ap (option_map (over t)) (sym none) ∙ held

-- ---- the options of a key

pub option_files : (files : List File) (v : Variables) (name : Option (List ℕ)) (root : List ℕ) (rs : List Reached)
    (t : Option Told) → rs ≡ reach files v name → t ≡ told_all root rs
    → told_or t (told_all root (reach_default files v name)) ≡ option_by root (s.sources files v name options_key)
option_files files v name root rs t is tells =
    ap (λ o. told_or o (told_all root (reach_default files v name))) (tells ∙ ap (told_all root) is)
    ∙ sym (option_read root (reach files v name) (reach_default files v name))
    ∙ ap (option_by root) (sym (sources_read files options_key v name))
