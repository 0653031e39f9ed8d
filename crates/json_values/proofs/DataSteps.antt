-- The loops of data, and the facts that they make.
use Rattle.std.proofs.Common.{◌≡◌, true, Bool, ◌&&◌, IsTrue, List, [], ◌∷◌, ◌++◌, Option, Some, None, String, string_bytes, refl, ap, sym, ◌∙◌, Less}
use Rattle.std.specs.declared.alloc.Global.{Global}
use Rattle.std.specs.Cmp.{first_so, second_so}
use Rattle.std.specs.Cmp.Derive.{both_true}
use Rattle.std.specs.List.{AllByRecursion}
use Rattle.std.specs.List.Sorted.{IsStrictlySortedBy}
use Rattle.std.specs.Map.{keys_of}
use Rattle.std.specs.Ordering.{is_lt}
use Rattle.std.specs.String.{string_cmp}
use Rattle.serde_json.specs.declared.value.Value.{Value as Json}
use Rattle.serde_json.specs.View.{view as json_view, items_view, members_view}
use Rattle.pp_values.specs.declared.value.Value.{Value}
use Rattle.pp_values.specs.Datum.{text, data_of, entries_of}
use Rattle.pp_values.specs.Facts.{is_fact, are_members, are_pairs, is_next_above}
use Rattle.pp_values.specs.Views.{view, views, pair_views}
use Rattle.json_values.specs.declared.stops.Numbers.{Numbers}
use Rattle.json_values.specs.FromData.{data_value, item_values, member_values, both}
use Rattle.json_values.proofs.Items.{Entry, list_so_far, hash_so_far, list_step, hash_step, hash_whole}

-- ---- items

pub item_made : (m : Numbers) (values : List Value) (value : Value) (item : Json) (left : List Json) → data_value m (json_view item) ≡ Some (view value)
    → list_so_far (values ++ value ∷ []) (item_values m (items_view left)) ≡ list_so_far values (item_values m (items_view (item ∷ left)))
item_made m values value item left made = list_step (item_values m (items_view left)) values value ∙ sym (rw made refl)

-- ---- members

pub member_made : (m : Numbers) (pairs : List (Value × Value)) (key value : Value) (name : String Global) (member : Json) (es left : List Entry) → es ≡ (name, member) ∷ left → view key ≡ text (string_bytes name)
    → data_value m (json_view member) ≡ Some (view value) → hash_so_far (pairs ++ (key, value) ∷ []) (member_values m (members_view left)) ≡ hash_so_far pairs (member_values m (members_view es))
member_made m pairs key value name member es left is named made =
    hash_step (member_values m (members_view left)) pairs (key, value) ∙ sym (rw (is, made, named) refl)

pub no_members_left : (m : Numbers) (pairs : List (Value × Value)) (es : List Entry) → es ≡ [] → hash_so_far pairs (member_values m (members_view es)) ≡ Some (entries_of (pair_views pairs))
no_members_left m pairs es is = rw is (hash_whole pairs)

-- ---- facts

pub one_more_fact : (xs : List Value) (x : Value) → IsTrue (are_members (data_of (views xs))) → IsTrue (is_fact (view x)) → IsTrue (are_members (data_of (views (xs ++ x ∷ []))))
one_more_fact [] x h f = both_true f refl
one_more_fact (y ∷ xs) x h f = both_true (first_so (is_fact (view y)) (are_members (data_of (views xs))) h) (one_more_fact xs x (second_so (is_fact (view y)) (are_members (data_of (views xs))) h) f)

-- the values of the pairs are facts
abbrev pub have_facts : List (Value × Value) → Bool
have_facts [] = true
have_facts (p ∷ ps) = is_fact (view p.1) && have_facts ps

pub one_more_pair : (ps : List (Value × Value)) (p : Value × Value) → IsTrue (have_facts ps) → IsTrue (is_fact (view p.1)) → IsTrue (have_facts (ps ++ p ∷ []))
one_more_pair [] p h f = both_true f refl
one_more_pair (q ∷ ps) p h f = both_true (first_so (is_fact (view q.1)) (have_facts ps) h) (one_more_pair ps p (second_so (is_fact (view q.1)) (have_facts ps) h) f)

both_split : {A B C : Type 0} (f : A → B → C) (a : Option A) (b : Option B) (c : C) → both f a b ≡ Some c → (x : A) × (y : B) × (a ≡ Some x) × (b ≡ Some y) × (f x y ≡ c)
both_split f None b c e = absurd cc
both_split f (Some x) None c e = absurd cc
both_split f (Some x) (Some y) c e = (x, y, refl, refl, cc)

-- the first name, if there is one, is above this one
first_above : (m : Numbers) (k : String Global) (es : List Entry) (ps : List (Value × Value)) → member_values m (members_view es) ≡ Some (entries_of (pair_views ps)) → AllByRecursion (λ y. string_cmp k y ≡ Less) (keys_of es)
    → IsTrue (is_next_above (string_bytes k) (entries_of (pair_views ps)))
first_above m k [] [] is above = refl
first_above m k [] (p ∷ ps) is above = absurd cc
first_above m k (e ∷ es) [] is above = let s = both_split _ _ _ _ is in absurd (cc (s.4))
first_above m k (e ∷ es) (p ∷ ps) is above =
    let s = both_split _ _ _ _ is in
    let here : text (string_bytes e.0) ≡ view p.0 = cc (s.4) in
    rw (← here) (ap is_lt above.0)

-- what is made of an object are facts
pub members_are_facts : (m : Numbers) (es : List Entry) (ps : List (Value × Value)) → member_values m (members_view es) ≡ Some (entries_of (pair_views ps)) → IsStrictlySortedBy string_cmp (keys_of es)
    → IsTrue (have_facts ps) → IsTrue (are_pairs (entries_of (pair_views ps)))
unfolding IsStrictlySortedBy
members_are_facts m [] [] is sorted facts = refl
members_are_facts m [] (p ∷ ps) is sorted facts = absurd cc
members_are_facts m (e ∷ es) [] is sorted facts = let s = both_split _ _ _ _ is in absurd (cc (s.4))
members_are_facts m (e ∷ es) (p ∷ ps) is sorted facts =
    let s = both_split _ _ _ _ is in
    let here : text (string_bytes e.0) ≡ view p.0 = cc (s.4) in
    let rest : member_values m (members_view es) ≡ Some (entries_of (pair_views ps)) = s.3 ∙ ap Some (cc (s.4)) in
    let after = members_are_facts m es ps rest sorted.1 (second_so (is_fact (view p.1)) (have_facts ps) facts) in
    rw (← here) (both_true (first_so (is_fact (view p.1)) (have_facts ps) facts) (both_true (first_above m e.0 es ps rest sorted.0) after))
