-- Reading forms: its loops, and its long hashes.
use Rattle.std.proofs.Common.{◌≡◌, true, false, List, [], ◌∷◌, ◌++◌, Some, None, option_and_then, String, string_bytes, refl, ap, sym, ◌∙◌}
use Rattle.std.proofs.lemmas.List.{map-append}
use Rattle.std.specs.declared.alloc.Global.{Global}
use Rattle.serde_json.specs.declared.value.Value.{Value as Json}
use Rattle.serde_json.specs.View.{view as json_view, items_view, members_view}
use Rattle.pp_values.specs.declared.value.Value.{Value}
use Rattle.pp_values.specs.Datum.{Datum, text, list, hash, Pair, data_of, entries_of}
use Rattle.pp_values.specs.Keys.{are_distinct}
use Rattle.pp_values.specs.Members.{opened}
use Rattle.pp_values.specs.Views.{view, views, pair_view, pair_views}
use Rattle.pp_values.proofs.Lists.{members_of-data_of, pairs_of-entries_of}
use Rattle.json_values.specs.ValueForm.{is_plain}
use Rattle.json_values.specs.Forms.{value_of, values_of, members_of, in_turn, hash_in_turn, long_hash, last_value}
use Rattle.json_values.proofs.Items.{Entry, list_so_far, hash_so_far, list_step, hash_step, hash_whole}

-- ---- items and members

pub item_read : (values : List Value) (value : Value) (item : Json) (left : List Json) → value_of (json_view item) ≡ Some (view value)
    → list_so_far (values ++ value ∷ []) (values_of (items_view left)) ≡ list_so_far values (values_of (items_view (item ∷ left)))
item_read values value item left made = list_step (values_of (items_view left)) values value ∙ sym (rw made refl)

pub member_read : (pairs : List (Value × Value)) (key value : Value) (name : String Global) (member : Json) (es left : List Entry) → es ≡ (name, member) ∷ left → view key ≡ text (string_bytes name)
    → value_of (json_view member) ≡ Some (view value) → hash_so_far (pairs ++ (key, value) ∷ []) (members_of (members_view left)) ≡ hash_so_far pairs (members_of (members_view es))
member_read pairs key value name member es left is named made =
    hash_step (members_of (members_view left)) pairs (key, value) ∙ sym (rw (is, made, named) refl)

pub no_members_left : (pairs : List (Value × Value)) (es : List Entry) → es ≡ [] → hash_so_far pairs (members_of (members_view es)) ≡ Some (entries_of (pair_views pairs))
no_members_left pairs es is = rw is (hash_whole pairs)

-- ---- keys and values in turn

pub two_read : (pairs : List (Value × Value)) (key value : Value) (left all mid : List Value) → all ≡ key ∷ mid → mid ≡ value ∷ left
    → hash_so_far (pairs ++ (key, value) ∷ []) (in_turn (data_of (views left))) ≡ hash_so_far pairs (in_turn (data_of (views all)))
two_read pairs key value left all mid is was = hash_step (in_turn (data_of (views left))) pairs (key, value) ∙ sym (rw (is, was) refl)

pub none_left : (pairs : List (Value × Value)) (all : List Value) → all ≡ [] → hash_so_far pairs (in_turn (data_of (views all))) ≡ Some (entries_of (pair_views pairs))
none_left pairs all is = rw is (hash_whole pairs)

-- ---- the last value

last_is : (ps : List Pair) (p : Pair) → last_value (ps ++ p ∷ []) ≡ p.1
last_is [] p = refl
last_is (q ∷ []) p = refl
last_is (q ∷ r ∷ ps) p = last_is (r ∷ ps) p

pub last_read : (all front : List (Value × Value)) (p : Value × Value) → all ≡ front ++ p ∷ [] → view p.1 ≡ last_value (pair_views all)
last_read all front p is =
    sym (ap (λ ps. last_value (pair_views ps)) is ∙ ap last_value (map-append pair_view front (p ∷ [])) ∙ last_is (pair_views front) (pair_view p))

-- ---- long hashes

pub long_is : (ps : List Pair) → are_distinct ps ≡ true → is_plain (entries_of ps) ≡ false → long_hash (entries_of ps) ≡ Some (hash (entries_of ps))
long_is ps distinct plain = rw (pairs_of-entries_of ps, distinct, plain) refl

pub not_distinct : (ps : List Pair) → are_distinct ps ≡ false → long_hash (entries_of ps) ≡ None
not_distinct ps distinct = rw (pairs_of-entries_of ps, distinct) refl

pub members_in : (d : Datum) (ds vs : List Datum) → d ≡ list (data_of ds) → vs ≡ opened d
    → hash_in_turn d ≡ option_and_then long_hash (in_turn (data_of vs))
members_in d ds vs is are =
    rw (are ∙ ap opened is ∙ members_of-data_of ds, is) refl
