-- What is read as JSON has numbers of 64 bits, or floats, and objects whose names rise.
use Rattle.std.proofs.Common.{◌≡◌, ℕ, zero, suc, ◌^◌, ◌≤◌, Bool, true, false, ◌&&◌, if◌then◌else◌, nat_lt, nat_le, drop, List, ◌∷◌, Option, Some, None, option_map, option_and_then, Less, Equal, Greater, refl, ap, subst, ◌∙◌, arith}
use Rattle.std.proofs.lemmas.Bool.{lt-ltb, leb-true}
use Rattle.std.specs.Cmp.{first_so, second_so}
use Rattle.std.specs.Cmp.Derive.{both_true}
use Rattle.std.specs.BTreeSet.{insert_key}
use Rattle.std.specs.Ordering.{match_ordering}
use Rattle.std.specs.Prelude.{⊤}
use Rattle.fast_float.specs.Text.{Parts, scan, digits_of, with_sign}
use Rattle.json.specs.Json as json
use Rattle.json.specs.Lex.{tokens}
use Rattle.serde_json.specs.Data.{Num, unsigned, negative, Data, number, array, object, item, Members, no_members, member, put}
use Rattle.serde_json.specs.Read.{number_of, number_from, float_of, is_integer, of_json, of_items, of_members, max_depth, read}
use Rattle.json_values.specs.FromData.{both}
use Rattle.pp_values.specs.Rising.{text_cmp, is_rising}
use Rattle.pp_values.proofs.RisingLemmas.{is_rising-insert_key}
use Rattle.json_documents.specs.ExactData.{names, is_number_read, is_read, are_items_read, are_members_read}

-- ---- what holds of all that there may be

abbrev pub Each : {A : Type 0} → (A → Bool) → Option A → Type 0
Each f None = ⊤
Each f (Some a) = f a ≡ true

pub each_map : {A B : Type 0} (f : A → Bool) (g : B → Bool) (h : A → B) → ((a : A) → f a ≡ true → g (h a) ≡ true) →
    (o : Option A) → Each f o → Each g (option_map h o)
each_map f g h k None x = tt
each_map f g h k (Some a) x = k a x

pub each_then : {A B : Type 0} (f : A → Bool) (g : B → Bool) (h : A → Option B) →
    ((a : A) → f a ≡ true → Each g (h a)) → (o : Option A) → Each f o → Each g (option_and_then h o)
each_then f g h k None x = tt
each_then f g h k (Some a) x = k a x

pub each_if : {A : Type 0} (f : A → Bool) (b : Bool) (o p : Option A) → (b ≡ true → Each f o) → (b ≡ false → Each f p) →
    Each f (if b then o else p)
each_if f true o p h k = h refl
each_if f false o p h k = k refl

pub each_both : {A B C : Type 0} (f : A → Bool) (g : B → Bool) (k : C → Bool) (make : A → B → C) →
    ((a : A) (b : B) → f a ≡ true → g b ≡ true → k (make a b) ≡ true) → (o : Option A) (p : Option B) →
    Each f o → Each g p → Each k (both make o p)
each_both f g k make step None p x y = tt
each_both f g k make step (Some a) p x y = each_map g k (make a) (λ b h. step a b x h) p y

-- ---- numbers

a_float : (sign : Bool) (p : Parts) → Each is_number_read (float_of sign p)
a_float sign p = each_if is_number_read _ (Some _) None (λ e. refl) (λ e. tt)

unsigned_read : (a : Bool) (n : ℕ) (o : Option Num) → Each is_number_read o →
    Each is_number_read (if a && nat_lt n (2 ^ 64) then Some (unsigned n) else o)
unsigned_read a n o h =
    each_if is_number_read (a && nat_lt n (2 ^ 64)) (Some (unsigned n)) o (λ e. second_so a (nat_lt n (2 ^ 64)) e) (λ e. h)

negative_read : (a : Bool) (n : ℕ) (o : Option Num) → Each is_number_read o →
    Each is_number_read (if a && nat_lt 0 n && nat_le n (2 ^ 63) then Some (negative (with_sign true n)) else o)
negative_read true zero o h = h
negative_read false zero o h = h
negative_read a (suc n) o h =
    each_if is_number_read (a && nat_lt 0 (suc n) && nat_le (suc n) (2 ^ 63)) (Some (negative (with_sign true (suc n)))) o
    (λ e. let most : suc n ≤ 2 ^ 63 = leb-true _ _ (second_so (a && nat_lt 0 (suc n)) _ e) in lt-ltb n (2 ^ 63) (omega arith))
    (λ e. h)

from_read : (sign : Bool) (p : Parts) → Each is_number_read (number_from sign p)
from_read false p = unsigned_read (is_integer p) (digits_of p) (float_of false p) (a_float false p)
from_read true p = negative_read (is_integer p) (digits_of p) (float_of true p) (a_float true p)

number_is_read : (s : List ℕ) → Each is_number_read (number_of s)
unfolding number_of
number_is_read s = each_if is_number_read _ _ _ (λ e. from_read true (scan (drop 1 s))) (λ e. from_read false (scan s))

-- ---- objects

names_put : (k : List ℕ) (d : Data) (ms : Members) → names (put k d ms) ≡ insert_key text_cmp (names ms) k
names_put k d no_members = refl
names_put k d (member l e ms) =
    elim (text_cmp k l) as (λ o. names (match_ordering o (member k d (member l e ms)) (member l d ms) (member l e (put k d ms)))
    ≡ match_ordering o (k ∷ l ∷ names ms) (l ∷ names ms) (l ∷ insert_key text_cmp (names ms) k)) [
      | Less ↦ refl
      | Equal ↦ refl
      | Greater ↦ ap (λ ns. l ∷ ns) (names_put k d ms)
    ]

put_read : (k : List ℕ) (d : Data) (ms : Members) → is_read d ≡ true → are_members_read ms ≡ true →
    are_members_read (put k d ms) ≡ true
put_read k d no_members h m = both_true h refl
put_read k d (member l e ms) h m =
    elim (text_cmp k l) as (λ o. are_members_read
    (match_ordering o (member k d (member l e ms)) (member l d ms) (member l e (put k d ms))) ≡ true) [
      | Less ↦ both_true h m
      | Equal ↦ both_true h (second_so (is_read e) _ m)
      | Greater ↦ both_true (first_so (is_read e) _ m) (put_read k d ms h (second_so (is_read e) _ m))
    ]

abbrev are_in_order : Members → Bool
are_in_order ms = is_rising (names ms) && are_members_read ms

put_in_order : (k : List ℕ) (d : Data) (ms : Members) → is_read d ≡ true → are_in_order ms ≡ true →
    are_in_order (put k d ms) ≡ true
put_in_order k d ms h m =
    both_true (ap is_rising (names_put k d ms) ∙ is_rising-insert_key (names ms) k (first_so (is_rising (names ms)) _ m))
    (put_read k d ms h (second_so (is_rising (names ms)) _ m))

-- ---- values

mutual
  json_is_read : (j : json.Json) → Each is_read (of_json j)
  json_is_read json.null = refl
  json_is_read (json.boolean b) = refl
  json_is_read (json.number s) = each_map is_number_read is_read number (λ n h. h) (number_of s) (number_is_read s)
  json_is_read (json.string s) = refl
  json_is_read (json.array js) = each_map are_items_read is_read array (λ ds h. h) (of_items js) (items_are_read js)
  json_is_read (json.object ms) =
      each_map are_in_order is_read object (λ found h. h) (of_members ms no_members) (members_are_read ms no_members refl)

  items_are_read : (js : json.Items) → Each are_items_read (of_items js)
  items_are_read json.no_items = refl
  items_are_read (json.item j js) =
      each_then is_read are_items_read (λ d. option_map (item d) (of_items js))
      (λ d h. each_map are_items_read are_items_read (item d) (λ ds k. both_true h k) (of_items js) (items_are_read js))
      (of_json j) (json_is_read j)

  members_are_read : (ms : json.Members) (found : Members) → are_in_order found ≡ true →
      Each are_in_order (of_members ms found)
  members_are_read json.no_members found h = h
  members_are_read (json.member k j ms) found h =
      each_then is_read are_in_order (λ d. of_members ms (put k d found))
      (λ d r. members_are_read ms (put k d found) (put_in_order k d found r h)) (of_json j) (json_is_read j)

abbrev pub any : {A : Type 0} → A → Bool
any a = true

pub all : {A : Type 0} (o : Option A) → Each any o
all None = tt
all (Some a) = refl

pub read_is_read : (text : List ℕ) (d : Data) → read text ≡ Some d → is_read d ≡ true
read_is_read text d e =
    subst (Each is_read) e (each_then any is_read of_json (λ j h. json_is_read j)
    (option_and_then (λ p. json.if_last p.0 p.1) (json.value max_depth (tokens text))) (all _))
