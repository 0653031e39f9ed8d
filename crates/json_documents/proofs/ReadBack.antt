-- The compact text of JSON without floats is that of one value, and is read as that value.
use Rattle.std.proofs.Common.{◌≡◌, ℕ, ◌+◌, ◌≤◌, ◌++◌, List, [], ◌∷◌, true, pos, negsuc, Option, Some, None, option_map, option_and_then, refl, sym, ap, ap₂, subst, ◌∙◌, arith, append-nil}
use Rattle.std.proofs.lemmas.Bool.{ltb-true}
use Rattle.std.specs.Cmp.{first_so, second_so}
use Rattle.std.specs.Option.{unwrap_or}
use Rattle.json.specs.Json as json
use Rattle.json.specs.Json.{Json, value, if_last}
use Rattle.json.specs.Token.{Token}
use Rattle.json.specs.Lex.{tokens}
use Rattle.json.specs.Print.{IsNumber}
use Rattle.json.specs.Tree as tree
use Rattle.json.specs.Tree.{json_tokens, HasNumbers, ItemsHaveNumbers, MembersHaveNumbers}
use Rattle.json.proofs.Found.{one_reading, not_found}
use Rattle.json.proofs.Nesting.{value-depth}
use Rattle.json.proofs.Printed.Decimals.{IsNumber-decimal, IsNumber-signed_decimal}
use Rattle.json.proofs.Printed.Tokens.{tokens-print}
use Rattle.json.proofs.Printed.Trees.{value-json_tokens, ArePrintable-json_tokens}
use Rattle.serde_json.specs.Data.{Num, unsigned, negative, float, Data, null, boolean, number, string, array, object, Items, no_items, item, Members, no_members, member, put, depth, items_depth, members_depth}
use Rattle.serde_json.specs.Read.{number_of, of_json, of_items, of_members, max_depth, read}
use Rattle.serde_json.specs.Written.{compact_text, number_text, outline, items_outline, members_outline}
use Rattle.serde_json.proofs.Numbers.{number_of-decimal, number_of-negative}
use Rattle.serde_json.proofs.Texts.{print-outline}
use Rattle.pp_values.proofs.RisingLemmas.{above_first}
use Rattle.pp_values.specs.Rising.{is_rising}
use Rattle.json_documents.specs.ExactData.{names, has_rising, items_have_rising, members_have_rising}
use Rattle.json_documents.specs.SmallNumbers.{is_small, has_small, items_have_small, members_have_small}

-- ---- numbers

number_read : (n : Num) → is_small n ≡ true → number_of (number_text n) ≡ Some n
number_read (unsigned n) h = number_of-decimal n (ltb-true _ _ h)
number_read (negative (pos n)) h = absurd cc
number_read (negative (negsuc n)) h = number_of-negative n (ltb-true _ _ h)
number_read (float x) h = absurd cc

is_number : (n : Num) → is_small n ≡ true → IsNumber (number_text n)
is_number (unsigned n) h = IsNumber-decimal n (ltb-true _ _ h)
is_number (negative (pos n)) h = absurd cc
is_number (negative (negsuc n)) h = IsNumber-signed_decimal (negsuc n) (ltb-true _ _ h)
is_number (float x) h = absurd cc

mutual
  have_numbers : (d : Data) → has_small d ≡ true → HasNumbers (outline d)
  have_numbers null h = tt
  have_numbers (boolean b) h = tt
  have_numbers (number n) h = is_number n h
  have_numbers (string s) h = tt
  have_numbers (array ds) h = items_numbers ds h
  have_numbers (object ms) h = members_numbers ms h

  items_numbers : (ds : Items) → items_have_small ds ≡ true → ItemsHaveNumbers (items_outline ds)
  items_numbers no_items h = tt
  items_numbers (item d ds) h =
      (have_numbers d (first_so (has_small d) _ h), items_numbers ds (second_so (has_small d) _ h))

  members_numbers : (ms : Members) → members_have_small ms ≡ true → MembersHaveNumbers (members_outline ms)
  members_numbers no_members h = tt
  members_numbers (member k d ms) h =
      (have_numbers d (first_so (has_small d) _ h), members_numbers ms (second_so (has_small d) _ h))

-- ---- from a tree back to the value

abbrev mutual
  back : Json → Data
  back json.null = null
  back (json.boolean b) = boolean b
  back (json.number s) = number (unwrap_or (number_of s) (unsigned 0))
  back (json.string s) = string s
  back (json.array js) = array (items_back js)
  back (json.object ms) = object (members_back ms)

  items_back : json.Items → Items
  items_back json.no_items = no_items
  items_back (json.item j js) = item (back j) (items_back js)

  members_back : json.Members → Members
  members_back json.no_members = no_members
  members_back (json.member k j ms) = member k (back j) (members_back ms)

mutual
  is_back : (d : Data) → has_small d ≡ true → back (outline d) ≡ d
  is_back null h = refl
  is_back (boolean b) h = refl
  is_back (number n) h = ap (λ o. number (unwrap_or o (unsigned 0))) (number_read n h)
  is_back (string s) h = refl
  is_back (array ds) h = ap array (items_are_back ds h)
  is_back (object ms) h = ap object (members_are_back ms h)

  items_are_back : (ds : Items) → items_have_small ds ≡ true → items_back (items_outline ds) ≡ ds
  items_are_back no_items h = refl
  items_are_back (item d ds) h =
      ap₂ item (is_back d (first_so (has_small d) _ h)) (items_are_back ds (second_so (has_small d) _ h))

  members_are_back : (ms : Members) → members_have_small ms ≡ true → members_back (members_outline ms) ≡ ms
  members_are_back no_members h = refl
  members_are_back (member k d ms) h =
      ap₂ (member k) (is_back d (first_so (has_small d) _ h)) (members_are_back ms (second_so (has_small d) _ h))

-- ---- texts

its_tokens : (d : Data) → has_small d ≡ true → tokens (compact_text d) ≡ json_tokens (outline d)
its_tokens d h =
    ap tokens (sym (print-outline d))
    ∙ tokens-print (json_tokens (outline d)) (ArePrintable-json_tokens (outline d) (have_numbers d h))

abbrev first_or : {A B : Type 0} → A → Option (A × B) → A
first_or x None = x
first_or x (Some p) = p.0

one_tree : (j k : Json) → json_tokens j ≡ json_tokens k → j ≡ k
one_tree j k e =
    let most = tree.depth j + tree.depth k in
    ap (first_or k)
    (sym (value-json_tokens j most [] (omega arith)) ∙ ap (λ ts. value most (ts ++ [])) e
    ∙ value-json_tokens k most [] (omega arith))

pub one_value : (d e : Data) → has_small d ≡ true → has_small e ≡ true → compact_text d ≡ compact_text e → d ≡ e
one_value d e h k same =
    sym (is_back d h)
    ∙ ap back (one_tree (outline d) (outline e) (sym (its_tokens d h) ∙ ap tokens same ∙ its_tokens e k))
    ∙ is_back e k

-- ---- the value that the text is read as

-- members before others
abbrev join : Members → Members → Members
join no_members after = after
join (member k d ms) after = member k d (join ms after)

join_end : (ms : Members) → join ms no_members ≡ ms
join_end no_members = refl
join_end (member k d ms) = ap (member k d) (join_end ms)

join_one : (done : Members) (k : List ℕ) (e : Data) (ms : Members) →
    join done (member k e ms) ≡ join (join done (member k e no_members)) ms
join_one no_members k e ms = refl
join_one (member l x done) k e ms = ap (member l x) (join_one done k e ms)

names_join : (done after : Members) → names (join done after) ≡ names done ++ names after
names_join no_members after = refl
names_join (member k e done) after = ap (λ ns. k ∷ ns) (names_join done after)

put_last : (done : Members) (k : List ℕ) (e : Data) (ms : Members) →
    is_rising (names (join done (member k e ms))) ≡ true → put k e done ≡ join done (member k e no_members)
put_last no_members k e ms h = refl
put_last (member l x done) k e ms h =
    rw (above_first l k (names done) (names ms) (subst (λ ns. is_rising (l ∷ ns) ≡ true) (names_join done (member k e ms)) h))
    (ap (member l x) (put_last done k e ms (second_so _ _ h)))

mutual
  json_read : (e : Data) → has_small e ≡ true → has_rising e ≡ true → of_json (outline e) ≡ Some e
  json_read null h r = refl
  json_read (boolean b) h r = refl
  json_read (number n) h r = ap (option_map number) (number_read n h)
  json_read (string s) h r = refl
  json_read (array ds) h r = ap (option_map array) (items_read ds h r)
  json_read (object ms) h r =
      ap (option_map object) (members_read ms no_members h (second_so (is_rising (names ms)) _ r) (first_so (is_rising (names ms)) _ r))

  items_read : (ds : Items) → items_have_small ds ≡ true → items_have_rising ds ≡ true →
      of_items (items_outline ds) ≡ Some ds
  items_read no_items h r = refl
  items_read (item e ds) h r =
      ap (option_and_then (λ x. option_map (item x) (of_items (items_outline ds))))
      (json_read e (first_so (has_small e) _ h) (first_so (has_rising e) _ r))
      ∙ ap (option_map (item e)) (items_read ds (second_so (has_small e) _ h) (second_so (has_rising e) _ r))

  members_read : (ms done : Members) → members_have_small ms ≡ true → members_have_rising ms ≡ true →
      is_rising (names (join done ms)) ≡ true → of_members (members_outline ms) done ≡ Some (join done ms)
  members_read no_members done h r rising = ap Some (sym (join_end done))
  members_read (member k e ms) done h r rising =
      ap (option_and_then (λ x. of_members (members_outline ms) (put k x done)))
      (json_read e (first_so (has_small e) _ h) (first_so (has_rising e) _ r))
      ∙ ap (of_members (members_outline ms)) (put_last done k e ms rising)
      ∙ members_read ms (join done (member k e no_members)) (second_so (has_small e) _ h)
      (second_so (has_rising e) _ r)
      (subst (λ x. is_rising (names x) ≡ true) (join_one done k e ms) rising)
      ∙ ap Some (sym (join_one done k e ms))

-- as deep as the tree that it is printed from
mutual
  same_depth : (e : Data) → tree.depth (outline e) ≡ depth e
  same_depth null = refl
  same_depth (boolean b) = refl
  same_depth (number n) = refl
  same_depth (string s) = refl
  same_depth (array ds) = omega (arith, same_items_depth ds)
  same_depth (object ms) = omega (arith, same_members_depth ms)

  same_items_depth : (ds : Items) → tree.items_depth (items_outline ds) ≡ items_depth ds
  same_items_depth no_items = refl
  same_items_depth (item e ds) = omega (arith, same_depth e, same_items_depth ds)

  same_members_depth : (ms : Members) → tree.members_depth (members_outline ms) ≡ members_depth ms
  same_members_depth no_members = refl
  same_members_depth (member k e ms) = omega (arith, same_depth e, same_members_depth ms)

abbrev whole : Option (Json × List Token) → Option Data
whole o = option_and_then of_json (option_and_then (λ p. if_last p.0 p.1) o)

-- data of small numbers and rising names is what its text is read as, where it nests no deeper than a reader goes
pub read_written : (e : Data) → has_small e ≡ true → has_rising e ≡ true → depth e ≤ max_depth →
    read (compact_text e) ≡ Some e
read_written e h r shallow =
    ap whole (ap (value max_depth) (its_tokens e h ∙ sym (append-nil (json_tokens (outline e))))
    ∙ value-json_tokens (outline e) max_depth [] (omega (arith, same_depth e)))
    ∙ json_read e h r

was_read : (o : Option (Json × List Token)) (e : Data) → whole o ≡ Some e → (j : Json) × (o ≡ Some (j, []))
was_read None e same = not_found e same
was_read (Some (j, [])) e same = (j, refl)
was_read (Some (j, t ∷ ts)) e same = not_found e same

no_deeper : (j k : Json) (ts : List Token) → value max_depth ts ≡ Some (k, []) →
    value (tree.depth j) ts ≡ Some (j, []) → tree.depth j ≤ max_depth
no_deeper j k ts found own =
    value-depth max_depth ts [] j (found ∙ one_reading max_depth (tree.depth j) ts (k, []) (j, []) found own)

-- what was read from its text nests no deeper
pub shallow_if_read : (e f : Data) → has_small e ≡ true → read (compact_text e) ≡ Some f → depth e ≤ max_depth
shallow_if_read e f h same =
    let found = was_read (value max_depth (tokens (compact_text e))) f same in
    let deep : tree.depth (outline e) ≤ max_depth =
    no_deeper (outline e) found.0 (json_tokens (outline e)) (ap (value max_depth) (sym (its_tokens e h)) ∙ found.1)
    (ap (value (tree.depth (outline e))) (sym (append-nil (json_tokens (outline e))))
    ∙ value-json_tokens (outline e) (tree.depth (outline e)) [] (omega arith)) in
    omega (arith, same_depth e, deep)
