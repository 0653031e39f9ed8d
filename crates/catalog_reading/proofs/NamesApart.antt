-- Resources are told apart by their names, and names by a set that grows.
use Rattle.std.proofs.Common.{◌≡◌, ℕ, Bool, true, false, not, ◌&&◌, ◌||◌, nat_eq, List, [], ◌∷◌, ◌++◌, map, refl, ap, ap₂, ◌∙◌, arith}
use Rattle.std.proofs.lemmas.Map.Text.{is_eq-slice_cmp}
use Rattle.std.specs.BTreeMap.{is_at}
use Rattle.std.specs.BTreeSet.{insert_key}
use Rattle.std.specs.Cmp.{first_so, second_so}
use Rattle.std.specs.Cmp.Lexicographic.{nat_list_eq_equiv}
use Rattle.std.specs.List.{list_all, list_any}
use Rattle.std.specs.Str.{bytes_eq}
use Rattle.pp_values.proofs.RisingLemmas.{has_text-insert_key}
use Rattle.pp_values.specs.Kinds.{is_kind, is_kind_byte}
use Rattle.pp_values.specs.References.{same_reference}
use Rattle.pp_values.specs.Rising.{has_text, text_cmp}
use Rattle.res_core.specs.Catalogs.{are_apart, has_form, reference_of}
use Rattle.res_core.specs.declared.held.Held.{Held}
use Rattle.catalog_reading.specs.CatalogReading.{name_of}

-- ---- two names

not_bracket : (b : ℕ) → is_kind_byte b ≡ true → nat_eq b 91 ≡ false
not_bracket b h = grind arith

bracket_not : (b : ℕ) → is_kind_byte b ≡ true → nat_eq 91 b ≡ false
bracket_not b h = grind arith

grouped : (a b c : Bool) → (a && (b && c)) ≡ ((a && b) && c)
grouped true b c = refl
grouped false b c = refl

never : (a b : Bool) → a ≡ false → (a && b) ≡ false
never true b e = absurd cc
never false b e = refl

-- the kind ends at the first `[`
by_parts : (k l t u : List ℕ) → list_all is_kind_byte k ≡ true → list_all is_kind_byte l ≡ true →
    bytes_eq (k ++ 91 ∷ t) (l ++ 91 ∷ u) ≡ (bytes_eq k l && bytes_eq t u)
by_parts [] [] t u h g = refl
by_parts [] (y ∷ ys) t u h g = never _ _ (bracket_not y (first_so (is_kind_byte y) _ g))
by_parts (x ∷ xs) [] t u h g = never _ _ (not_bracket x (first_so (is_kind_byte x) _ h))
by_parts (x ∷ xs) (y ∷ ys) t u h g =
    ap (λ b. nat_eq x y && b)
    (by_parts xs ys t u (second_so (is_kind_byte x) _ h) (second_so (is_kind_byte y) _ g))
    ∙ grouped (nat_eq x y) (bytes_eq xs ys) (bytes_eq t u)

kind_bytes : (k : List ℕ) → is_kind k ≡ true → list_all is_kind_byte k ≡ true
kind_bytes [] h = refl
kind_bytes (b ∷ bs) h = h

kind_of : (h : Held) → has_form h ≡ true → list_all is_kind_byte h.item.kind ≡ true
kind_of h f = kind_bytes h.item.kind (first_so (is_kind h.item.kind) _ f)

-- a name tells what a reference does
one_name : (h g : Held) → has_form h ≡ true → has_form g ≡ true →
    bytes_eq (name_of h) (name_of g) ≡ same_reference (reference_of h) (reference_of g)
one_name h g e f = by_parts h.item.kind g.item.kind h.item.title g.item.title (kind_of h e) (kind_of g f)

-- ---- names of which none stands twice

abbrev all_apart : List (List ℕ) → Bool
all_apart [] = true
all_apart (n ∷ ns) = not (has_text ns n) && all_apart ns

named_once : (h : Held) (hs : List Held) → has_form h ≡ true → list_all has_form hs ≡ true →
    has_text (map name_of hs) (name_of h) ≡ list_any (same_reference (reference_of h)) (map reference_of hs)
named_once h [] e f = refl
named_once h (g ∷ gs) e f =
    ap₂ (λ a b. a || b) (one_name h g e (first_so (has_form g) _ f)) (named_once h gs e (second_so (has_form g) _ f))

as_references : (hs : List Held) → list_all has_form hs ≡ true →
    all_apart (map name_of hs) ≡ are_apart (map reference_of hs)
as_references [] f = refl
as_references (h ∷ hs) f =
    let rest = second_so (has_form h) _ f in
    ap₂ (λ a b. not a && b) (named_once h hs (first_so (has_form h) _ f) rest) (as_references hs rest)

-- ---- with a set of those that came before

pub found_so : (n : List ℕ) (ks : List (List ℕ)) → list_any (is_at (text_cmp n)) ks ≡ has_text ks n
found_so n [] = refl
found_so n (k ∷ ks) = ap₂ (λ a b. a || b) (is_eq-slice_cmp n k) (found_so n ks)

-- none of the names was seen, and none stands twice
abbrev pub are_new : List (List ℕ) → List (List ℕ) → Bool
are_new seen [] = true
are_new seen (n ∷ ns) = not (has_text seen n) && are_new (insert_key text_cmp seen n) ns

abbrev are_unseen : List (List ℕ) → List (List ℕ) → Bool
are_unseen seen ns = list_all (λ n. not (has_text seen n)) ns

exchanged : (a b c d : Bool) → (not (a || b) && (not c && d)) ≡ (not (a || c) && (not b && d))
exchanged true b c d = refl
exchanged false true true d = refl
exchanged false true false d = refl
exchanged false false true d = refl
exchanged false false false d = refl

unseen_behind : (seen : List (List ℕ)) (n : List ℕ) (ms : List (List ℕ)) →
    are_unseen (insert_key text_cmp seen n) ms ≡ (not (has_text ms n) && are_unseen seen ms)
unseen_behind seen n [] = refl
unseen_behind seen n (m ∷ ms) =
    ap₂ (λ a b. not a && b)
    (has_text-insert_key seen n m ∙ ap (λ b. b || has_text seen m) (nat_list_eq_equiv.symm m n))
    (unseen_behind seen n ms)
    ∙ exchanged (bytes_eq n m) (has_text seen m) (has_text ms n) (are_unseen seen ms)

regrouped : (a b c d : Bool) → (a && ((b && c) && d)) ≡ ((a && c) && (b && d))
regrouped true true c d = refl
regrouped true false true d = refl
regrouped true false false d = refl
regrouped false b c d = refl

seen_so : (ns seen : List (List ℕ)) → are_new seen ns ≡ (are_unseen seen ns && all_apart ns)
seen_so [] seen = refl
seen_so (n ∷ ns) seen =
    ap (λ b. not (has_text seen n) && b)
    (seen_so ns (insert_key text_cmp seen n) ∙ ap (λ b. b && all_apart ns) (unseen_behind seen n ns))
    ∙ regrouped (not (has_text seen n)) (not (has_text ns n)) (are_unseen seen ns) (all_apart ns)

none_seen : (ns : List (List ℕ)) → are_unseen [] ns ≡ true
none_seen [] = refl
none_seen (n ∷ ns) = none_seen ns

pub new_ones : (hs : List Held) → list_all has_form hs ≡ true →
    are_new [] (map name_of hs) ≡ are_apart (map reference_of hs)
new_ones hs f =
    seen_so (map name_of hs) [] ∙ ap (λ b. b && all_apart (map name_of hs)) (none_seen (map name_of hs))
    ∙ as_references hs f
