-- The place of each key's first answer.
use Rattle.std.proofs.Common.{◌≡◌, ◌≢◌, ℕ, zero, suc, ◌<◌, Bool, true, false, cond, Option, None, Some, List, [], ◌∷◌, ◌++◌, length, get_or, refl, ap, sym, ◌∙◌, arith}
use Rattle.std.proofs.lemmas.Grind.{common_steps}
use Rattle.std.proofs.lemmas.Map.Text.{is_eq-slice_cmp}
use Rattle.std.proofs.lemmas.Slice.Eq.{bytes_eq-Decides}
use Rattle.std.specs.BTreeMap.{BTreeMap, get, is_at}
use Rattle.std.specs.Prelude.{option_map}
use Rattle.std.specs.Str.{bytes_eq}
use Rattle.pp_values.specs.Rising.{text_cmp}
use Rattle.hiera_lookup.specs.AnswerPlaces.{place_for, ArePlaced}
use Rattle.hiera_lookup.specs.Filled.{Answer, answer_to}

pub none_placed : (places : BTreeMap (List ℕ) ℕ) → places.entries ≡ [] → ArePlaced places []
none_placed places none key = rw none refl

-- ---- what stands at a place

pub place_within : (xs : List Answer) (key : List ℕ) (n : ℕ) → place_for xs key ≡ Some n → n < length xs
place_within [] key n is = cc
place_within (x ∷ xs) key zero is = grind (arith, common_steps)
place_within (x ∷ xs) key (suc n) is = grind (arith, common_steps, place_within xs key n)

pub answer_at : (xs : List Answer) (key : List ℕ) (n : ℕ) (d : Answer) → place_for xs key ≡ Some n
    → (get_or xs n d).1 ≡ answer_to xs key
answer_at [] key n d is = cc
answer_at (x ∷ xs) key zero d is = grind (arith, common_steps)
answer_at (x ∷ xs) key (suc n) d is = grind (arith, common_steps, answer_at xs key n d)

pub no_answer : (xs : List Answer) (key : List ℕ) → place_for xs key ≡ None → None ≡ answer_to xs key
no_answer [] key none = refl
no_answer (x ∷ xs) key none = grind (arith, common_steps, no_answer xs key)

-- ---- one answer more

or_behind : Option ℕ → Option ℕ → Option ℕ
or_behind None o = o
or_behind (Some n) o = Some n

one_further : (b c : Bool) (n : ℕ) (o : Option ℕ)
    → cond b (Some 0) (option_map suc (or_behind o (cond c (Some n) None)))
    ≡ or_behind (cond b (Some 0) (option_map suc o)) (cond c (Some (suc n)) None)
unfolding or_behind
one_further true c n o = refl
one_further false c n (Some i) = refl
one_further false true n None = refl
one_further false false n None = refl

place_behind : (a : Answer) (key : List ℕ) (xs : List Answer)
    → place_for (xs ++ a ∷ []) key ≡ or_behind (place_for xs key) (cond (bytes_eq a.0 key) (Some (length xs)) None)
unfolding or_behind
place_behind a key [] = refl
place_behind a key (x ∷ xs) =
    ap (λ o. cond (bytes_eq x.0 key) (Some 0) (option_map suc o)) (place_behind a key xs)
    ∙ one_further (bytes_eq x.0 key) (bytes_eq a.0 key) (length xs) (place_for xs key)

new_place : (c : Bool) (n : ℕ) (o : Option ℕ) → (c ≡ true → o ≡ None)
    → cond c (Some n) o ≡ or_behind o (cond c (Some n) None)
unfolding or_behind
new_place true n o none = ap (λ p. or_behind p (Some n)) (sym (none refl))
new_place false n None none = refl
new_place false n (Some i) none = refl

old_place : (c : Bool) (n : ℕ) (o : Option ℕ) → (c ≡ true → o ≢ None) → o ≡ or_behind o (cond c (Some n) None)
unfolding or_behind
old_place c n (Some i) some = refl
old_place true n None some = absurd (some refl refl)
old_place false n None some = refl

-- for a key that has none
pub first_placed : (old new : BTreeMap (List ℕ) ℕ) (a : Answer) (u : List ℕ) (n : ℕ) (xs ys : List Answer)
    → ArePlaced old xs → place_for xs a.0 ≡ None → u ≡ a.0 → n ≡ length xs
    → ((q : List ℕ) → get text_cmp new q ≡ cond (is_at (text_cmp u) q) (Some n) (get text_cmp old q))
    → ys ≡ xs ++ a ∷ [] → ArePlaced new ys
first_placed old new a u n xs ys were none same last changes is = λ key.
    changes key
    ∙ ap (λ b. cond b (Some n) (get text_cmp old key)) (is_eq-slice_cmp u key)
    ∙ ap (λ x. cond (bytes_eq x key) (Some n) (get text_cmp old key)) same
    ∙ ap (λ m. cond (bytes_eq a.0 key) (Some m) (get text_cmp old key)) last
    ∙ ap (cond (bytes_eq a.0 key) (Some (length xs))) (were key)
    ∙ new_place (bytes_eq a.0 key) (length xs) (place_for xs key)
    (λ e. ap (place_for xs) (sym ((bytes_eq-Decides a.0 key).0 e)) ∙ none)
    ∙ sym (place_behind a key xs) ∙ ap (λ zs. place_for zs key) (sym is)

-- for a key that has one
pub again_placed : (places : BTreeMap (List ℕ) ℕ) (a : Answer) (xs ys : List Answer) → ArePlaced places xs
    → place_for xs a.0 ≢ None → ys ≡ xs ++ a ∷ [] → ArePlaced places ys
again_placed places a xs ys were some is = λ key.
    were key
    ∙ old_place (bytes_eq a.0 key) (length xs) (place_for xs key)
    (λ e none. some (ap (place_for xs) ((bytes_eq-Decides a.0 key).0 e) ∙ none))
    ∙ sym (place_behind a key xs) ∙ ap (λ zs. place_for zs key) (sym is)
