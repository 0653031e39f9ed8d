-- Lines whose names are known and stand once each pass the tests of any resource.
use Rattle.std.proofs.Common.{◌≡◌, ℕ, Bool, true, false, ◌&&◌, ◌||◌, List, [], ◌∷◌, refl, ap, sym, ◌∙◌, true≢false}
use Rattle.std.specs.Prelude.{not, if◌then◌else◌, Ok, Err}
use Rattle.std.specs.Str.{bytes_eq}
use Rattle.pp_values.specs.Answers.{and_then}
use Rattle.pp_values.specs.Rising.{has_text, with_texts}
use Rattle.pp_values.specs.declared.reference.Reference.{Reference}
use Rattle.pp_values.proofs.RisingLemmas.{has_text-with_texts}
use Rattle.res_core.specs.AttributeChecks.{is_known, known_checked}
use Rattle.eval_resources.specs.Checks.{already_set, lines_checked, names_apart, names_known}
use Rattle.eval_resources.specs.GoodLines.{are_apart, are_known, is_named}
use Rattle.res_core.specs.Lines.{Line}

-- ---- tests

both : (a b : Bool) → (a && b) ≡ true → (a ≡ true) × (b ≡ true)
both true b h = (refl, h)
both false b h = absurd (true≢false (sym h))

neither : (a b : Bool) → (a || b) ≡ false → (a ≡ false) × (b ≡ false)
neither true b h = absurd (true≢false h)
neither false b h = (refl, h)

is_false : (a : Bool) → not a ≡ true → a ≡ false
is_false true h = absurd (true≢false (sym h))
is_false false h = refl

-- ---- names that are known

known_one : (r : Reference) (known : List (List ℕ)) (l : Line) → is_known known l.name ≡ true →
    known_checked r known l.name l.at ≡ Ok tt
unfolding known_checked
known_one r known l h = rw h refl

known_all : (r : Reference) (known : List (List ℕ)) (ls : List Line) → are_known known ls ≡ true →
    names_known r known ls ≡ Ok tt
unfolding are_known names_known
known_all r known [] h = refl
known_all r known (l ∷ ls) h =
    let b = both (is_known known l.name) (are_known known ls) h in
    ap (λ o. and_then o (λ _. names_known r known ls)) (known_one r known l b.0) ∙ known_all r known ls b.1

-- ---- names that stand once

-- no line has one of these names
unfoldable fresh : List (List ℕ) → List Line → Bool
fresh names [] = true
fresh names (l ∷ ls) = not (has_text names l.name) && fresh names ls

nothing_taken : (ls : List Line) → fresh [] ls ≡ true
unfolding fresh
nothing_taken [] = refl
nothing_taken (l ∷ ls) = nothing_taken ls

one_taken : (a b : Bool) → a ≡ false → not b ≡ true → not ((a || false) || b) ≡ true
one_taken true b h n = absurd (true≢false h)
one_taken false b h n = n

-- a name more, which none of them has
fresh_more : (names : List (List ℕ)) (x : List ℕ) (ls : List Line) → fresh names ls ≡ true → is_named ls x ≡ false →
    fresh (with_texts names (x ∷ [])) ls ≡ true
unfolding fresh is_named
fresh_more names x [] h n = refl
fresh_more names x (l ∷ ls) h n =
    let f = both (not (has_text names l.name)) (fresh names ls) h in
    let k = neither (bytes_eq l.name x) (is_named ls x) n in
    ap (λ b. b && fresh (with_texts names (x ∷ [])) ls)
    (ap not (has_text-with_texts (x ∷ []) names l.name) ∙ one_taken (bytes_eq l.name x) (has_text names l.name) k.0 f.0)
    ∙ fresh_more names x ls f.1 k.1

apart_if : (b : Bool) (r : Reference) (names : List (List ℕ)) (l : Line) (ls : List Line) → b ≡ false →
    names_apart r (with_texts names (l.name ∷ [])) ls ≡ Ok tt →
    (if b then Err (already_set r l) else names_apart r (with_texts names (l.name ∷ [])) ls) ≡ Ok tt
apart_if true r names l ls h rest = absurd (true≢false h)
apart_if false r names l ls h rest = rest

apart_all : (r : Reference) (names : List (List ℕ)) (ls : List Line) → fresh names ls ≡ true → are_apart ls ≡ true →
    names_apart r names ls ≡ Ok tt
unfolding fresh are_apart names_apart
apart_all r names [] h a = refl
apart_all r names (l ∷ ls) h a =
    let f = both (not (has_text names l.name)) (fresh names ls) h in
    let k = both (not (is_named ls l.name)) (are_apart ls) a in
    apart_if (has_text names l.name) r names l ls (is_false (has_text names l.name) f.0)
    (apart_all r (with_texts names (l.name ∷ [])) ls
    (fresh_more names l.name ls f.1 (is_false (is_named ls l.name) k.0)) k.1)

-- ---- both

pub all_taken : (known : List (List ℕ)) (ls : List Line) → are_known known ls ≡ true → are_apart ls ≡ true →
    (r : Reference) → lines_checked r known ls ≡ Ok tt
unfolding lines_checked
all_taken known ls k a r =
    ap (λ o. and_then o (λ _. names_apart r [] ls)) (known_all r known ls k)
    ∙ apart_all r [] ls (nothing_taken ls) a
