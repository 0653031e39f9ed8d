-- How the definition of a word goes on by one byte.
use Rattle.std.proofs.Common.{◌≡◌, ℕ, ◌+◌, ◌<◌, Bool, true, false, not, ◌&&◌, ◌||◌, ◌==◌, List, [], ◌∷◌, length, drop, map, get_or, refl, ap, sym, ◌∙◌, subst, add-one, arith}
use Rattle.std.proofs.Math.Seq.{drop-cons}
use Rattle.std.proofs.lemmas.Bool.Decides.{nat_tests}
use Rattle.std.proofs.lemmas.Slice.Eq.{bytes_eq-Decides}
use Rattle.std.specs.Char.{is_ascii_digit, is_ascii_lowercase, is_ascii_uppercase}
use Rattle.std.specs.Str.{bytes_eq}
use Rattle.pp_lexer.specs.Bytes.{is_word}
use Rattle.pp_lexer.specs.Words.{continues_word, word_end, named, name_kind, words_of_length}
use Rattle.pp_lexer.specs.declared.kind.Kind.{Kind}
use Rattle.pp_lexer.specs.declared.words.TheConstants.{WORDS}
use Rattle.pp_lexer.specs.declared.words.WordSort.{WordSort}

-- the byte at a place, and those behind it
pub drop_at : (z : List ℕ) (at : ℕ) → at < length z → drop at z ≡ get_or z at 0 ∷ drop (at + 1) z
drop_at z at h = rw (add-one, drop-cons z at 0) refl

pub word_goes : (sort : WordSort) (second next : Bool) (at : ℕ) (z : List ℕ) → at < length z → (second ≡ false → continues_word sort (get_or z at 0) (drop (at + 1) z) ≡ true) → next ≡ (not second && (get_or z at 0 == 58)) → word_end sort second at (drop at z) ≡ word_end sort next (at + 1) (drop (at + 1) z)
word_goes sort true next at z h goes is = rw (drop_at z at h, is) refl
word_goes sort false next at z h goes is = rw (drop_at z at h, goes refl, is) refl

both : (p q : Bool) → (p && q) ≡ true → (p ≡ true) × (q ≡ true)
both true q h = (refl, h)
both false q h = absurd (cc)

pub is_no : (p : Bool) → (p ≡ true → ⊥) → p ≡ false
is_no true not_so = absurd (not_so refl)
is_no false not_so = refl

no_colon : (b : ℕ) → is_word b ≡ true → (b == 58) ≡ false
no_colon b word = is_no (b == 58) (λ is.
    let e : b ≡ 58 = grind (arith, nat_tests, is) in
    let holds : is_word 58 ≡ true = subst (λ (x : ℕ). is_word x ≡ true) e word in
    cc)

plain_continues : (sort : WordSort) (b : ℕ) (z : List ℕ) → is_word b ≡ true → continues_word sort b z ≡ true
plain_continues sort b z word = rw word refl

step_plain : (sort : WordSort) (second : Bool) (at b : ℕ) (z : List ℕ) → is_word b ≡ true → word_end sort second at (b ∷ z) ≡ word_end sort false (at + 1) z
step_plain sort true at b z word = refl
step_plain sort false at b z word = rw (plain_continues sort b z word, no_colon b word) refl

pub plain_goes : (sort : WordSort) (second : Bool) (at : ℕ) (z : List ℕ) → at < length z → is_word (get_or z at 0) ≡ true → word_end sort second at (drop at z) ≡ word_end sort false (at + 1) (drop (at + 1) z)
plain_goes sort second at z h word = ap (λ x. word_end sort second at x) (drop_at z at h) ∙ step_plain sort second at (get_or z at 0) (drop (at + 1) z) word

or_true : (p r s : Bool) → r ≡ true → ((p || r) || s) ≡ true
or_true true r s is = refl
or_true false r s is = rw is refl

-- a small letter is a byte of a word
pub lower_goes : (sort : WordSort) (second : Bool) (at : ℕ) (z : List ℕ) → at < length z → is_ascii_lowercase (get_or z at 0) ≡ true → word_end sort second at (drop at z) ≡ word_end sort false (at + 1) (drop (at + 1) z)
lower_goes sort second at z h lower = plain_goes sort second at z h (or_true (is_ascii_digit (get_or z at 0) || is_ascii_uppercase (get_or z at 0)) (is_ascii_lowercase (get_or z at 0)) (get_or z at 0 == 95) lower)

pub second_goes : (sort : WordSort) (second : Bool) (at : ℕ) (z : List ℕ) → at < length z → second ≡ true → word_end sort second at (drop at z) ≡ word_end sort false (at + 1) (drop (at + 1) z)
second_goes sort true at z h is = ap (λ x. word_end sort true at x) (drop_at z at h)
second_goes sort false at z h is = absurd (cc)

pub other_goes : (sort : WordSort) (second next : Bool) (at : ℕ) (z : List ℕ) → at < length z → second ≡ false → continues_word sort (get_or z at 0) (drop (at + 1) z) ≡ true → next ≡ (get_or z at 0 == 58) → word_end sort second at (drop at z) ≡ word_end sort next (at + 1) (drop (at + 1) z)
other_goes sort true next at z h off goes is = absurd (cc)
other_goes sort false next at z h off goes is = word_goes sort false next at z h (λ _. goes) is

pub word_stops : (sort : WordSort) (second : Bool) (at : ℕ) (z : List ℕ) → at < length z → second ≡ false → continues_word sort (get_or z at 0) (drop (at + 1) z) ≡ false → word_end sort second at (drop at z) ≡ at
word_stops sort true at z h off ends = absurd (cc)
word_stops sort false at z h off ends = rw (drop_at z at h, ends) refl

-- ---- the words of one length

other_length : (z w : List ℕ) → (length w == length z) ≡ false → bytes_eq z w ≡ true → ⊥
other_length z w off same =
    let e : length w ≡ length z = sym (ap length ((bytes_eq-Decides z w).0 same)) in
    let on : (length w == length z) ≡ true = grind (arith, nat_tests, e) in
    cc

-- a word of another length is not the one that is spelled so
named_step : (c : Bool) (w : List ℕ × Kind) (ws : List (List ℕ × Kind)) (z : List ℕ) → (length w.0 == length z) ≡ c → named ws z ≡ named (words_of_length (length z) ws) z → named (w ∷ ws) z ≡ named (words_of_length (length z) (w ∷ ws)) z
named_step true w ws z is further = rw (is, further) refl
named_step false w ws z is further =
    let no : bytes_eq z w.0 ≡ false = is_no (bytes_eq z w.0) (other_length z w.0 is) in
    rw (is, no) further

named_of_length : (ws : List (List ℕ × Kind)) (z : List ℕ) → named ws z ≡ named (words_of_length (length z) ws) z
named_of_length [] z = refl
named_of_length (w ∷ ws) z = named_step (length w.0 == length z) w ws z refl (named_of_length ws z)

pub named_by_length : (ws : List (List ℕ × Kind)) (z : List ℕ) → ws ≡ words_of_length (length z) (map (λ w. (w.0.now, w.1)) WORDS) → named ws z ≡ name_kind z
unfolding name_kind
named_by_length ws z is = ap (λ x. named x z) is ∙ sym (named_of_length (map (λ w. (w.0.now, w.1)) WORDS) z)
