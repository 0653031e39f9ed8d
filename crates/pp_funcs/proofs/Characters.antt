-- In UTF-8 each character has one first byte, so the first bytes of a text are as many as its characters.
use Rattle.std.proofs.Common.{◌≡◌, ℕ, ◌+◌, ◌/◌, ◌%◌, ◌<◌, ◌≤◌, Bool, true, false, cond, List, [], ◌∷◌, length, refl, arith, nat_lt, ◌∙◌}
use Rattle.std.specs.Char.{encode_utf8}
use Rattle.std.specs.Fmt.{is_char_start}
use Rattle.std.specs.Str.{encode_utf8_all}
use Rattle.std.proofs.lemmas.List.Sums.{sum_by-append}
use Rattle.pp_funcs.specs.Counts.{characters}

abbrev counted : ℕ → ℕ
counted b = cond (is_char_start b) 1 0

first : (b : ℕ) → 192 ≤ b → counted b ≡ 1
first b h = grind arith

alone : (b : ℕ) → b < 128 → counted b ≡ 1
alone b h = grind arith

further : (c : ℕ) → counted (128 + c % 64) ≡ 0
further c = let low : c % 64 < 64 = omega arith in grind (arith, low)

either : (t : Bool) (xs ys : List ℕ) → (nat : t ≡ true → characters xs ≡ 1) → characters ys ≡ 1 →
    characters (cond t xs ys) ≡ 1
either true xs ys h k = h refl
either false xs ys h k = k

one_first : (c : ℕ) → characters (encode_utf8 c) ≡ 1
unfolding encode_utf8
one_first c =
    either (nat_lt c 128) _ _ (λ e. rw (alone c (grind (arith, e))) refl)
    (either (nat_lt c 2048) _ _ (λ _. rw (first (192 + c / 64) (omega arith), further c) refl)
    (either (nat_lt c 65536) _ _ (λ _. rw (first (224 + c / 4096) (omega arith), further (c / 64), further c) refl)
    (rw (first (240 + c / 262144) (omega arith), further (c / 4096), further (c / 64), further c) refl)))

pub characters_told : (cs : List ℕ) → characters (encode_utf8_all cs) ≡ length cs
characters_told [] = refl
characters_told (c ∷ cs) =
    sum_by-append counted (encode_utf8 c) (encode_utf8_all cs)
    ∙ omega (arith, one_first c, characters_told cs)
