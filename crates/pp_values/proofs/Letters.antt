-- Quotes, backslashes and capitals are told by single bytes, since the bytes of other characters are 128 and above.
use Rattle.std.proofs.Common.{◌≡◌, ℕ, ◌<◌, ◌≤◌, ◌==◌, Bool, true, false, cond, if◌then◌else◌, List, [], ◌∷◌, ◌++◌, length, refl, ap, arith, nat_lt, ◌⊎◌, inl, inr}
use Rattle.std.specs.Char.{to_ascii_uppercase, encode_utf8}
use Rattle.std.proofs.lemmas.Str.{encode_ascii, length-encode, len_utf8_bounds}
use Rattle.pp_values.specs.Words.{is_quote_or_backslash, escaped, capitalised_after}

-- each byte is 128 or above
abbrev AreHigh : List ℕ → Type 0
AreHigh [] = Unit {0}
AreHigh (b ∷ bs) = (128 ≤ b) × AreHigh bs

high_choice : (t : Bool) (xs ys : List ℕ) → AreHigh xs → AreHigh ys → AreHigh (cond t xs ys)
high_choice true xs ys h k = h
high_choice false xs ys h k = k

encode_high : (c : ℕ) → 128 ≤ c → AreHigh (encode_utf8 c)
unfolding encode_utf8
encode_high c h =
    let low : nat_lt c 128 ≡ false = grind arith in
    rw low (high_choice (nat_lt c 2048) _ _ (omega arith, (omega arith, tt)) (high_choice (nat_lt c 65536) _ _ (omega arith, (omega arith, (omega arith, tt))) (omega arith, (omega arith, (omega arith, (omega arith, tt))))))

by_test : (c : ℕ) (t : Bool) → nat_lt c 128 ≡ t → (c < 128) ⊎ (128 ≤ c)
by_test c true e = inl (grind (arith, e))
by_test c false e = inr (grind (arith, e))

ascii_or_high : (c : ℕ) → (c < 128) ⊎ (128 ≤ c)
ascii_or_high c = by_test c (nat_lt c 128) refl

plain_high : (b : ℕ) → 128 ≤ b → is_quote_or_backslash b ≡ false
plain_high b h = grind arith

upper_high : (b : ℕ) → 128 ≤ b → to_ascii_uppercase b ≡ b
upper_high b h = grind arith

pub escaped-append : (xs ys : List ℕ) → escaped (xs ++ ys) ≡ escaped xs ++ escaped ys
escaped-append [] ys = refl
escaped-append (x ∷ xs) ys = grind (arith, escaped-append xs ys)

escaped_high : (bs : List ℕ) → AreHigh bs → escaped bs ≡ bs
escaped_high [] h = refl
escaped_high (b ∷ bs) h = rw (plain_high b h.0) (ap (λ xs. b ∷ xs) (escaped_high bs h.1))

-- what a quote or a backslash adds, and what another character adds
pub escaped-quote : (c : ℕ) → is_quote_or_backslash c ≡ true → escaped (encode_utf8 c) ≡ 92 ∷ encode_utf8 c
escaped-quote c e = let low : c < 128 = grind arith in rw (encode_ascii c low) (rw e refl)

pub escaped-plain : (c : ℕ) → is_quote_or_backslash c ≡ false → escaped (encode_utf8 c) ≡ encode_utf8 c
escaped-plain c e = elim (ascii_or_high c) [ inl low ↦ rw (encode_ascii c low) (rw e refl) | inr high ↦ escaped_high _ (encode_high c high) ]

-- a byte that is no colon gives no capital
capital_same : (m n : ℕ) (rest : List ℕ) → (m == 58) ≡ (n == 58) → capitalised_after m rest ≡ capitalised_after n rest
capital_same m n [] e = refl
capital_same m n (b ∷ rest) e = rw e refl

capital_high : (last b : ℕ) → 128 ≤ b → (if last == 58 then to_ascii_uppercase b else b) ≡ b
capital_high last b h = grind (arith, upper_high b h)

capitals_high : (last b : ℕ) (bs rest : List ℕ) (c : ℕ) → AreHigh (b ∷ bs) → 128 ≤ c →
    capitalised_after last ((b ∷ bs) ++ rest) ≡ (b ∷ bs) ++ capitalised_after c rest
capitals_high last b [] rest c h k = rw (capital_high last b h.0) (ap (λ xs. b ∷ xs) (capital_same b c rest (grind (arith, h.0))))
capitals_high last b (d ∷ bs) rest c h k = rw (capital_high last b h.0) (ap (λ xs. b ∷ xs) (capitals_high b d bs rest c h.1 k))

capitals_high-all : (last : ℕ) (bs rest : List ℕ) (c : ℕ) → AreHigh bs → 0 < length bs → 128 ≤ c →
    capitalised_after last (bs ++ rest) ≡ bs ++ capitalised_after c rest
capitals_high-all last [] rest c h some k = absurd (omega (arith, some))
capitals_high-all last (b ∷ bs) rest c h some k = capitals_high last b bs rest c h k

capital_low : (last c : ℕ) → c < 128 → (if last == 58 then to_ascii_uppercase c else c) < 128
capital_low last c h = grind arith

-- one character, and then the rest
pub capitalised_after-letter : (last c : ℕ) (rest : List ℕ) →
    capitalised_after last (encode_utf8 c ++ rest) ≡ encode_utf8 (if last == 58 then to_ascii_uppercase c else c) ++ capitalised_after c rest
capitalised_after-letter last c rest = elim (ascii_or_high c) [
  | inl low ↦ rw (encode_ascii c low, encode_ascii _ (capital_low last c low)) refl
  | inr high ↦ rw (capital_high last c high) (capitals_high-all last _ rest c (encode_high c high) (omega (arith, length-encode c, (len_utf8_bounds c).0)) high)
]
