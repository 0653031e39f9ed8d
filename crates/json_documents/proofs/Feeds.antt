-- Compact JSON has no line feed in it: a text has them escaped.
use Rattle.std.proofs.Common.{◌≡◌, ◌≢◌, ℕ, zero, suc, ◌==◌, ◌/◌, ◌%◌, true, false, Bool, cond, if◌then◌else◌, nat_lt, List, [], ◌∷◌, ◌++◌, pos, negsuc, decimal, refl, arith}
use Rattle.std.proofs.lemmas.Bool.{ne_eqb}
use Rattle.std.proofs.lemmas.Bool.Decides.{nat_tests}
use Rattle.std.specs.Char.{digit_char}
use Rattle.std.specs.Fmt.{digits, digits_onto, digit_glyph}
use Rattle.json.specs.Print.{escape_byte, escape_letter, escape, quoted}
use Rattle.serde_json.specs.Data.{Num, unsigned, negative, float, Data, null, boolean, number, string, array, object, Items, no_items, item, Members, no_members, member}
use Rattle.serde_json.specs.Written.{comma_if, compact_text, items_text, members_text, number_text}
use Rattle.json_documents.specs.LinesOfText.{has_byte}
use Rattle.json_documents.proofs.Cutting.{has_append}

other : (b : ℕ) (bs : List ℕ) → b ≢ 10 → has_byte 10 bs ≡ false → has_byte 10 (b ∷ bs) ≡ false
other b bs ne h = rw (ne_eqb b 10 ne) h

-- ---- texts

letter_is_none : (x : ℕ) → escape_letter x ≢ 10
letter_is_none x e = grind (arith, nat_tests)

hex_is_none : (n : ℕ) → digit_char n ≢ 10
hex_is_none n e = grind (arith, nat_tests)

itself_is_none : (x : ℕ) → (nat_lt 0 (escape_letter x)) ≡ false → x ≢ 10
itself_is_none x h e = grind (arith, nat_tests)

plain_byte : (x : ℕ) (a : Bool) → x ≢ 10 → has_byte 10 (cond a
    (92 ∷ 117 ∷ 48 ∷ 48 ∷ digit_char (x / 16) ∷ digit_char (x % 16) ∷ []) (x ∷ [])) ≡ false
plain_byte x true ne =
    other (digit_char (x / 16)) (digit_char (x % 16) ∷ []) (hex_is_none (x / 16))
    (other (digit_char (x % 16)) [] (hex_is_none (x % 16)) refl)
plain_byte x false ne = other x [] ne refl

one_byte : (x : ℕ) → has_byte 10 (escape_byte x) ≡ false
unfolding escape_byte
one_byte x =
    elim (nat_lt 0 (escape_letter x)) as (λ a. nat_lt 0 (escape_letter x) ≡ a → has_byte 10 (cond a
    (92 ∷ escape_letter x ∷ [])
    (cond (nat_lt x 32) (92 ∷ 117 ∷ 48 ∷ 48 ∷ digit_char (x / 16) ∷ digit_char (x % 16) ∷ []) (x ∷ []))) ≡ false) [
      | true ↦ λ e. other (escape_letter x) [] (letter_is_none x) refl
      | false ↦ λ e. plain_byte x (nat_lt x 32) (itself_is_none x e)
    ] refl

escaped : (s : List ℕ) → has_byte 10 (escape s) ≡ false
escaped [] = refl
escaped (x ∷ xs) = has_append 10 (escape_byte x) (escape xs) (one_byte x) (escaped xs)

in_quotes : (s : List ℕ) → has_byte 10 (quoted s) ≡ false
in_quotes s = has_append 10 (escape s) (34 ∷ []) (escaped s) refl

-- ---- numbers

glyph_is_none : (n : ℕ) → digit_glyph false n ≢ 10
glyph_is_none n e = grind (arith, nat_tests)

either : (b : Bool) (xs ys : List ℕ) → has_byte 10 xs ≡ false → has_byte 10 ys ≡ false →
    has_byte 10 (if b then xs else ys) ≡ false
either true xs ys h k = h
either false xs ys h k = k

one_digit : (n : ℕ) (acc : List ℕ) → has_byte 10 acc ≡ false → has_byte 10 (digit_glyph false n ∷ acc) ≡ false
one_digit n acc h = other (digit_glyph false n) acc (glyph_is_none n) h

in_digits : (k n : ℕ) (acc : List ℕ) → has_byte 10 acc ≡ false → has_byte 10 (digits_onto k 10 false n acc) ≡ false
in_digits zero n acc h = h
in_digits (suc k) n acc h =
    let d = digit_glyph false (n % 10) in
    either (n / 10 == 0) (d ∷ acc) (digits_onto k 10 false (n / 10) (d ∷ acc)) (one_digit (n % 10) acc h)
    (in_digits k (n / 10) (d ∷ acc) (one_digit (n % 10) acc h))

in_decimal : (n : ℕ) → has_byte 10 (decimal n) ≡ false
unfolding digits
in_decimal n =
    let d = digit_glyph false (n % 10) in
    either (n / 10 == 0) (d ∷ []) (digits_onto 63 10 false (n / 10) (d ∷ [])) (one_digit (n % 10) [] refl)
    (in_digits 63 (n / 10) (d ∷ []) (one_digit (n % 10) [] refl))

in_number : (n : Num) → has_byte 10 (number_text n) ≡ false
in_number (unsigned n) = in_decimal n
in_number (negative (pos n)) = in_decimal n
in_number (negative (negsuc n)) = in_decimal (suc n)
in_number (float x) = refl

-- ---- values

comma : (later : Bool) (bs : List ℕ) → has_byte 10 bs ≡ false → has_byte 10 (comma_if later ++ bs) ≡ false
comma true bs h = h
comma false bs h = h

mutual
  pub no_feed : (d : Data) → has_byte 10 (compact_text d) ≡ false
  no_feed null = refl
  no_feed (boolean true) = refl
  no_feed (boolean false) = refl
  no_feed (number n) = in_number n
  no_feed (string s) = in_quotes s
  no_feed (array ds) = no_feed_items false ds
  no_feed (object ms) = no_feed_members false ms

  no_feed_items : (later : Bool) (ds : Items) → has_byte 10 (items_text later ds) ≡ false
  no_feed_items later no_items = refl
  no_feed_items later (item d ds) =
      comma later _ (has_append 10 (compact_text d) (items_text true ds) (no_feed d) (no_feed_items true ds))

  no_feed_members : (later : Bool) (ms : Members) → has_byte 10 (members_text later ms) ≡ false
  no_feed_members later no_members = refl
  no_feed_members later (member k d ms) =
      comma later _ (has_append 10 (quoted k) (58 ∷ (compact_text d ++ members_text true ms)) (in_quotes k)
      (has_append 10 (compact_text d) (members_text true ms) (no_feed d) (no_feed_members true ms)))
