-- Which pieces of a text stand on one line.
use Rattle.std.proofs.Common.{◌≡◌, ℕ, pos, zero, suc, ◌+◌, ◌-◌, ◌≤◌, Bool, true, false, not, ◌&&◌, ◌==◌, List, [], ◌∷◌, Option, Some, None, length, length-take-le, take, drop, map, get_or, refl, ◌∙◌, subst, cond, arith}
use Rattle.std.specs.Char.{is_ascii_digit}
use Rattle.std.specs.List.{prefix_len, starts_with}
use Rattle.std.specs.Prelude.{nat_eq}
use Rattle.std.proofs.lemmas.Bool.Decides.{nat_tests}
use Rattle.pp_lexer.specs.Bytes.{blank_len, is_word, line_after, line_at, line_end, opens_comment}
use Rattle.pp_lexer.specs.Fronts.{front, bad, mark, is_on_line, HasLines}
use Rattle.pp_lexer.specs.Marks.{first_mark, punctuation}
use Rattle.pp_lexer.specs.Digits.{number_value, is_fraction}
use Rattle.pp_lexer.specs.Numbers.{number}
use Rattle.pp_lexer.specs.Texts.{quoted, quoted_end, in_text, opens_interpolation, opens_variable, variable_in_text, run_len}
use Rattle.pp_lexer.specs.Tokens.{token_front, in_code, found_in_place, front_at}
use Rattle.pp_lexer.specs.Words.{begins_word, continues_word, word_end, word_len, name, type_name, variable, variable_kind}
use Rattle.pp_lexer.specs.declared.front.Found.{Found}
use Rattle.pp_lexer.specs.declared.front.Found.TheVariants as found
use Rattle.pp_lexer.specs.declared.front.Front.{Front}
use Rattle.pp_lexer.specs.declared.kind.Kind.{Kind}
use Rattle.pp_lexer.specs.declared.kind.Kind.TheVariants as kinds
use Rattle.pp_lexer.specs.declared.marks.TheConstants.{MARKS}
use Rattle.pp_lexer.specs.declared.mode.Mode.{Mode}
use Rattle.pp_lexer.specs.declared.mode.Mode.TheVariants as modes
use Rattle.pp_lexer.specs.declared.mode.Open.{Open}
use Rattle.pp_lexer.specs.declared.words.WordSort.{WordSort}
use Rattle.pp_lexer.specs.declared.words.WordSort.TheVariants as sorts

is_no : (p : Bool) → (p ≡ true → ⊥) → p ≡ false
is_no true not_so = absurd (not_so refl)
is_no false not_so = refl

both : (p q : Bool) → (p && q) ≡ true → (p ≡ true) × (q ≡ true)
both true q h = (refl, h)
both false q h = absurd (cc)

taken : (c : Bool) (x at n : ℕ) → at + suc n ≤ cond c x at → (c ≡ true) × (at + suc n ≤ x)
taken true x at n h = (refl, h)
taken false x at n h = absurd (omega (arith, h))

-- no word goes on with a line feed, nor begins with one
feed_ends : (sort : WordSort) (z : List ℕ) → continues_word sort 10 z ≡ false
feed_ends sorts.Name z = refl
feed_ends sorts.Type z = refl
feed_ends sorts.Variable z = refl

feed_begins : (sort : WordSort) (z : List ℕ) → begins_word sort (10 ∷ z) ≡ false
feed_begins sorts.Name z = refl
feed_begins sorts.Type z = refl
feed_begins sorts.Variable z = refl

no_feed : (sort : WordSort) (b : ℕ) (z : List ℕ) → continues_word sort b z ≡ true → (b == 10) ≡ false
no_feed sort b z goes = is_no (b == 10) (λ is.
    let e : b ≡ 10 = grind (arith, nat_tests, is) in
    let holds : continues_word sort 10 z ≡ true = subst (λ (x : ℕ). continues_word sort x z ≡ true) e goes in
    let isnt = feed_ends sort z in
    cc)

no_first_feed : (sort : WordSort) (b : ℕ) (z : List ℕ) → begins_word sort (b ∷ z) ≡ true → (b == 10) ≡ false
no_first_feed sort b z begins = is_no (b == 10) (λ is.
    let e : b ≡ 10 = grind (arith, nat_tests, is) in
    let holds : begins_word sort (10 ∷ z) ≡ true = subst (λ (x : ℕ). begins_word sort (x ∷ z) ≡ true) e begins in
    let isnt = feed_begins sort z in
    cc)

-- a colon is followed by another
colon_of : (z : List ℕ) (q : Bool) → ((get_or z 0 0 == 58) && q) ≡ true → get_or z 0 0 ≡ 58
colon_of z q h = let e = (both (get_or z 0 0 == 58) q h).0 in grind (arith, nat_tests, e)

colon_goes : (sort : WordSort) (z : List ℕ) → continues_word sort 58 z ≡ true → get_or z 0 0 ≡ 58
colon_goes sorts.Name z h = colon_of z _ h
colon_goes sorts.Type z h = colon_of z _ h
colon_goes sorts.Variable z h = colon_of z _ h

colon_behind : (sort : WordSort) (b : ℕ) (z : List ℕ) → continues_word sort b z ≡ true → (b == 58) ≡ true → get_or z 0 0 ≡ 58
colon_behind sort b z goes is =
    let e : b ≡ 58 = grind (arith, nat_tests, is) in
    colon_goes sort z (subst (λ (x : ℕ). continues_word sort x z ≡ true) e goes)

colon_begins : (sort : WordSort) (z : List ℕ) → begins_word sort (58 ∷ z) ≡ true → get_or z 0 0 ≡ 58
colon_begins sorts.Name z h = colon_of z _ h
colon_begins sorts.Type z h = colon_of z _ h
colon_begins sorts.Variable z h = colon_of z _ h

colon_first : (sort : WordSort) (b : ℕ) (z : List ℕ) → begins_word sort (b ∷ z) ≡ true → (b == 58) ≡ true → get_or z 0 0 ≡ 58
colon_first sort b z begins is =
    let e : b ≡ 58 = grind (arith, nat_tests, is) in
    colon_begins sort z (subst (λ (x : ℕ). begins_word sort (x ∷ z) ≡ true) e begins)

line_step : (line b : ℕ) (z : List ℕ) → (b == 10) ≡ false → line_at line (b ∷ z) ≡ line_at line z
line_step line b z isnt = rw (line_at, isnt) refl

pub line_of_one : (line : ℕ) (z : List ℕ) → length z ≡ 1 → line_at line z ≡ line_after line (get_or z 0 0)
line_of_one line [] one = absurd (omega (arith, one))
line_of_one line (b ∷ []) one = refl
line_of_one line (b ∷ c ∷ z) one = absurd (omega (arith, one))

-- ---- words

rest_on_line : (sort : WordSort) (second : Bool) (at line : ℕ) (z : List ℕ) (n : ℕ) → (second ≡ true → get_or z 0 0 ≡ 58) → at + n ≤ word_end sort second at z → line_at line (take n z) ≡ line
rest_on_line sort second at line z zero colon h = refl
rest_on_line sort second at line [] (suc n) colon h = refl
rest_on_line sort true at line (b ∷ z) (suc n) colon h =
    let e : b ≡ 58 = colon refl in
    rw e (rest_on_line sort false (at + 1) line z n (λ is. absurd (cc)) (omega (arith, h)))
rest_on_line sort false at line (b ∷ z) (suc n) colon h =
    let t = taken (continues_word sort b z) (word_end sort (b == 58) (at + 1) z) at n h in
    let isnt : (b == 10) ≡ false = no_feed sort b z t.0 in
    line_step line b (take n z) isnt ∙ rest_on_line sort (b == 58) (at + 1) line z n (colon_behind sort b z t.0) (omega (arith, t.1))

word_on_line : (sort : WordSort) (line : ℕ) (z : List ℕ) (n : ℕ) → begins_word sort z ≡ true → n ≤ word_len sort z → line_at line (take n z) ≡ line
word_on_line sort line z zero begins h = refl
word_on_line sort line [] (suc n) begins h = refl
word_on_line sort line (b ∷ z) (suc n) begins h =
    let isnt : (b == 10) ≡ false = no_first_feed sort b z begins in
    line_step line b (take n z) isnt ∙ rest_on_line sort (b == 58) 1 line z n (colon_first sort b z begins) (omega (arith, h))

-- ---- numbers

feed_is_no_word : (b : ℕ) → is_word b ≡ true → (b == 10) ≡ false
feed_is_no_word b word = is_no (b == 10) (λ is.
    let e : b ≡ 10 = grind (arith, nat_tests, is) in
    let holds : is_word 10 ≡ true = subst (λ (x : ℕ). is_word x ≡ true) e word in
    cc)

taken_of_prefix : (c : Bool) (x n : ℕ) → suc n ≤ cond c (1 + x) 0 → (c ≡ true) × (n ≤ x)
taken_of_prefix true x n h = (refl, omega (arith, h))
taken_of_prefix false x n h = absurd (omega (arith, h))

number_on_line : (line : ℕ) (z : List ℕ) (n : ℕ) → n ≤ prefix_len is_word z → line_at line (take n z) ≡ line
number_on_line line z zero h = refl
number_on_line line [] (suc n) h = refl
number_on_line line (b ∷ z) (suc n) h =
    let t = taken_of_prefix (is_word b) (prefix_len is_word z) n h in
    let isnt : (b == 10) ≡ false = feed_is_no_word b t.0 in
    line_step line b (take n z) isnt ∙ number_on_line line z n t.1

-- ---- comments

line_end_most : (at : ℕ) (z : List ℕ) → line_end at z ≤ at + length z
line_end_most at [] = omega arith
line_end_most at (b ∷ z) = most_of at (length z) (b == 10) (line_end (at + 1) z) (line_end_most (at + 1) z)
  where
    most_of : (at n : ℕ) (c : Bool) (x : ℕ) → x ≤ at + 1 + n → cond c (at + 1) x ≤ at + suc n
    most_of at n true x h = omega arith
    most_of at n false x h = omega (arith, h)

-- what stands from a byte on that is no line feed, to the end of its line
comment_from : (at line p : ℕ) (z : List ℕ) (n : ℕ) → (p == 10) ≡ false → at + n ≡ line_end at z → line_at line (take n z) ≡ line_after line (get_or (p ∷ take n z) n 0)
comment_from at line p z zero isnt h = rw isnt refl
comment_from at line p [] (suc n) isnt h = absurd (omega (arith, h))
comment_from at line p (b ∷ z) (suc n) isnt h = comment_step at line b z n (b == 10) refl h (λ off same. comment_from (at + 1) line b z n off same)
  where
    comment_step : (at line b : ℕ) (z : List ℕ) (n : ℕ) (c : Bool) → (b == 10) ≡ c → at + suc n ≡ cond c (at + 1) (line_end (at + 1) z) → ((b == 10) ≡ false → at + 1 + n ≡ line_end (at + 1) z → line_at line (take n z) ≡ line_after line (get_or (b ∷ take n z) n 0)) → line_at (line_after line b) (take n z) ≡ line_after line (get_or (b ∷ take n z) n 0)
    comment_step at line b z n true is h go =
        let e : n ≡ 0 = omega (arith, h) in
        rw e refl
    comment_step at line b z n false is h go = line_step line b (take n z) is ∙ go is (omega (arith, h))

blank_of_comment : (b : ℕ) (z : List ℕ) → b ≡ 35 → blank_len (b ∷ z) ≡ line_end 1 z
unfolding blank_len
blank_of_comment b z is = rw is refl

comment_lines : (line : ℕ) (z : List ℕ) (n : ℕ) → n ≡ blank_len z → get_or (take n z) 0 0 ≡ 35 → line_at line (take n z) ≡ line_after line (get_or (take n z) (length (take n z) - 1) 0)
comment_lines line z zero e is = absurd (omega (arith, is))
comment_lines line [] (suc n) e is = absurd (omega (arith, is))
comment_lines line (b ∷ z) (suc n) e is =
    let here : suc n ≡ line_end 1 z = e ∙ blank_of_comment b z is in
    let full : length (take n z) ≡ n = length-take-le n z (omega (arith, here, line_end_most 1 z)) in
    let len : length (take (suc n) (b ∷ z)) - 1 ≡ n = omega (arith, full) in
    let isnt : (b == 10) ≡ false = grind (arith, nat_tests, is) in
    rw len (line_step line b (take n z) isnt ∙ comment_from 1 line b z n isnt (omega (arith, here)))

-- ---- what stands at a place

by_test : (Q : Front → Type 0) (c : Bool) (a b : Front) → (c ≡ true → Q a) → (c ≡ false → Q b) → Q (cond c a b)
by_test Q true a b holds isnt = holds refl
by_test Q false a b holds isnt = isnt refl

abbrev Lines : List ℕ → Front → Type 0
Lines z f = HasLines (take f.len z) f.found

other_lines : (z : List ℕ) (f : Front) → is_on_line f.found ≡ false → (f.found ≡ found.Blank → ⊥) → Lines z f
other_lines z f off isnt = record { one = λ is. absurd (cc); comment = λ is. absurd (isnt is) }

mark_lines : (z : List ℕ) (k : Kind) (n : ℕ) → Lines z (mark k n)
mark_lines z k n = other_lines z (mark k n) refl (λ is. cc)

on_lines : (z : List ℕ) (f : Front) → (f.found ≡ found.Blank → ⊥) → ((line : ℕ) → line_at line (take f.len z) ≡ line) → Lines z f
on_lines z f isnt on = record { one = λ is line. on line; comment = λ is. absurd (isnt is) }

first_mark_lines : (ms : List (List ℕ × Kind)) (z : List ℕ) → Lines z (first_mark ms z)
first_mark_lines [] z = mark_lines z kinds.Bad (length z)
first_mark_lines (m ∷ ms) z = by_test (Lines z) (starts_with nat_eq z m.0) (mark m.1 (length m.0)) (first_mark ms z) (λ is. mark_lines z m.1 (length m.0)) (λ is. first_mark_lines ms z)

punctuation_lines : (z : List ℕ) → Lines z (punctuation z)
unfolding punctuation
punctuation_lines z = first_mark_lines (map (λ m. (m.0.now, m.1)) MARKS) z

quoted_lines : (z : List ℕ) (o : Option ℕ) → quoted_end false 1 (drop 1 z) ≡ o → Lines z (quoted z)
unfolding quoted
quoted_lines z None e = rw e (mark_lines z kinds.TextBegin (length z))
quoted_lines z (Some end) e = rw e (other_lines z (front found.Quoted end) refl (λ is. cc))

number_lines : (z : List ℕ) (o : Option ℕ) → cond (is_fraction (drop (prefix_len is_word z) z)) None (number_value (take (prefix_len is_word z) z)) ≡ o → Lines z (number z)
unfolding number
number_lines z None e = rw e (mark_lines z kinds.Bad (length z))
number_lines z (Some n) e = rw e (on_lines z (front (found.Number (pos n)) (prefix_len is_word z)) (λ is. cc) (λ line. number_on_line line z (prefix_len is_word z) (omega arith)))

name_lines : (z : List ℕ) → begins_word sorts.Name z ≡ true → Lines z (name z)
unfolding name
name_lines z begins = on_lines z (name z) (λ is. cc) (λ line. word_on_line sorts.Name line z (word_len sorts.Name z) begins (omega arith))

type_lines : (z : List ℕ) → begins_word sorts.Type z ≡ true → Lines z (type_name z)
unfolding type_name
type_lines z begins = on_lines z (type_name z) (λ is. cc) (λ line. word_on_line sorts.Type line z (word_len sorts.Type z) begins (omega arith))

-- a variable behind its `$`
dollar_on_line : (line : ℕ) (z : List ℕ) → get_or z 0 0 ≡ 36 → begins_word sorts.Variable (drop 1 z) ≡ true → line_at line (take (word_len sorts.Variable (drop 1 z) + 1) z) ≡ line
dollar_on_line line [] is begins = absurd (omega (arith, is))
dollar_on_line line (b ∷ z) is begins =
    let n = word_len sorts.Variable z in
    let e : n + 1 ≡ suc n = omega arith in
    let isnt : (b == 10) ≡ false = grind (arith, nat_tests, is) in
    rw e (line_step line b (take n z) isnt ∙ word_on_line sorts.Variable line z n begins (omega arith))

variable_lines : (z : List ℕ) → get_or z 0 0 ≡ 36 → Lines z (variable z)
unfolding variable
variable_lines z is =
    let len = word_len sorts.Variable (drop 1 z) in
    by_test (Lines z) (begins_word sorts.Variable (drop 1 z)) (front (found.Dollar (variable_kind (take len (drop 1 z)))) (len + 1)) (bad z)
    (λ begins. on_lines z (front (found.Dollar (variable_kind (take len (drop 1 z)))) (len + 1)) (λ e. cc) (λ line. dollar_on_line line z is begins))
    (λ e. mark_lines z kinds.Bad (length z))

token_lines : (z : List ℕ) → Lines z (token_front z)
unfolding token_front
token_lines z =
    by_test (Lines z) (get_or z 0 0 == 39) (quoted z) _ (λ is. quoted_lines z _ refl) (λ is1.
    by_test (Lines z) (get_or z 0 0 == 36) (variable z) _ (λ is. variable_lines z (grind (arith, nat_tests, is))) (λ is2.
    by_test (Lines z) (is_ascii_digit (get_or z 0 0)) (number z) _ (λ is. number_lines z _ refl) (λ is3.
    by_test (Lines z) (begins_word sorts.Name z) (name z) _ (λ is. name_lines z is) (λ is4.
    by_test (Lines z) (begins_word sorts.Type z) (type_name z) (punctuation z) (λ is. type_lines z is) (λ is5. punctuation_lines z)))))

code_lines : (z : List ℕ) → Lines z (in_code z)
unfolding in_code
code_lines z =
    by_test (Lines z) (not (blank_len z == 0)) (front found.Blank (blank_len z)) _
    (λ is. record { one = λ e. absurd (cc); comment = λ e hash line. comment_lines line z (blank_len z) refl hash }) (λ is1.
    by_test (Lines z) (opens_comment z) (front found.CutOff (length z)) (token_front z)
    (λ is. other_lines z (front found.CutOff (length z)) refl (λ e. cc)) (λ is. token_lines z))

text_lines : (z : List ℕ) → Lines z (in_text z)
unfolding in_text
text_lines z =
    by_test (Lines z) (get_or z 0 0 == 34) (mark kinds.TextEnd 1) _ (λ is. mark_lines z kinds.TextEnd 1) (λ is1.
    by_test (Lines z) (opens_interpolation z) (mark kinds.InterpolationBegin 2) _ (λ is. mark_lines z kinds.InterpolationBegin 2) (λ is2.
    by_test (Lines z) (opens_variable z) (variable_in_text z) (front found.Run (run_len z))
    (λ is. let parts = both (get_or z 0 0 == 36) (begins_word sorts.Variable (drop 1 z)) is in
    let dollar : get_or z 0 0 ≡ 36 = grind (arith, nat_tests, parts.0) in
    on_lines z (variable_in_text z) (λ e. cc) (λ line. dollar_on_line line z dollar parts.1))
    (λ is. other_lines z (front found.Run (run_len z)) refl (λ e. cc))))

-- What stands round a place changes marks alone.
lines_in_place : (mode : Mode) (nest : List Open) (behind t : List ℕ) (f : Found) → HasLines t f → HasLines t (found_in_place mode nest behind f)
lines_in_place mode nest behind t (found.Mark k) h = record { one = λ is. absurd (cc); comment = λ is. absurd (cc) }
lines_in_place mode nest behind t found.Blank h = h
lines_in_place mode nest behind t found.CutOff h = h
lines_in_place mode nest behind t (found.Word k) h = h
lines_in_place mode nest behind t (found.Dollar k) h = h
lines_in_place mode nest behind t (found.Number n) h = h
lines_in_place mode nest behind t found.Quoted h = h
lines_in_place mode nest behind t found.Run h = h

front_lines : (mode : Mode) (nest : List Open) (z : List ℕ) → Lines z (front_at mode nest z)
front_lines modes.Inside nest z = text_lines z
front_lines modes.AfterBlank nest z = lines_in_place modes.AfterBlank nest (drop 1 z) (take (in_code z).len z) (in_code z).found (code_lines z)
front_lines modes.AfterToken nest z = lines_in_place modes.AfterToken nest (drop 1 z) (take (in_code z).len z) (in_code z).found (code_lines z)

-- the same of what is cut out
pub lines_cut : (mode : Mode) (nest : List Open) (z spelling : List ℕ) (f : Front) → f ≡ front_at mode nest z → spelling ≡ take f.len z → HasLines spelling f.found
lines_cut mode nest z spelling f is here = rw (here, is) (front_lines mode nest z)
