-- How far the bytes of a head have come, against the grammar of heads.
use Rattle.std.proofs.Common.{◌≡◌, ℕ, zero, suc, ◌≤◌, Bool, true, false, ◌==◌, cond, IsTrue, List, [], ◌∷◌, ◌++◌, refl, sym, ap, ◌∙◌, arith, append_assoc, append-nil}
use Rattle.std.specs.Prelude.{All}
use Rattle.std.specs.List.{flat_map}
use Rattle.std.proofs.lemmas.Bool.{eqb-true}
use Rattle.std.proofs.lemmas.List.Elements.{All-cons, All-nil, All-head, All-tail}
use Rattle.httparse.specs.Grammar.{is_token_byte, is_uri_byte, is_value_byte, AllPass, IsToken, LineEnd, crlf, lf, print_end, print_blank, print_version, Field, IsField, print_field, RequestHead, ReadsRequest, HasNoRequest, EndsInTarget}
use Rattle.httparse.proofs.GrammarLemmas.{print_request-append, cons-append}
use Rattle.http_wire.specs.declared.places.Place.{Place}
use Rattle.http_wire.specs.declared.places.Place.TheVariants.{Blank, BlankReturn, Method, Target, Line, LineStart, LineReturn, Ended}
use Rattle.http_wire.specs.Places.{next, after, is_ended, is_target, in_line}

-- ---- one byte

pub stays_ended : (xs : List ℕ) → after Ended xs ≡ Ended
stays_ended [] = refl
stays_ended (b ∷ xs) = stays_ended xs

-- what passes a test is no byte that fails it
differs : (test : ℕ → Bool) (b c : ℕ) → test c ≡ false → test b ≡ true → (b == c) ≡ false
differs test b c fails passes = by_test (b == c) refl
  where
    by_test : (t : Bool) → (b == c) ≡ t → (b == c) ≡ false
    by_test true same = absurd (let e = ap test (eqb-true b c same) in cc)
    by_test false other = other

token_line_feed : is_token_byte 10 ≡ false
unfolding is_token_byte
token_line_feed = refl

token_return : is_token_byte 13 ≡ false
unfolding is_token_byte
token_return = refl

token_space : is_token_byte 32 ≡ false
unfolding is_token_byte
token_space = refl

method_begins : (b : ℕ) → is_token_byte b ≡ true → next Blank b ≡ Method
method_begins b token = rw (differs is_token_byte b 10 token_line_feed token, differs is_token_byte b 13 token_return token, token) refl

name_begins : (b : ℕ) → is_token_byte b ≡ true → next LineStart b ≡ Line
name_begins b token = rw (differs is_token_byte b 10 token_line_feed token, differs is_token_byte b 13 token_return token) refl

-- ---- many bytes

method_goes : (xs ys : List ℕ) → AllPass is_token_byte xs → after Method (xs ++ ys) ≡ after Method ys
method_goes [] ys pass = refl
method_goes (b ∷ xs) ys pass =
    let here : is_token_byte b ≡ true = All-head (λ x. IsTrue (is_token_byte x)) b xs pass in
    ap (λ t. after (cond t Method (cond (b == 32) Target (in_line b))) (xs ++ ys)) here
    ∙ method_goes xs ys (All-tail (λ x. IsTrue (is_token_byte x)) b xs pass)

target_goes : (xs ys : List ℕ) → AllPass is_uri_byte xs → after Target (xs ++ ys) ≡ after Target ys
target_goes [] ys pass = refl
target_goes (b ∷ xs) ys pass =
    let here : is_uri_byte b ≡ true = All-head (λ x. IsTrue (is_uri_byte x)) b xs pass in
    ap (λ t. after (cond t Target (in_line b)) (xs ++ ys)) here ∙ target_goes xs ys (All-tail (λ x. IsTrue (is_uri_byte x)) b xs pass)

line_goes : (test : ℕ → Bool) → test 10 ≡ false → (xs ys : List ℕ) → AllPass test xs → after Line (xs ++ ys) ≡ after Line ys
line_goes test fails [] ys pass = refl
line_goes test fails (b ∷ xs) ys pass =
    let here : (b == 10) ≡ false = differs test b 10 fails (All-head (λ x. IsTrue (test x)) b xs pass) in
    ap (λ t. after (cond t LineStart Line) (xs ++ ys)) here ∙ line_goes test fails xs ys (All-tail (λ x. IsTrue (test x)) b xs pass)

blank_goes : (ends : List LineEnd) (ys : List ℕ) → after Blank (print_blank ends ++ ys) ≡ after Blank ys
blank_goes [] ys = refl
blank_goes (crlf ∷ ends) ys = blank_goes ends ys
blank_goes (lf ∷ ends) ys = blank_goes ends ys

end_goes : (end : LineEnd) (ys : List ℕ) → after Line (print_end end ++ ys) ≡ after LineStart ys
end_goes crlf ys = refl
end_goes lf ys = refl

last_ends : (last : LineEnd) (ys : List ℕ) → after LineStart (print_end last ++ ys) ≡ Ended
last_ends crlf ys = stays_ended ys
last_ends lf ys = stays_ended ys

name_goes : (name ys : List ℕ) → IsToken name → after LineStart (name ++ ys) ≡ after Line ys
name_goes [] ys token = absurd (omega (arith, token.0))
name_goes (b ∷ name) ys token =
    let here : is_token_byte b ≡ true = All-head (λ x. IsTrue (is_token_byte x)) b name token.1 in
    ap (λ p. after p (name ++ ys)) (name_begins b here)
    ∙ line_goes is_token_byte token_line_feed name ys (All-tail (λ x. IsTrue (is_token_byte x)) b name token.1)

-- ---- a head

field_printed : (f : Field) (ys : List ℕ) → print_field f ++ ys ≡ f.name ++ 58 ∷ (f.raw ++ (print_end f.end ++ ys))
field_printed f ys = regroup f.name f.raw (print_end f.end) ys
  where
    regroup : (a b c r : List ℕ) → (a ++ 58 ∷ b ++ c) ++ r ≡ a ++ 58 ∷ (b ++ (c ++ r))
    regroup a b c r = simp (append_assoc, cons-append)

field_goes : (f : Field) (ys : List ℕ) → IsField f → after LineStart (print_field f ++ ys) ≡ after LineStart ys
field_goes f ys is =
    ap (after LineStart) (field_printed f ys) ∙ name_goes f.name (58 ∷ (f.raw ++ (print_end f.end ++ ys))) is.name
    ∙ line_goes is_value_byte refl f.raw (print_end f.end ++ ys) is.raw ∙ end_goes f.end ys

section_ends : (fields : List Field) (last : LineEnd) (ys : List ℕ) → All IsField fields
    → after LineStart (flat_map print_field fields ++ (print_end last ++ ys)) ≡ Ended
section_ends [] last ys all = last_ends last ys
section_ends (f ∷ fields) last ys all =
    ap (after LineStart) (append_assoc (print_field f) (flat_map print_field fields) (print_end last ++ ys))
    ∙ field_goes f (flat_map print_field fields ++ (print_end last ++ ys)) (All-head IsField f fields all)
    ∙ section_ends fields last ys (All-tail IsField f fields all)

method_from_blank : (method ys : List ℕ) → IsToken method → after Blank (method ++ ys) ≡ after Method ys
method_from_blank [] ys token = absurd (omega (arith, token.0))
method_from_blank (b ∷ method) ys token =
    let here : is_token_byte b ≡ true = All-head (λ x. IsTrue (is_token_byte x)) b method token.1 in
    ap (λ p. after p (method ++ ys)) (method_begins b here)
    ∙ method_goes method ys (All-tail (λ x. IsTrue (is_token_byte x)) b method token.1)

method_then_target : (blank : List LineEnd) (method ys : List ℕ) → IsToken method
    → after Blank (print_blank blank ++ (method ++ 32 ∷ ys)) ≡ after Target ys
method_then_target blank method ys token =
    blank_goes blank (method ++ 32 ∷ ys) ∙ method_from_blank method (32 ∷ ys) token
    ∙ ap (λ t. after (cond t Method Target) ys) token_space

version_goes : (minor : ℕ) (ys : List ℕ) → minor ≤ 1 → after Line (print_version minor ++ ys) ≡ after Line ys
version_goes zero ys low = refl
version_goes (suc zero) ys low = refl
version_goes (suc (suc n)) ys low = absurd (omega arith)

pub head_ends : (buf : List ℕ) (h : RequestHead) (rest : List ℕ) → ReadsRequest buf h rest → after Blank buf ≡ Ended
head_ends buf h rest reads =
    let fields = flat_map print_field h.fields in
    let behind = print_end h.line_end ++ ((fields ++ print_end h.last) ++ rest) in
    ap (after Blank) (reads.1 ∙ print_request-append h rest)
    ∙ method_then_target h.blank h.method (h.target ++ 32 ∷ (print_version h.minor ++ behind)) reads.0.method
    ∙ target_goes h.target (32 ∷ (print_version h.minor ++ behind)) reads.0.target.1
    ∙ version_goes h.minor behind reads.0.minor
    ∙ end_goes h.line_end ((fields ++ print_end h.last) ++ rest)
    ∙ ap (after LineStart) (append_assoc fields (print_end h.last) rest)
    ∙ section_ends h.fields h.last rest reads.0.fields

-- where the end of a head has not come there is none
pub not_ended : (buf : List ℕ) → is_ended (after Blank buf) ≡ false → HasNoRequest buf
not_ended buf unended h rest reads = absurd (let e = ap is_ended (head_ends buf h rest reads) in cc)

-- ---- a target

pub in_target : (buf : List ℕ) → EndsInTarget buf → is_target (after Blank buf) ≡ true
in_target buf (blank, method, target, token, pass, is) =
    ap is_target
    (ap (after Blank) (is ∙ append_assoc (print_blank blank) method (32 ∷ target)) ∙ method_then_target blank method target token
    ∙ ap (after Target) (sym (append-nil target)) ∙ target_goes target [] pass)

abbrev is_past : Place → Bool
is_past Blank = false
is_past BlankReturn = false
is_past Method = false
is_past Target = false
is_past Line = true
is_past LineStart = true
is_past LineReturn = true
is_past Ended = true

either : (t : Bool) (p q : Place) → is_past p ≡ true → is_past q ≡ true → is_past (cond t p q) ≡ true
either true p q first second = first
either false p q first second = second

past_line : (b : ℕ) → is_past (in_line b) ≡ true
past_line b = either (b == 10) LineStart Line refl refl

past_next : (p : Place) (b : ℕ) → is_past p ≡ true → is_past (next p b) ≡ true
past_next Blank b has = absurd (cc)
past_next BlankReturn b has = absurd (cc)
past_next Method b has = absurd (cc)
past_next Target b has = absurd (cc)
past_next Line b has = past_line b
past_next LineStart b has = either (b == 10) Ended (cond (b == 13) LineReturn Line) refl (either (b == 13) LineReturn Line refl refl)
past_next LineReturn b has = either (b == 10) Ended Line refl refl
past_next Ended b has = refl

no_target : (p : Place) → is_past p ≡ true → is_target p ≡ true → ⊥
no_target Blank has target = cc
no_target BlankReturn has target = cc
no_target Method has target = cc
no_target Target has target = cc
no_target Line has target = cc
no_target LineStart has target = cc
no_target LineReturn has target = cc
no_target Ended has target = cc

past_stays : (p : Place) (xs : List ℕ) → is_past p ≡ true → is_target (after p xs) ≡ true → ⊥
past_stays p [] has target = no_target p has target
past_stays p (b ∷ xs) has target = past_stays (next p b) xs (past_next p b has) target

target_step : (b : ℕ) (xs : List ℕ) → (is_target (after Target xs) ≡ true → AllPass is_uri_byte xs) → (t : Bool) → is_uri_byte b ≡ t
    → is_target (after (cond t Target (in_line b)) xs) ≡ true → AllPass is_uri_byte (b ∷ xs)
target_step b xs further true uri is = All-cons (λ x. IsTrue (is_uri_byte x)) b xs uri (further is)
target_step b xs further false other is = absurd (past_stays (in_line b) xs (past_line b) is)

target_from : (xs : List ℕ) → is_target (after Target xs) ≡ true → AllPass is_uri_byte xs
target_from [] is = All-nil (λ x. IsTrue (is_uri_byte x))
target_from (b ∷ xs) is = target_step b xs (target_from xs) (is_uri_byte b) refl is

abbrev InMethod : List ℕ → Type 0
InMethod xs = (m : List ℕ) × (t : List ℕ) × AllPass is_token_byte m × AllPass is_uri_byte t × (xs ≡ m ++ 32 ∷ t)

space_step : (b : ℕ) (xs : List ℕ) (t : Bool) → (b == 32) ≡ t → is_target (after (cond t Target (in_line b)) xs) ≡ true → InMethod (b ∷ xs)
space_step b xs true space is =
    ([], xs, All-nil (λ x. IsTrue (is_token_byte x)), target_from xs is, ap (λ c. c ∷ xs) (eqb-true b 32 space))
space_step b xs false other is = absurd (past_stays (in_line b) xs (past_line b) is)

method_step : (b : ℕ) (xs : List ℕ) → (is_target (after Method xs) ≡ true → InMethod xs) → (t : Bool) → is_token_byte b ≡ t
    → is_target (after (cond t Method (cond (b == 32) Target (in_line b))) xs) ≡ true → InMethod (b ∷ xs)
method_step b xs further true token is =
    let m = further is in
    (b ∷ m.0, m.1, All-cons (λ x. IsTrue (is_token_byte x)) b m.0 token m.2, m.3, ap (λ l. b ∷ l) m.4)
method_step b xs further false other is = space_step b xs (b == 32) refl is

method_from : (xs : List ℕ) → is_target (after Method xs) ≡ true → InMethod xs
method_from [] is = absurd (cc)
method_from (b ∷ xs) is = method_step b xs (method_from xs) (is_token_byte b) refl is

-- behind a carriage return before the request line
abbrev InReturn : List ℕ → Type 0
InReturn xs = (ys : List ℕ) × (xs ≡ 10 ∷ ys) × EndsInTarget ys

return_step : (c : ℕ) (ys : List ℕ) → (is_target (after Blank ys) ≡ true → EndsInTarget ys) → (t : Bool) → (c == 10) ≡ t
    → is_target (after (cond t Blank Line) ys) ≡ true → InReturn (c ∷ ys)
return_step c ys further true feed is = (ys, ap (λ b. b ∷ ys) (eqb-true c 10 feed), further is)
return_step c ys further false other is = absurd (past_stays Line ys refl is)

with_return : (b : ℕ) (xs : List ℕ) → b ≡ 13 → InReturn xs → EndsInTarget (b ∷ xs)
with_return b xs cr (ys, behind, (blank, method, target, token, pass, is)) = (
  crlf ∷ blank,
  method,
  target,
  token,
  pass,
  ap (λ c. c ∷ xs) cr ∙ ap (λ l. 13 ∷ l) behind ∙ ap (λ l. 13 ∷ 10 ∷ l) is,
)

with_feed : (b : ℕ) (xs : List ℕ) → b ≡ 10 → EndsInTarget xs → EndsInTarget (b ∷ xs)
with_feed b xs feed (blank, method, target, token, pass, is) =
    (lf ∷ blank, method, target, token, pass, ap (λ c. c ∷ xs) feed ∙ ap (λ l. 10 ∷ l) is)

with_method : (b : ℕ) (xs : List ℕ) → is_token_byte b ≡ true → InMethod xs → EndsInTarget (b ∷ xs)
with_method b xs token m =
    ([], b ∷ m.0, m.1, (omega arith, All-cons (λ x. IsTrue (is_token_byte x)) b m.0 token m.2), m.3, ap (λ l. b ∷ l) m.4)

token_step : (b : ℕ) (xs : List ℕ) (t : Bool) → is_token_byte b ≡ t → is_target (after (cond t Method Line) xs) ≡ true → EndsInTarget (b ∷ xs)
token_step b xs true token is = with_method b xs token (method_from xs is)
token_step b xs false other is = absurd (past_stays Line xs refl is)

crlf_step : (b : ℕ) (xs : List ℕ) → (is_target (after BlankReturn xs) ≡ true → InReturn xs) → (t : Bool) → (b == 13) ≡ t
    → is_target (after (cond t BlankReturn (cond (is_token_byte b) Method Line)) xs) ≡ true → EndsInTarget (b ∷ xs)
crlf_step b xs further true cr is = with_return b xs (eqb-true b 13 cr) (further is)
crlf_step b xs further false other is = token_step b xs (is_token_byte b) refl is

blank_step : (b : ℕ) (xs : List ℕ) → (is_target (after Blank xs) ≡ true → EndsInTarget xs)
    → (is_target (after BlankReturn xs) ≡ true → InReturn xs) → (t : Bool) → (b == 10) ≡ t
    → is_target (after (cond t Blank (cond (b == 13) BlankReturn (cond (is_token_byte b) Method Line))) xs) ≡ true → EndsInTarget (b ∷ xs)
blank_step b xs further behind true feed is = with_feed b xs (eqb-true b 10 feed) (further is)
blank_step b xs further behind false other is = crlf_step b xs behind (b == 13) refl is

pub target_in : (buf : List ℕ) → is_target (after Blank buf) ≡ true → EndsInTarget buf
target_in [] is = absurd (cc)
target_in (b ∷ []) is = blank_step b [] (λ none. absurd (cc)) (λ none. absurd (cc)) (b == 10) refl is
target_in (b ∷ c ∷ xs) is =
    blank_step b (c ∷ xs) (target_in (c ∷ xs)) (λ behind. return_step c xs (target_in xs) (c == 10) refl behind) (b == 10) refl is
