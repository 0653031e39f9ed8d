-- What is refused stays refused while bytes are added, and for the same reason alone.
use Rattle.std.proofs.Common.{◌≡◌, ◌≢◌, ◌⊎◌, inl, inr, ℕ, zero, suc, ◌+◌, ◌-◌, ◌<◌, ◌≤◌, Bool, IsTrue, List, [], ◌∷◌, ◌++◌, length, take, Option, Some, None, refl, sym, ap, ◌∙◌, subst, arith, append_assoc, append-nil, length-append}
use Rattle.std.specs.Prelude.{codes}
use Rattle.std.proofs.lemmas.List.{take_all, take-append-le}
use Rattle.std.proofs.lemmas.List.Elements.{All-cons, All-nil, All-head, All-tail}
use Rattle.std.proofs.lemmas.Str.{IsUtf8-from_ascii}
use Rattle.std.proofs.lemmas.Str.Ascii.{IsAscii-nil, IsAscii-cons}
use Rattle.std.proofs.Math.Seq.{take-append-add}
use Rattle.httparse.specs.Grammar.{lf, LineEnd, print_blank, RequestHead, IsField, print_request, ReadsRequest, HasNoRequest, NeverHasRequest, EndsInTarget, AllPass, IsToken, is_uri_byte}
use Rattle.httparse.proofs.GrammarLemmas.{print_request-append, request_unique}
use Rattle.http_wire.specs.declared.request.H.{H}
use Rattle.http_wire.specs.declared.request.H.TheVariants as h
use Rattle.http_wire.specs.Fields.{fields_of, body_length}
use Rattle.http_wire.specs.Messages.{most_head, most_body, HasHead, Announces, IsOpen, IsOpenHead, IsNoHead, IsCrowded, Refuses}
use Rattle.http_wire.proofs.Fronts.{head_stays}

-- ---- no head

module _ {A : Type 0} where
  -- of two fronts of one list one is a front of the other
  split_cases : (xs ys us vs : List A) → xs ++ ys ≡ us ++ vs
      → ((zs : List A) × (us ≡ xs ++ zs) × (ys ≡ zs ++ vs)) ⊎ ((zs : List A) × (xs ≡ us ++ zs) × (vs ≡ zs ++ ys))
  split_cases [] ys us vs is = inl (us, refl, is)
  split_cases (x ∷ xs) ys [] vs is = inr (x ∷ xs, refl, sym is)
  split_cases (x ∷ xs) ys (u ∷ us) vs is =
      let head : x ≡ u = cc (is) in let tail : xs ++ ys ≡ us ++ vs = cc (is) in by_cases head (split_cases xs ys us vs tail)
    where
      by_cases : x ≡ u → ((zs : List A) × (us ≡ xs ++ zs) × (ys ≡ zs ++ vs)) ⊎ ((zs : List A) × (xs ≡ us ++ zs) × (vs ≡ zs ++ ys))
          → ((zs : List A) × (u ∷ us ≡ x ∷ xs ++ zs) × (ys ≡ zs ++ vs)) ⊎ ((zs : List A) × (x ∷ xs ≡ u ∷ us ++ zs) × (vs ≡ zs ++ ys))
      by_cases same (inl (zs, front, back)) = inl (zs, cc (same, front), back)
      by_cases same (inr (zs, front, back)) = inr (zs, cc (same, front), back)

AllPass_front : (test : ℕ → Bool) (xs ys : List ℕ) → AllPass test (xs ++ ys) → AllPass test xs
AllPass_front test [] ys pass = All-nil (λ x. IsTrue (test x))
AllPass_front test (b ∷ xs) ys pass =
    All-cons (λ x. IsTrue (test x)) b xs (All-head (λ x. IsTrue (test x)) b (xs ++ ys) pass)
    (AllPass_front test xs ys (All-tail (λ x. IsTrue (test x)) b (xs ++ ys) pass))

-- the shortest target, and the rest of a head
abbrev shortest : List ℕ
shortest = codes " / HTTP/1.0" ++ 10 ∷ 10 ∷ []

-- a method makes a head with it
method_may_go_on : (blank : List LineEnd) (method : List ℕ) → IsToken method
    → (head : RequestHead) × ReadsRequest ((print_blank blank ++ method) ++ shortest) head []
method_may_go_on blank method token =
    let head : RequestHead = record { blank = blank; method = method; target = codes "/"; minor = 0; line_end = lf; fields = []; last = lf } in (
      head,
      (
        record {
          method = token;
          target = (omega arith, All-cons (λ x. IsTrue (is_uri_byte x)) 47 [] refl (All-nil (λ x. IsTrue (is_uri_byte x))));
          target_text = IsUtf8-from_ascii (codes "/") (IsAscii-cons 47 [] (omega arith) IsAscii-nil);
          minor = omega arith;
          fields = All-nil IsField;
        },
        append_assoc (print_blank blank) method shortest ∙ sym (print_request-append head []),
      ),
    )

ends_before : (xs ys : List ℕ) → NeverHasRequest xs → EndsInTarget (xs ++ ys) → EndsInTarget xs
ends_before xs ys never (blank, method, target, token, pass, is) = by_cases (split_cases xs ys start (32 ∷ target) is)
  where
    start : List ℕ
    start = print_blank blank ++ method

    too_early : (zs : List ℕ) → start ≡ xs ++ zs → EndsInTarget xs
    too_early zs front =
        let whole = method_may_go_on blank method token in
        absurd (never (zs ++ shortest) whole.0 []
        (subst (λ l. ReadsRequest l whole.0 []) (ap (λ l. l ++ shortest) front ∙ append_assoc xs zs shortest) whole.1))

    by_cases : ((zs : List ℕ) × (start ≡ xs ++ zs) × (ys ≡ zs ++ 32 ∷ target)) ⊎ ((zs : List ℕ) × (xs ≡ start ++ zs) × (32 ∷ target ≡ zs ++ ys))
        → EndsInTarget xs
    by_cases (inl (zs, front, back)) = too_early zs front
    by_cases (inr ([], front, back)) = too_early [] (sym (append-nil start) ∙ sym front ∙ sym (append-nil xs))
    by_cases (inr (z ∷ zs, front, back)) =
        let space : 32 ≡ z = cc (back) in let rest : target ≡ zs ++ ys = cc (back) in (
          blank,
          method,
          zs,
          token,
          AllPass_front is_uri_byte zs ys (subst (AllPass is_uri_byte) rest pass),
          front ∙ ap (λ b. start ++ b ∷ zs) (sym space),
        )

pub never_stays : (xs ys : List ℕ) → IsNoHead xs → IsNoHead (xs ++ ys)
never_stays xs ys (never, apart) =
    (λ more. subst HasNoRequest (sym (append_assoc xs ys more)) (never (ys ++ more)), λ ends. apart (ends_before xs ys never ends))

take_grows : (n : ℕ) (xs ys : List ℕ) → (zs : List ℕ) × (take n (xs ++ ys) ≡ take n xs ++ zs)
take_grows zero xs ys = ([], refl)
take_grows (suc n) [] ys = (take (suc n) ys, refl)
take_grows (suc n) (x ∷ xs) ys = let further = take_grows n xs ys in (further.0, ap (λ l. x ∷ l) further.1)

-- ---- what is refused

pub refused_stays : (why : H) (bytes more : List ℕ) (ended ended' : Type 0) → why ≢ h.Truncated → Refuses why bytes ended → Refuses why (bytes ++ more) ended'
refused_stays h.BadHead bytes more ended ended' other (inl never) =
    let grown = take_grows most_head bytes more in
    inl (subst IsNoHead (sym grown.1) (never_stays (take most_head bytes) grown.0 never))
refused_stays h.BadHead bytes more ended ended' other (inr (head, back, has, many)) = inr (head, back ++ more, head_stays bytes back head more has, many)
refused_stays h.BadLength bytes more ended ended' other (back, (head, has, few, says)) = (back ++ more, (head, head_stays bytes back head more has, few, says))
refused_stays h.TooLarge bytes more ended ended' other (inl (long, unended)) =
    let sum = length-append bytes more in
    inl (omega (arith, long, sum), subst IsOpenHead (sym (take-append-le most_head bytes more long)) unended)
refused_stays h.TooLarge bytes more ended ended' other (inr (n, back, (head, has, few, says), large)) =
    inr (n, back ++ more, (head, head_stays bytes back head more has, few, says), large)
refused_stays h.Truncated bytes more ended ended' other is = absurd (other refl)

-- ---- one reason

head_in_front : (bytes back : List ℕ) (head : RequestHead) → HasHead bytes head back
    → (rest : List ℕ) × ReadsRequest (take most_head bytes) head rest
head_in_front bytes back head has =
    let printed = print_request head in
    let short = has.1 in
    let size : most_head ≡ length printed + (most_head - length printed) = omega (arith, short) in
    (_, (has.0, ap (take most_head) has.2 ∙ ap (λ n. take n (printed ++ back)) size ∙ take-append-add printed back (most_head - length printed)))

never_not_head : (bytes back : List ℕ) (head : RequestHead) → IsNoHead (take most_head bytes) → HasHead bytes head back → ⊥
never_not_head bytes back head (never, apart) has =
    let front = head_in_front bytes back head has in
    never [] head front.0 (subst (λ l. ReadsRequest l head front.0) (sym (append-nil (take most_head bytes))) front.1)

open_not_head : (bytes back : List ℕ) (head : RequestHead) → IsOpenHead (take most_head bytes) → HasHead bytes head back → ⊥
open_not_head bytes back head (none, may) has = let front = head_in_front bytes back head has in none head front.0 front.1

never_not_open : (bytes : List ℕ) → IsNoHead bytes → IsOpenHead bytes → ⊥
never_not_open bytes (never, apart) (none, inl (more, head, reads)) = never more head [] reads
never_not_open bytes (never, apart) (none, inr ends) = apart ends

says_once : (bytes : List ℕ) (s t : Option ℕ) (a b : List ℕ) → Announces bytes s a → Announces bytes t b → s ≡ t
says_once bytes s t a b (head, has, few, says) (head', has', few', says') =
    let same = request_unique bytes head head' a b (has.0, has.2) (has'.0, has'.2) in
    sym says ∙ ap (λ k. body_length (fields_of k)) same.0 ∙ says'

crowded_says_nothing : (bytes : List ℕ) (s : Option ℕ) (a : List ℕ) → IsCrowded bytes → Announces bytes s a → ⊥
crowded_says_nothing bytes s a (head, back, has, many) (head', has', few', says') =
    let same = request_unique bytes head head' back a (has.0, has.2) (has'.0, has'.2) in
    let count = ap (λ k. length k.fields) same.0 in omega (arith, count, many, few')

not_both : (n : ℕ) → None ≡ Some n → ⊥
not_both n is = cc

one_number : (m n : ℕ) → Some m ≡ Some n → m ≡ n
one_number m n is = cc

-- what is open is open within the limit of a head, or has a head
abbrev OpenBy : List ℕ → Type 0
OpenBy bytes =
    ((length bytes < most_head) × IsOpenHead (take most_head bytes))
    ⊎ ((n : ℕ) × (back : List ℕ) × Announces bytes (Some n) back × (n ≤ most_body))

open_by : (bytes : List ℕ) → IsOpen bytes → OpenBy bytes
open_by bytes (inl (short, unended)) = inl (short, subst IsOpenHead (sym (take_all most_head bytes (omega arith))) unended)
open_by bytes (inr (n, back, says, fits, short)) = inr (n, back, says, fits)

-- none of the other reasons leaves the bytes open
open_not_refused : (why : H) (bytes : List ℕ) (ended : Type 0) → why ≢ h.Truncated → OpenBy bytes → Refuses why bytes ended → ⊥
open_not_refused h.BadHead bytes ended other (inl (short, unended)) (inl never) = never_not_open (take most_head bytes) never unended
open_not_refused h.BadHead bytes ended other (inl (short, unended)) (inr (head, back, has, many)) = open_not_head bytes back head unended has
open_not_refused h.BadHead bytes ended other (inr (n, back, (head, has, few, says), fits)) (inl never) = never_not_head bytes back head never has
open_not_refused h.BadHead bytes ended other (inr (n, back, says, fits)) (inr crowded) = crowded_says_nothing bytes (Some n) back crowded says
open_not_refused h.BadLength bytes ended other (inl (short, unended)) (back, (head, has, few, says)) = open_not_head bytes back head unended has
open_not_refused h.BadLength bytes ended other (inr (n, back, says, fits)) (back', none) =
    not_both n (says_once bytes None (Some n) back' back none says)
open_not_refused h.TooLarge bytes ended other (inl (short, unended)) (inl (long, still)) = omega (arith, short, long)
open_not_refused h.TooLarge bytes ended other (inl (short, unended)) (inr (n, back, (head, has, few, says), large)) = open_not_head bytes back head unended has
open_not_refused h.TooLarge bytes ended other (inr (n, back, (head, has, few, says), fits)) (inl (long, still)) = open_not_head bytes back head still has
open_not_refused h.TooLarge bytes ended other (inr (n, back, says, fits)) (inr (m, back', says', large)) =
    let same = one_number n m (says_once bytes (Some n) (Some m) back back' says says') in omega (arith, same, fits, large)
open_not_refused h.Truncated bytes ended other unended is = other refl

pub refused_not_open : (why : H) (bytes : List ℕ) (ended : Type 0) → why ≢ h.Truncated → Refuses why bytes ended → IsOpen bytes → ⊥
refused_not_open why bytes ended other is unended = open_not_refused why bytes ended other (open_by bytes unended) is

head_or_length : (bytes : List ℕ) (e f : Type 0) → Refuses h.BadHead bytes e → Refuses h.BadLength bytes f → ⊥
head_or_length bytes e f (inl never) (back, (head, has, few, says)) = never_not_head bytes back head never has
head_or_length bytes e f (inr crowded) (back, says) = crowded_says_nothing bytes None back crowded says

head_or_large : (bytes : List ℕ) (e f : Type 0) → Refuses h.BadHead bytes e → Refuses h.TooLarge bytes f → ⊥
head_or_large bytes e f (inl never) (inl (long, still)) = never_not_open (take most_head bytes) never still
head_or_large bytes e f (inl never) (inr (n, back, (head, has, few, says), large)) = never_not_head bytes back head never has
head_or_large bytes e f (inr (head, back, has, many)) (inl (long, still)) = open_not_head bytes back head still has
head_or_large bytes e f (inr crowded) (inr (n, back, says, large)) = crowded_says_nothing bytes (Some n) back crowded says

length_or_large : (bytes : List ℕ) (e f : Type 0) → Refuses h.BadLength bytes e → Refuses h.TooLarge bytes f → ⊥
length_or_large bytes e f (back, (head, has, few, says)) (inl (long, still)) = open_not_head bytes back head still has
length_or_large bytes e f (back, none) (inr (n, back', says, large)) = not_both n (says_once bytes None (Some n) back back' none says)

-- bytes are refused for one reason
pub one_reason : (why why' : H) (bytes : List ℕ) (e f : Type 0) → Refuses why bytes e → Refuses why' bytes f → why ≡ why'
one_reason h.BadHead h.BadHead bytes e f is is' = refl
one_reason h.BadHead h.BadLength bytes e f is is' = absurd (head_or_length bytes e f is is')
one_reason h.BadHead h.TooLarge bytes e f is is' = absurd (head_or_large bytes e f is is')
one_reason h.BadHead h.Truncated bytes e f is (end, some, unended) = absurd (refused_not_open h.BadHead bytes e (λ s. cc) is unended)
one_reason h.BadLength h.BadHead bytes e f is is' = absurd (head_or_length bytes f e is' is)
one_reason h.BadLength h.BadLength bytes e f is is' = refl
one_reason h.BadLength h.TooLarge bytes e f is is' = absurd (length_or_large bytes e f is is')
one_reason h.BadLength h.Truncated bytes e f is (end, some, unended) = absurd (refused_not_open h.BadLength bytes e (λ s. cc) is unended)
one_reason h.TooLarge h.BadHead bytes e f is is' = absurd (head_or_large bytes f e is' is)
one_reason h.TooLarge h.BadLength bytes e f is is' = absurd (length_or_large bytes f e is' is)
one_reason h.TooLarge h.TooLarge bytes e f is is' = refl
one_reason h.TooLarge h.Truncated bytes e f is (end, some, unended) = absurd (refused_not_open h.TooLarge bytes e (λ s. cc) is unended)
one_reason h.Truncated h.BadHead bytes e f (end, some, unended) is' = absurd (refused_not_open h.BadHead bytes f (λ s. cc) is' unended)
one_reason h.Truncated h.BadLength bytes e f (end, some, unended) is' = absurd (refused_not_open h.BadLength bytes f (λ s. cc) is' unended)
one_reason h.Truncated h.TooLarge bytes e f (end, some, unended) is' = absurd (refused_not_open h.TooLarge bytes f (λ s. cc) is' unended)
one_reason h.Truncated h.Truncated bytes e f is is' = refl
