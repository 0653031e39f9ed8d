-- What stands behind a front, before an end, and before the last of some bytes.
use Rattle.std.proofs.Common.{◌≡◌, ℕ, zero, suc, ◌-◌, ◌≤◌, true, false, if◌then◌else◌, nat_eq, List, [], ◌∷◌, ◌++◌, length, take, drop, Option, Some, None, option_map, option_and_then, codes, refl, ap, sym, ◌∙◌, arith, length-append}
use Rattle.std.proofs.lemmas.Bool.Decides.{Decides-eqb}
use Rattle.std.proofs.lemmas.Slice.Eq.{starts_is, ends_is}
use Rattle.std.specs.List.{starts_with, ends_with}
use denote.Ref.{Bor}
use Rattle.std.specs.Option.{MatchOption}
use Rattle.std.specs.Str.Pattern.{LacksTextAt, FindsTextPrefix, FindsTextSuffix, StripsPrefix, StripsSuffix, RFindsChar, SplitsAroundMatch}
use Rattle.std.proofs.lemmas.Str.Pattern.{NoCharPasses-char, drop_at_char}
use Rattle.std.proofs.lemmas.List.{take-append-drop}
use Rattle.json_documents.specs.LinesOfText.{has_byte}
use Rattle.json_documents.proofs.Cutting.{lacks_byte}
use Rattle.hiera_config.specs.Cuts.{after_prefix, before_suffix}
use Rattle.agent_docs.proofs.ReportsRead.{Holds}
use Rattle.journal_reading.specs.EntryReading.{cut_last, within}
use Rattle.journal_reading.proofs.ExportsBack.{last_cut, not_cut}

-- ---- at the front

front_of : (s mark : List ℕ) → starts_with nat_eq s mark ≡ true → s ≡ mark ++ drop (length mark) s
front_of s mark h = (starts_is Decides-eqb s mark (starts_with nat_eq s mark) refl).0 h

has_front : (s mark rest : List ℕ) → s ≡ mark ++ rest → starts_with nat_eq s mark ≡ true
has_front s mark rest h = (starts_is Decides-eqb s mark (starts_with nat_eq s mark) refl).1 rest h

no_prefix : (s mark : List ℕ) → LacksTextAt mark s 0 → None ≡ after_prefix mark s
no_prefix s mark lacks =
    elim (starts_with nat_eq s mark) as
    (λ b. starts_with nat_eq s mark ≡ b → None ≡ (if b then Some (drop (length mark) s) else None)) [
      | true ↦ λ e. absurd (lacks (drop (length mark) s) (front_of s mark e))
      | false ↦ λ e. refl
    ] refl

prefix_off : (s mark x : List ℕ) → StripsPrefix (FindsTextPrefix mark) s x → Some x ≡ after_prefix mark s
prefix_off s mark x (n, found, is, _) =
    rw (has_front s mark (drop n s) found.1) (ap Some (is ∙ ap (λ k. drop k s) found.0))

pub after_prefix_is : (s mark : List ℕ) (r : Option (Bor (List ℕ)))
    → MatchOption r (FindsTextPrefix mark s None) (λ x. StripsPrefix (FindsTextPrefix mark) s x.now)
    → option_map (λ t. t.now) r ≡ after_prefix mark s
after_prefix_is s mark None h = no_prefix s mark h
after_prefix_is s mark (Some x) h = prefix_off s mark x.now h

drop_front : (xs ys : List ℕ) → drop (length xs) (xs ++ ys) ≡ ys
drop_front [] ys = refl
drop_front (x ∷ xs) ys = drop_front xs ys

pub behind_front : (xs ys : List ℕ) → after_prefix xs (xs ++ ys) ≡ Some ys
behind_front xs ys = rw (has_front (xs ++ ys) xs ys refl) (ap Some (drop_front xs ys))

-- ---- at the end

end_of : (s mark : List ℕ) → ends_with nat_eq s mark ≡ true → s ≡ take (length s - length mark) s ++ mark
end_of s mark h = (ends_is Decides-eqb s mark (ends_with nat_eq s mark) refl).0 h

has_end : (s mark front : List ℕ) → s ≡ front ++ mark → ends_with nat_eq s mark ≡ true
has_end s mark front h = (ends_is Decides-eqb s mark (ends_with nat_eq s mark) refl).1 front h

no_suffix : (s mark : List ℕ) → FindsTextSuffix mark s None → None ≡ before_suffix mark s
no_suffix s mark lacks =
    elim (ends_with nat_eq s mark) as
    (λ b. ends_with nat_eq s mark ≡ b → None ≡ (if b then Some (take (length s - length mark) s) else None)) [
      | true ↦ λ e. absurd (lacks (take (length s - length mark) s) (end_of s mark e))
      | false ↦ λ e. refl
    ] refl

suffix_off : (s mark x : List ℕ) → StripsSuffix (FindsTextSuffix mark) s x → Some x ≡ before_suffix mark s
suffix_off s mark x (n, found, is, _) =
    rw (has_end s mark (take (length s - n) s) found.1) (ap Some (is ∙ ap (λ k. take (length s - k) s) found.0))

pub before_suffix_is : (s mark : List ℕ) (r : Option (Bor (List ℕ)))
    → MatchOption r (FindsTextSuffix mark s None) (λ x. StripsSuffix (FindsTextSuffix mark) s x.now)
    → option_map (λ t. t.now) r ≡ before_suffix mark s
before_suffix_is s mark None h = no_suffix s mark h
before_suffix_is s mark (Some x) h = suffix_off s mark x.now h

take_front : (xs ys : List ℕ) → take (length xs) (xs ++ ys) ≡ xs
take_front [] ys = refl
take_front (x ∷ xs) ys = ap (λ zs. x ∷ zs) (take_front xs ys)

pub before_end : (xs ys : List ℕ) → before_suffix ys (xs ++ ys) ≡ Some xs
before_end xs ys =
    let front : length (xs ++ ys) - length ys ≡ length xs = omega (arith, length-append xs ys) in
    rw (has_end (xs ++ ys) ys xs refl, front) (ap Some (take_front xs ys))

-- ---- between a front and an end

pub found_within : (front text : List ℕ) →
    within (front ++ codes "null}") (front ++ (text ++ codes "}")) ≡ Some text
found_within front text =
    ap (λ o. option_and_then (before_suffix (codes "}"))
    (option_and_then (λ f. after_prefix f (front ++ (text ++ codes "}"))) o)) (before_end front (codes "null}"))
    ∙ ap (option_and_then (before_suffix (codes "}"))) (behind_front front (text ++ codes "}"))
    ∙ before_end text (codes "}")

abbrev NoLonger : List ℕ → List ℕ → Type 0
NoLonger line t = length t ≤ length line

taken_short : (n : ℕ) (bs : List ℕ) → length (take n bs) ≤ length bs
taken_short zero bs = omega arith
taken_short (suc n) [] = omega arith
taken_short (suc n) (b ∷ bs) = omega (arith, taken_short n bs)

dropped_short : (n : ℕ) (bs : List ℕ) → length (drop n bs) ≤ length bs
dropped_short zero bs = omega arith
dropped_short (suc n) [] = omega arith
dropped_short (suc n) (b ∷ bs) = omega (arith, dropped_short n bs)

end_short : (line mark s : List ℕ) → length s ≤ length line → Holds (NoLonger line) (before_suffix mark s)
end_short line mark s h =
    elim (ends_with nat_eq s mark) as (λ b. Holds (NoLonger line) (if b then Some (take (length s - length mark) s) else None)) [
      | true ↦ omega (arith, taken_short (length s - length mark) s, h)
      | false ↦ tt
    ]

front_short : (line mark : List ℕ) → Holds (NoLonger line) (after_prefix mark line)
front_short line mark =
    elim (starts_with nat_eq line mark) as (λ b. Holds (NoLonger line) (if b then Some (drop (length mark) line) else None)) [
      | true ↦ dropped_short (length mark) line
      | false ↦ tt
    ]

pub holds_step : {A B : Type 0} (Q : A → Type 0) (P : B → Type 0) (f : A → Option B) → ((a : A) → Q a → Holds P (f a)) →
    (o : Option A) → Holds Q o → Holds P (option_and_then f o)
holds_step Q P f step None h = tt
holds_step Q P f step (Some a) h = step a h

front_found : (line : List ℕ) (o : Option (List ℕ)) → Holds (NoLonger line) (option_and_then (λ f. after_prefix f line) o)
front_found line None = tt
front_found line (Some front) = front_short line front

pub within_short : (without line : List ℕ) → Holds (NoLonger line) (within without line)
within_short without line =
    holds_step (NoLonger line) (NoLonger line) (before_suffix (codes "}")) (λ s h. end_short line (codes "}") s h)
    (option_and_then (λ f. after_prefix f line) (before_suffix (codes "null}") without))
    (front_found line (before_suffix (codes "null}") without))

-- ---- at the last colon

last_parts : (bs front back : List ℕ) → SplitsAroundMatch (RFindsChar 58) bs front back → Some (front, back) ≡ cut_last 58 bs
last_parts bs front back (i, j, found, front_is, back_is, _, _, _) =
    let whole : bs ≡ front ++ 58 ∷ back =
    sym (take-append-drop i bs) ∙ ap (λ xs. take i bs ++ xs) (drop_at_char 58 bs i j found.1 (omega arith))
    ∙ ap (λ xs. xs ++ 58 ∷ drop j bs) (sym front_is) ∙ ap (λ xs. front ++ 58 ∷ xs) (sym back_is) in
    sym (ap (cut_last 58) whole ∙ last_cut 58 front back (ap (has_byte 58) back_is
    ∙ lacks_byte 58 (drop j bs) (λ k lt. NoCharPasses-char 58 (drop j bs) k found.0 (omega arith) lt)))

pub last_split : (bs : List ℕ) (r : Option (Bor (List ℕ) × Bor (List ℕ)))
    → MatchOption r (RFindsChar 58 bs None) (λ x. SplitsAroundMatch (RFindsChar 58) bs x.0.now x.1.now)
    → option_map (λ p. (p.0.now, p.1.now)) r ≡ cut_last 58 bs
last_split bs None h = sym (not_cut 58 bs (lacks_byte 58 bs (λ k lt. NoCharPasses-char 58 bs k h (omega arith) lt)))
last_split bs (Some x) h = last_parts bs x.0.now x.1.now h
