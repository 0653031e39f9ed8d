-- What `split_once`, `strip_prefix` and `strip_suffix` find.
use Rattle.std.proofs.Common.{◌≡◌, ℕ, zero, suc, ◌+◌, ◌-◌, ◌<◌, ◌≤◌, true, false, if◌then◌else◌, nat_eq, List, [], ◌∷◌, ◌++◌, length, take, drop, Option, Some, None, option_map, refl, ap, sym, ◌∙◌, arith}
use Rattle.std.proofs.lemmas.Bool.Decides.{Decides-eqb}
use Rattle.std.proofs.lemmas.Slice.Eq.{starts_is, ends_is}
use Rattle.std.specs.List.{starts_with, ends_with}
use denote.Ref.{Bor}
use Rattle.std.specs.Option.{MatchOption}
use Rattle.std.specs.Str.Pattern.{LacksTextAt, FindsText, FindsTextPrefix, FindsTextSuffix, SplitsAroundMatch, StripsPrefix, StripsSuffix}
use Rattle.hiera_config.specs.Cuts.{cut_at, after_prefix, before_suffix}

-- ---- at the front

front_of : (s mark : List ℕ) → starts_with nat_eq s mark ≡ true → s ≡ mark ++ drop (length mark) s
front_of s mark h = (starts_is Decides-eqb s mark (starts_with nat_eq s mark) refl).0 h

has_front : (s mark rest : List ℕ) → s ≡ mark ++ rest → starts_with nat_eq s mark ≡ true
has_front s mark rest h = (starts_is Decides-eqb s mark (starts_with nat_eq s mark) refl).1 rest h

lacks_front : (s mark : List ℕ) → LacksTextAt mark s 0 → starts_with nat_eq s mark ≡ false
lacks_front s mark lacks =
    elim (starts_with nat_eq s mark) as (λ b. starts_with nat_eq s mark ≡ b → b ≡ false) [
      | true ↦ λ e. absurd (lacks (drop (length mark) s) (front_of s mark e))
      | false ↦ λ e. refl
    ] refl

no_prefix : (s mark : List ℕ) → FindsTextPrefix mark s None → None ≡ after_prefix mark s
no_prefix s mark lacks = rw (lacks_front s mark lacks) refl

prefix_off : (s mark x : List ℕ) → StripsPrefix (FindsTextPrefix mark) s x → Some x ≡ after_prefix mark s
prefix_off s mark x (n, found, is, _) =
    rw (has_front s mark (drop n s) found.1) (ap Some (is ∙ ap (λ k. drop k s) found.0))

pub after_prefix_is : (s mark : List ℕ) (r : Option (Bor (List ℕ)))
    → MatchOption r (FindsTextPrefix mark s None) (λ x. StripsPrefix (FindsTextPrefix mark) s x.now)
    → option_map (λ t. t.now) r ≡ after_prefix mark s
after_prefix_is s mark None h = no_prefix s mark h
after_prefix_is s mark (Some x) h = prefix_off s mark x.now h

-- ---- at the end

end_of : (s mark : List ℕ) → ends_with nat_eq s mark ≡ true → s ≡ take (length s - length mark) s ++ mark
end_of s mark h = (ends_is Decides-eqb s mark (ends_with nat_eq s mark) refl).0 h

pub has_end : (s mark front : List ℕ) → s ≡ front ++ mark → ends_with nat_eq s mark ≡ true
has_end s mark front h = (ends_is Decides-eqb s mark (ends_with nat_eq s mark) refl).1 front h

no_suffix : (s mark : List ℕ) → FindsTextSuffix mark s None → None ≡ before_suffix mark s
no_suffix s mark lacks =
    elim (ends_with nat_eq s mark) as
    (λ b. ends_with nat_eq s mark ≡ b → None ≡ (if b then Some (take (length s - length mark) s) else None)) [
      | true ↦ λ e. absurd (lacks (take (length s - length mark) s) (end_of s mark e))
      | false ↦ λ e. refl
    ] refl

suffix_off : (s mark x : List ℕ) → StripsSuffix (FindsTextSuffix mark) s x → Some x ≡ before_suffix mark s
suffix_off s mark x (n, found, is, _) =
    rw (has_end s mark (take (length s - n) s) found.1) (ap Some (is ∙ ap (λ k. take (length s - k) s) found.0))

pub before_suffix_is : (s mark : List ℕ) (r : Option (Bor (List ℕ)))
    → MatchOption r (FindsTextSuffix mark s None) (λ x. StripsSuffix (FindsTextSuffix mark) s x.now)
    → option_map (λ t. t.now) r ≡ before_suffix mark s
before_suffix_is s mark None h = no_suffix s mark h
before_suffix_is s mark (Some x) h = suffix_off s mark x.now h

-- what was taken off stood at the end
pub suffix_of : (s mark x : List ℕ) → Some x ≡ before_suffix mark s → s ≡ x ++ mark
suffix_of s mark x =
    elim (ends_with nat_eq s mark) as
    (λ b. ends_with nat_eq s mark ≡ b → Some x ≡ (if b then Some (take (length s - length mark) s) else None)
    → s ≡ x ++ mark) [
      | true ↦ λ e h. let is : x ≡ take (length s - length mark) s = cc h in
          end_of s mark e ∙ ap (λ t. t ++ mark) (sym is)
      | false ↦ λ e h. absurd (cc h)
    ] refl

-- ---- anywhere

not_within : (s mark : List ℕ) → 0 < length mark → ((i : ℕ) → i ≤ length s → LacksTextAt mark s i)
    → cut_at mark s ≡ None
unfolding cut_at
not_within [] mark full lacks = refl
not_within (b ∷ bs) mark full lacks =
    rw (
      lacks_front (b ∷ bs) mark (lacks 0 (omega arith)),
      not_within bs mark full
          (λ i le. lacks (suc i) (omega arith)),
    ) refl

nothing_there : (mark rest : List ℕ) → 0 < length mark → [] ≡ mark ++ rest → ⊥
nothing_there [] rest full e = omega arith
nothing_there (x ∷ mark) rest full e = cc

drop_nothing : (i : ℕ) → drop i (let xs : List ℕ = [] in xs) ≡ []
drop_nothing zero = refl
drop_nothing (suc i) = refl

cut_there : (i : ℕ) (s mark rest : List ℕ) → 0 < length mark → ((k : ℕ) → k < i → LacksTextAt mark s k)
    → drop i s ≡ mark ++ rest → cut_at mark s ≡ Some (take i s, drop (i + length mark) s)
unfolding cut_at
cut_there zero [] mark rest full lacks found = absurd (nothing_there mark rest full found)
cut_there (suc i) [] mark rest full lacks found =
    absurd (nothing_there mark rest full (sym (drop_nothing (suc i)) ∙ found))
cut_there zero (b ∷ bs) mark rest full lacks found =
    let e : 0 + length mark ≡ length mark = omega arith in rw (has_front (b ∷ bs) mark rest found, e) refl
cut_there (suc i) (b ∷ bs) mark rest full lacks found =
    let e : suc i + length mark ≡ suc (i + length mark) = omega arith in
    rw (
      lacks_front (b ∷ bs) mark (lacks 0 (omega arith)),
      cut_there i bs mark rest full
          (λ k lt. lacks (suc k) (omega arith)) found,
      e,
    ) refl

cut_in_two : (s mark front back : List ℕ) → 0 < length mark → SplitsAroundMatch (FindsText mark) s front back
    → Some (front, back) ≡ cut_at mark s
cut_in_two s mark front back full (i, j, found, front_is, back_is, _, _, _) =
    sym (cut_there i s mark (drop j s) full found.0 found.1.split
    ∙ ap Some (ap (λ x. (x, drop (i + length mark) s)) (sym front_is)
    ∙ ap (λ x. (front, x)) (ap (λ k. drop k s) (sym found.1.ends) ∙ sym back_is)))

pub cut_at_is : (s mark : List ℕ) (r : Option (Bor (List ℕ) × Bor (List ℕ))) → 0 < length mark
    → MatchOption r (FindsText mark s None) (λ x. SplitsAroundMatch (FindsText mark) s x.0.now x.1.now)
    → option_map (λ c. (c.0.now, c.1.now)) r ≡ cut_at mark s
cut_at_is s mark None full h = sym (not_within s mark full h)
cut_at_is s mark (Some x) full h = cut_in_two s mark x.0.now x.1.now full h
