-- Names that rise: each stands once.
use Rattle.std.proofs.Common.{◌≡◌, ℕ, ◌+◌, Bool, true, false, List, [], ◌∷◌, ◌++◌, refl, sym, ap, ◌∙◌, subst, arith, true≢false}
use Rattle.std.specs.declared.cmp.Ordering.TheVariants.{Greater}
use Rattle.std.specs.Cmp.{second_so, tied_itself}
use Rattle.std.specs.Prelude.{◌||◌}
use Rattle.std.specs.Str.{bytes_eq}
use Rattle.std.proofs.lemmas.Cmp.{nat_list_cmp_total}
use Rattle.std.proofs.lemmas.Slice.Eq.{bytes_eq-Decides}
use Rattle.list_sums.specs.Counts.{total, bit}
use Rattle.pp_values.specs.Rising.{text_cmp, is_rising, has_text}
use Rattle.pp_values.proofs.RisingLemmas.{above_first}

-- how often a name stands among these
abbrev pub stands : List ℕ → List (List ℕ) → ℕ
stands n names = total (λ m. bit (bytes_eq n m)) names

pub text_is : (a b : List ℕ) → bytes_eq a b ≡ true → a ≡ b
text_is a b so = (bytes_eq-Decides a b).0 so

pub text_itself : (a : List ℕ) → bytes_eq a a ≡ true
text_itself a = (bytes_eq-Decides a a).1 refl

-- a name that is there parts the list
pub name_parts : (names : List (List ℕ)) (n : List ℕ) → has_text names n ≡ true →
    (a : List (List ℕ)) × (b : List (List ℕ)) × (names ≡ a ++ n ∷ b)
name_parts [] n has = absurd (true≢false (sym has))
name_parts (m ∷ names) n has =
    elim (bytes_eq n m) as (λ o. bytes_eq n m ≡ o → (o || has_text names n) ≡ true →
    (a : List (List ℕ)) × (b : List (List ℕ)) × (m ∷ names ≡ a ++ n ∷ b)) [
      | true ↦ λ is so. ([], names, ap (λ x. x ∷ names) (sym (text_is n m is)))
      | false ↦ λ is so. let rest = name_parts names n so in (m ∷ rest.0, rest.1, ap (λ l. m ∷ l) rest.2)
    ] refl has

not_greater : {P : Type 0} (a : List ℕ) → text_cmp a a ≡ Greater → P
not_greater a is = absurd (cc (tied_itself nat_list_cmp_total a, is))

first_once : (m : List ℕ) (names : List (List ℕ)) → is_rising (m ∷ names) ≡ true → has_text names m ≡ false
first_once m names rising =
    elim (has_text names m) as (λ o. has_text names m ≡ o → o ≡ false) [
      | true ↦ λ has. let parts = name_parts names m has in not_greater m (above_first m m parts.0 parts.1
          (subst (λ l. is_rising (m ∷ l) ≡ true) parts.2 rising))
      | false ↦ λ has. refl
    ] refl

pub stands_once : (names : List (List ℕ)) (n : List ℕ) → is_rising names ≡ true →
    stands n names ≡ bit (has_text names n)
stands_once [] n rising = refl
stands_once (m ∷ names) n rising =
    let rest = stands_once names n (second_so _ _ rising) in
    elim (bytes_eq n m) as (λ o. bytes_eq n m ≡ o → bit o + stands n names ≡ bit (o || has_text names n)) [
      | true ↦ λ is. let none : has_text names n ≡ false =
          subst (λ x. has_text names x ≡ false) (sym (text_is n m is)) (first_once m names rising) in
          let zero_of : bit (has_text names n) ≡ 0 = ap bit none in omega (arith, rest, zero_of)
      | false ↦ λ is. omega (arith, rest)
    ] refl

pub has_here : (a b : List (List ℕ)) (n : List ℕ) → has_text (a ++ n ∷ b) n ≡ true
has_here [] b n = ap (λ o. o || has_text b n) (text_itself n)
has_here (m ∷ a) b n = ap (λ o. bytes_eq n m || o) (has_here a b n) ∙ or_true (bytes_eq n m) where
  or_true : (o : Bool) → (o || true) ≡ true
  or_true true = refl
  or_true false = refl
