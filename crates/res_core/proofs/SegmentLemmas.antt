-- A name is cut at each `::`, as `split_once` cuts it at the first.
use Rattle.std.proofs.Common.{◌≡◌, ℕ, zero, suc, ◌<◌, ◌≤◌, true, false, ◌&&◌, ◌==◌, if◌then◌else◌, List, [], ◌∷◌, ◌++◌, length, take, drop, refl, ap, sym, subst, ◌∙◌, codes, arith}
use Rattle.std.proofs.lemmas.Bool.Decides.{nat_tests}
use Rattle.std.specs.List.{onto_first}
use Rattle.std.specs.Cmp.{first_so, second_so}
use Rattle.std.specs.Str.Pattern.{LacksTextAt, FindsText, SplitsAroundMatch}
use Rattle.res_core.specs.TagNames.{segments}

is_58 : (a : ℕ) → (a == 58) ≡ true → a ≡ 58
is_58 a h = grind (arith, nat_tests)

-- two colons stand at the front
at_front : (a b : ℕ) (rest : List ℕ) → ((a == 58) && (b == 58)) ≡ true → (a ∷ b ∷ rest) ≡ codes "::" ++ rest
at_front a b rest h = ap (λ x. x ∷ b ∷ rest) (is_58 a (first_so _ _ h)) ∙ ap (λ x. 58 ∷ x ∷ rest) (is_58 b (second_so (a == 58) _ h))

drop_nil : (i : ℕ) → drop i (let xs : List ℕ = [] in xs) ≡ []
drop_nil zero = refl
drop_nil (suc i) = refl

pub segments_whole : (s : List ℕ) → ((i : ℕ) → i ≤ length s → LacksTextAt (codes "::") s i) → segments s ≡ s ∷ []
unfolding segments
segments_whole [] lacks = refl
segments_whole (a ∷ []) lacks = refl
segments_whole (a ∷ b ∷ rest) lacks =
    elim ((a == 58) && (b == 58)) as (λ t. ((a == 58) && (b == 58)) ≡ t → (if t then [] ∷ segments rest else onto_first a (segments (b ∷ rest))) ≡ (a ∷ b ∷ rest) ∷ []) [
      | true ↦ λ e. absurd (lacks 0 (omega arith) rest (at_front a b rest e))
      | false ↦ λ e. ap (onto_first a) (segments_whole (b ∷ rest) (λ i le. lacks (suc i) (omega arith)))
    ] refl

-- the name is cut at the first two colons, which stand at i
pub segments_cut : (i : ℕ) (s : List ℕ) → ((k : ℕ) → k < i → LacksTextAt (codes "::") s k) → drop i s ≡ codes "::" ++ drop (suc (suc i)) s → segments s ≡ take i s ∷ segments (drop (suc (suc i)) s)
unfolding segments
segments_cut zero [] lacks found = absurd cc
segments_cut zero (a ∷ []) lacks found = absurd cc
segments_cut zero (a ∷ b ∷ rest) lacks found =
    let e : (a ∷ b ∷ rest) ≡ 58 ∷ 58 ∷ rest = found in
    let first : a ≡ 58 = cc in
    let second : b ≡ 58 = cc in
    rw (first, second) refl
segments_cut (suc i) [] lacks found = absurd cc
segments_cut (suc i) (a ∷ []) lacks found =
    let e : [] ≡ codes "::" ++ drop (suc (suc i)) (let xs : List ℕ = [] in xs) = sym (drop_nil i) ∙ found in absurd cc
segments_cut (suc i) (a ∷ b ∷ rest) lacks found =
    elim ((a == 58) && (b == 58)) as (λ t. ((a == 58) && (b == 58)) ≡ t → (if t then [] ∷ segments rest else onto_first a (segments (b ∷ rest))) ≡ take (suc i) (a ∷ b ∷ rest) ∷ segments (drop (suc (suc (suc i))) (a ∷ b ∷ rest))) [
      | true ↦ λ e. absurd (lacks 0 (omega arith) rest (at_front a b rest e))
      | false ↦ λ e. ap (onto_first a) (segments_cut i (b ∷ rest) (λ k lt. lacks (suc k) (omega arith)) found)
    ] refl

-- what `split_once` says where it finds `::`
pub segments_split : (s front back : List ℕ) → SplitsAroundMatch (FindsText (codes "::")) s front back → segments s ≡ front ∷ segments back
segments_split s front back (i, j, found, front_is, back_is, _, _, _) =
    let far : j ≡ suc (suc i) = omega (arith, found.1.ends) in
    let split : drop i s ≡ codes "::" ++ drop (suc (suc i)) s = subst (λ k. drop i s ≡ codes "::" ++ drop k s) far found.1.split in
    segments_cut i s found.0 split ∙ ap (λ x. x ∷ segments (drop (suc (suc i)) s)) (sym front_is) ∙ ap (λ x. front ∷ segments x) (ap (λ k. drop k s) (sym far) ∙ sym back_is)
