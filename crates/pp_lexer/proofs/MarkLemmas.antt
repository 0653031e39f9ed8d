-- A mark at the front of a text is a piece of it.
use Rattle.std.proofs.Common.{◌≡◌, ℕ, ◌-◌, ◌<◌, ◌≤◌, Bool, true, false, List, [], ◌∷◌, length, take, get_or, refl, sym, ap, ◌∙◌, subst, arith, get_or-take, nat_eq, nat_lt, ◌&&◌}
use Rattle.std.specs.List.{starts_with}
use Rattle.std.proofs.lemmas.Bool.Decides.{nat_tests}
use Rattle.std.proofs.lemmas.Slice.Eq.{bytes_eq-Decides}
use Rattle.pp_lexer.specs.Fronts.{IsPiece, mark}
use Rattle.pp_lexer.specs.Marks.{ends_in_ascii, punctuation}
use Rattle.pp_lexer.specs.declared.kind.Kind.{Kind}

both : (p q : Bool) → (p && q) ≡ true → (p ≡ true) × (q ≡ true)
both true q h = (refl, h)
both false q h = absurd (cc)

pub lone_is : (z : List ℕ) (k : Kind) → 0 < length z → ((y : List ℕ) → punctuation (get_or z 0 0 ∷ y) ≡ mark k 1) → mark k 1 ≡ punctuation z
lone_is [] k some is = absurd (omega arith)
lone_is (b ∷ z) k some is = sym (is z)

pub mark_is_piece : (z m : List ℕ) (k : Kind) → starts_with nat_eq z m ≡ true → length m ≤ length z → ends_in_ascii (m, k) ≡ true → IsPiece z (mark k (length m))
mark_is_piece z m k begins within ends =
    let same : m ≡ take (length m) z = (bytes_eq-Decides m (take (length m) z)).0 begins in
    let tests = both (nat_lt 0 (length m)) (nat_lt (get_or m (length m - 1) 0) 128) ends in
    let some : 0 < length m = grind (arith, nat_tests, tests.0) in
    let last : get_or m (length m - 1) 0 < 128 = grind (arith, nat_tests, tests.1) in
    let there : get_or (take (length m) z) (length m - 1) 0 ≡ get_or z (length m - 1) 0 = get_or-take (length m) z (length m - 1) 0 (omega arith) in
    record {
      moves = some;
      within = within;
      last = λ _. subst (λ (b : ℕ). b < 128) (ap (λ x. get_or x (length m - 1) 0) same ∙ there) last;
      ends = record { quotes = λ is. absurd (cc); dollar = λ k is. absurd (cc); number = λ n is. absurd (cc) };
    }

pub pair_is : (z : List ℕ) (k : Kind) (len : ℕ) → 1 < length z → ((y : List ℕ) → punctuation (get_or z 0 0 ∷ get_or z 1 0 ∷ y) ≡ mark k len) → mark k len ≡ punctuation z
pair_is [] k len some is = absurd (omega arith)
pair_is (b ∷ []) k len some is = absurd (omega arith)
pair_is (b ∷ c ∷ z) k len some is = sym (is z)
