-- In how many ways a list of tokens is cut into two.
use Rattle.std.proofs.Common.{◌≡◌, ℕ, List, [], ◌∷◌, ◌++◌, length, take, refl, sym, ap, ◌∙◌, arith}
use Rattle.std.proofs.lemmas.List.{length-append}
use Rattle.pp_lexer.specs.Seen.{Token}

take_front : (front rest : List Token) → take (length front) (front ++ rest) ≡ front
take_front [] rest = refl
take_front (t ∷ front) rest = ap (λ (ts : List Token). t ∷ ts) (take_front front rest)

pub same_front : (a b c d : List Token) → a ++ b ≡ c ++ d → length b ≡ length d → a ≡ c
same_front a b c d e l =
    let n : length a ≡ length c = omega (arith, ap (λ (ts : List Token). length ts) e, length-append a b, length-append c d) in
    sym (take_front a b) ∙ ap (λ (ts : List Token). take (length a) ts) e ∙ ap (λ (m : ℕ). take m (c ++ d)) n ∙ take_front c d

pub nothing_behind : (a b : List Token) → length b ≡ 0 → a ++ b ≡ a
nothing_behind [] [] e = refl
nothing_behind [] (u ∷ b) e = absurd (omega arith)
nothing_behind (t ∷ a) b e = ap (λ (ts : List Token). t ∷ ts) (nothing_behind a b e)

-- ---- two ways

pub grouped : (a b c : List Token) → (a ++ b) ++ c ≡ a ++ (b ++ c)
grouped [] b c = refl
grouped (t ∷ a) b c = ap (λ (ts : List Token). t ∷ ts) (grouped a b c)

-- the shorter of two beginnings of a text is the beginning of the other
pub data Cuts (a b c d : List Token) : Type 0 where
  same : a ≡ c → b ≡ d → Cuts a b c d
  sooner : (t : Token) (e : List Token) → c ≡ a ++ t ∷ e → b ≡ t ∷ (e ++ d) → Cuts a b c d
  later : (t : Token) (e : List Token) → a ≡ c ++ t ∷ e → d ≡ t ∷ (e ++ b) → Cuts a b c d

behind_one : (t u : Token) (a b c d : List Token) → t ≡ u → Cuts a b c d → Cuts (t ∷ a) b (u ∷ c) d
behind_one t u a b c d e (same f g) = same (λ x. e x ∷ f x) g
behind_one t u a b c d e (sooner w r f g) = sooner w r (λ x. sym e x ∷ f x) g
behind_one t u a b c d e (later w r f g) = later w r (λ x. e x ∷ f x) g

pub cuts : (a b c d : List Token) → a ++ b ≡ c ++ d → Cuts a b c d
cuts [] b [] d e = same refl e
cuts [] b (u ∷ c) d e = sooner u c refl e
cuts (t ∷ a) b [] d e = later t a refl (sym e)
cuts (t ∷ a) b (u ∷ c) d e =
    let first : t ≡ u = cc in
    let rest : a ++ b ≡ c ++ d = cc in
    behind_one t u a b c d first (cuts a b c d rest)
