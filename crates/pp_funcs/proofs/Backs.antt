-- White space at the end of a text, byte by byte from the end.
use Rattle.std.proofs.Common.{◌≡◌, ℕ, ◌-◌, ◌<◌, ◌≤◌, true, false, List, [], ◌∷◌, ◌++◌, length, take, get_or, refl, ap, arith, sym, subst}
use Rattle.std.proofs.lemmas.Grind.{common_steps}
use Rattle.pp_funcs.specs.Texts.{is_white, before, without_back}

-- a white byte behind a text is dropped, and another one keeps all before it
white_behind : (bs : List ℕ) (b : ℕ) → is_white b ≡ true → without_back (bs ++ b ∷ []) ≡ without_back bs
white_behind [] b h = rw h refl
white_behind (c ∷ bs) b h = ap (before c) (white_behind bs b h)

before_some : (c : ℕ) (bs : List ℕ) → 0 < length bs → before c bs ≡ c ∷ bs
before_some c [] h = absurd (omega (arith, h))
before_some c (b ∷ bs) h = refl

other_behind : (bs : List ℕ) (b : ℕ) → is_white b ≡ false → without_back (bs ++ b ∷ []) ≡ bs ++ b ∷ []
other_behind [] b h = rw h refl
other_behind (c ∷ bs) b h = rw (other_behind bs b h) (before_some c (bs ++ b ∷ []) (grind (arith, common_steps)))

-- the front of a text up to the byte before a place, and that byte
one_more : (bs : List ℕ) (n : ℕ) → 0 < n → n ≤ length bs → take n bs ≡ take (n - 1) bs ++ get_or bs (n - 1) 0 ∷ []
one_more bs n some h = grind (arith, common_steps)

pub white_last : (bs : List ℕ) (n : ℕ) → 0 < n → n ≤ length bs → is_white (get_or bs (n - 1) 0) ≡ true →
    without_back (take n bs) ≡ without_back (take (n - 1) bs)
white_last bs n some h w = rw (one_more bs n some h) (white_behind (take (n - 1) bs) (get_or bs (n - 1) 0) w)

pub other_last : (bs : List ℕ) (n : ℕ) → 0 < n → n ≤ length bs → is_white (get_or bs (n - 1) 0) ≡ false →
    without_back (take n bs) ≡ take n bs
other_last bs n some h w =
    subst (λ xs. without_back xs ≡ xs) (sym (one_more bs n some h))
    (other_behind (take (n - 1) bs) (get_or bs (n - 1) 0) w)

pub white_is_ascii : (b : ℕ) → is_white b ≡ true → b < 128
white_is_ascii b h = grind arith
